use Rattle.std.proofs.Common.{◌≡◌, ◌∙◌, ◌++◌, ◌∷◌, ◌-◌, [], ℕ, true, ap, sym, subst, refl, inr, arith}
use Rattle.std.specs.Prelude.{flat_map, filter}
use Rattle.std.specs.Int.Bits.{bit_and}
use Rattle.draughts_board.specs.Geometry.{squares}
use Rattle.draughts_board.specs.Board.{Board}
use Rattle.draughts_board.specs.Rules.{IsStep, after, is_step}
use Rattle.draughts_board.specs.Masks.{squares_of}
use Rattle.draughts_board.proofs.OnSquares.{squares_of-test}
use Rattle.swift_moves.proofs.Loops.{rest-turn, rest-end}
use Rattle.swift_moves.proofs.CaptureMasks.{Every, every_passes}
use Rattle.swift_moves.proofs.MovedMasks.{step_takes_nothing}
use Rattle.swift_moves.proofs.StepsApart.{map-flat_map}
use Rattle.swift_moves.proofs.next.add_stepped_of.Goals as goal

pub loop-left-init : goal.loop-left-init
loop-left-init c =
    let test = is_step c.args.p.now c.args.«from» in
    (refl, subst (Every (λ z. test z ≡ true)) (sym (squares_of-test test c.step_targets-left.result c.step_targets-left.ensures)) (every_passes test squares))

pub position_after-q-requires : goal.position_after-q-requires
position_after-q-requires c =
    let p : Board = c.args.p.now in
    let x : ℕ = c.args.«from» in
    let to : ℕ = c.lowest-to.result in
    let there : Every (λ z. is_step p x z ≡ true) (to ∷ squares_of (bit_and c.loop-left.left (c.loop-left.left - 1))) = subst (Every (λ z. is_step p x z ≡ true)) c.lowest-to.ensures.first c.loop-left.invariant.1 in
    let step : IsStep p (x ∷ to ∷ []) = record { two = refl; own = c.requires.own; step = there.0; no_jump = c.requires.no_jump } in
    record {
      some = omega arith;
      legal = inr step;
      taken = step_takes_nothing p x to there.0;
    }

pub loop-left-preserved : goal.loop-left-preserved
loop-left-preserved c =
    let p : Board = c.args.p.now in
    let x : ℕ = c.args.«from» in
    let to : ℕ = c.lowest-to.result in
    let later : ℕ = bit_and c.loop-left.left (c.loop-left.left - 1) in
    let there : Every (λ z. is_step p x z ≡ true) (to ∷ squares_of later) = subst (Every (λ z. is_step p x z ≡ true)) c.lowest-to.ensures.first c.loop-left.invariant.1 in (
      rest-turn (λ z. after p (x ∷ z ∷ []) ∷ []) c.loop-left.next.items c.push.new.self.items _ c.loop-left.left to later c.lowest-to.ensures.first c.loop-left.invariant.0
          (c.in_ok-push.ensures.items ∙ ap (λ (q : Board). c.loop-left.next.items ++ q ∷ []) c.position_after-q.ensures),
      there.1,
    )

pub returns : goal.returns
returns c =
    let p : Board = c.args.p.now in
    let x : ℕ = c.args.«from» in
    rest-end (λ z. after p (x ∷ z ∷ []) ∷ []) c.loop-left.next.items _ c.loop-left.left c.loop-left-test.false c.loop-left.invariant.0
    ∙ ap (λ l. c.args.next.now.items ++ flat_map (λ z. after p (x ∷ z ∷ []) ∷ []) l) (squares_of-test (is_step p x) c.step_targets-left.result c.step_targets-left.ensures)
    ∙ ap (λ l. c.args.next.now.items ++ l) (sym (map-flat_map (after p) (λ z. (x ∷ z ∷ []) ∷ []) (filter (is_step p x) squares)))
