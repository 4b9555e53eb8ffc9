use Rattle.std.proofs.Common.{◌≡◌, ◌∙◌, ◌++◌, ◌∷◌, ◌-◌, [], List, true, false, not, length, ap, sym, subst, refl, ℕ, arith}
use Rattle.std.specs.Prelude.{Contains, flat_map}
use Rattle.std.specs.Int.Bits.{bit_and}
use Rattle.draughts_board.specs.Board.{Board}
use Rattle.draughts_board.specs.Rules.{further_jumps, goes_on, contains, jumped, is_own}
use Rattle.draughts_board.specs.Play.{is_done, grown, IsCapturePrefix}
use Rattle.draughts_board.proofs.NoCapture.{done-at_start}
use Rattle.draughts_board.proofs.Growth.{longer-prefix, grown-step, further_goes_on}
use Rattle.draughts_board.specs.Masks.{IsMaskOf, squares_of}
use Rattle.draughts_board.proofs.OnSquares.{squares_of-test}
use Rattle.swift_moves.proofs.Loops.{rest-turn, rest-end}
use Rattle.swift_moves.proofs.CaptureMasks.{Every, every_self, apart-on}
use Rattle.swift_moves.proofs.captures.add_captures_of.Goals as goal

one_square : (p : Board) (x : ℕ) → is_own p x ≡ true → IsCapturePrefix p (x ∷ [])
one_square p x h = record { own = h; jumps = refl; once = refl; crowned_last = refl }

-- the piece has a jump, so its capture does not end before its first one
pub loop-left-init : goal.loop-left-init
loop-left-init c =
    let p : Board = c.args.p.now in
    let path : List ℕ = c.args.«from» ∷ [] in
    let all : squares_of c.jump_targets-left.result ≡ further_jumps p path = squares_of-test (goes_on p path) c.jump_targets-left.result c.jump_targets-left.ensures in
    (refl, subst (Every (Contains (further_jumps p path))) (sym all) (every_self (further_jumps p path)))

pub with_jump-requires-clause-jump : goal.with_jump-requires-clause-jump
with_jump-requires-clause-jump c =
    let p : Board = c.args.p.now in
    let path : List ℕ = c.args.«from» ∷ [] in
    let there : Every (Contains (further_jumps p path)) (c.lowest-to.result ∷ squares_of (bit_and c.loop-left.left (c.loop-left.left - 1))) = subst (Every (Contains (further_jumps p path))) c.lowest-to.ensures.first c.loop-left.invariant.1 in
    apart-on p path c.lowest-to.result (further_goes_on p path c.lowest-to.result there.0)

pub grow-requires : goal.grow-requires
grow-requires c =
    let p : Board = c.args.p.now in
    let x : ℕ = c.args.«from» in
    let path : List ℕ = x ∷ [] in
    let to : ℕ = c.lowest-to.result in
    let going : is_done p path ≡ false = done-at_start p x c.requires.lawful c.requires.own ∙ ap not c.requires.jump in
    let there : Every (Contains (further_jumps p path)) (to ∷ squares_of (bit_and c.loop-left.left (c.loop-left.left - 1))) = subst (Every (Contains (further_jumps p path))) c.lowest-to.ensures.first c.loop-left.invariant.1 in
    let longer : IsCapturePrefix p (x ∷ to ∷ []) = longer-prefix p path to (omega arith) (one_square p x c.requires.own) going there.0 in
    record {
      forces = c.requires.forces;
      lawful = c.requires.lawful;
      prefix = subst (IsCapturePrefix p) (sym c.direct-trail.ensures) longer;
      taken = subst (λ (q : List ℕ). IsMaskOf (contains (jumped q)) c.with_jump.result) (sym c.direct-trail.ensures) c.with_jump.ensures;
    }

pub loop-left-preserved : goal.loop-left-preserved
loop-left-preserved c =
    let p : Board = c.args.p.now in
    let x : ℕ = c.args.«from» in
    let path : List ℕ = x ∷ [] in
    let to : ℕ = c.lowest-to.result in
    let later : ℕ = bit_and c.loop-left.left (c.loop-left.left - 1) in
    let there : Every (Contains (further_jumps p path)) (to ∷ squares_of later) = subst (Every (Contains (further_jumps p path))) c.lowest-to.ensures.first c.loop-left.invariant.1 in (
      rest-turn (λ z. grown 11 p (x ∷ z ∷ [])) c.loop-left.found.items c.grow.new.found.items _ c.loop-left.left to later c.lowest-to.ensures.first c.loop-left.invariant.0
          (c.in_ok-grow.ensures ∙ ap (λ (q : List ℕ). c.loop-left.found.items ++ grown (13 - length q) p q) c.direct-trail.ensures),
      there.1,
    )

pub returns : goal.returns
returns c =
    let p : Board = c.args.p.now in
    let x : ℕ = c.args.«from» in
    let path : List ℕ = x ∷ [] in
    let going : is_done p path ≡ false = done-at_start p x c.requires.lawful c.requires.own ∙ ap not c.requires.jump in
    let all : squares_of c.jump_targets-left.result ≡ further_jumps p path = squares_of-test (goes_on p path) c.jump_targets-left.result c.jump_targets-left.ensures in
    rest-end (λ z. grown 11 p (x ∷ z ∷ [])) c.loop-left.found.items _ c.loop-left.left c.loop-left-test.false c.loop-left.invariant.0
    ∙ ap (λ zs. c.args.found.now.items ++ flat_map (λ z. grown 11 p (x ∷ z ∷ [])) zs) all
    ∙ ap (λ l. c.args.found.now.items ++ l) (sym (grown-step p path going (omega arith)))
