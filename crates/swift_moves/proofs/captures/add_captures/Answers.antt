use Rattle.std.proofs.Common.{◌≡◌, ◌∙◌, ◌++◌, ◌∷◌, [], ◌-◌, true, ℕ, ap, sym, subst, refl}
use Rattle.std.specs.Int.Bits.{bit_and}
use Rattle.std.specs.Cmp.{first_so, second_so}
use Rattle.draughts_board.specs.Geometry.{squares}
use Rattle.draughts_board.specs.Rules.{is_own}
use Rattle.draughts_board.specs.Play.{grown}
use Rattle.draughts_board.specs.Masks.{squares_of}
use Rattle.draughts_board.proofs.OnSquares.{squares_of-test}
use Rattle.swift_moves.specs.Forces.{is_jumper}
use Rattle.swift_moves.proofs.LegalLists.{captures_of-mask}
use Rattle.swift_moves.proofs.Loops.{rest-turn, rest-end}
use Rattle.swift_moves.proofs.CaptureMasks.{Every, every_passes}
use Rattle.swift_moves.proofs.captures.add_captures.Goals as goal

pub loop-left-init : goal.loop-left-init
loop-left-init c =
    let p = c.args.p.now in
    (refl, subst (Every (λ x. is_jumper p x ≡ true)) (sym (squares_of-test (is_jumper p) c.args.jumpers c.requires.jumpers)) (every_passes (is_jumper p) squares))

pub add_captures_of-requires-clause-own : goal.add_captures_of-requires-clause-own
add_captures_of-requires-clause-own c =
    let p = c.args.p.now in
    let there : Every (λ x. is_jumper p x ≡ true) (c.lowest.result ∷ squares_of (bit_and c.loop-left.left (c.loop-left.left - 1))) = subst (Every (λ x. is_jumper p x ≡ true)) c.lowest.ensures.first c.loop-left.invariant.1 in
    first_so _ _ there.0

pub add_captures_of-requires-clause-jump : goal.add_captures_of-requires-clause-jump
add_captures_of-requires-clause-jump c =
    let p = c.args.p.now in
    let there : Every (λ x. is_jumper p x ≡ true) (c.lowest.result ∷ squares_of (bit_and c.loop-left.left (c.loop-left.left - 1))) = subst (Every (λ x. is_jumper p x ≡ true)) c.lowest.ensures.first c.loop-left.invariant.1 in
    second_so (is_own p c.lowest.result) _ there.0

pub loop-left-preserved : goal.loop-left-preserved
loop-left-preserved c =
    let p = c.args.p.now in
    let later : ℕ = bit_and c.loop-left.left (c.loop-left.left - 1) in
    let there : Every (λ x. is_jumper p x ≡ true) (c.lowest.result ∷ squares_of later) = subst (Every (λ x. is_jumper p x ≡ true)) c.lowest.ensures.first c.loop-left.invariant.1 in
    (rest-turn (λ x. grown 12 p (x ∷ [])) c.loop-left.found.items c.add_captures_of.new.found.items _ c.loop-left.left c.lowest.result later c.lowest.ensures.first c.loop-left.invariant.0 c.in_ok-add_captures_of.ensures, there.1)

pub returns : goal.returns
returns c =
    rest-end (λ x. grown 12 c.args.p.now (x ∷ [])) c.loop-left.found.items _ c.loop-left.left c.loop-left-test.false c.loop-left.invariant.0
    ∙ ap (λ l. c.args.found.now.items ++ l) (captures_of-mask c.args.p.now c.args.jumpers c.requires.lawful c.requires.jumpers)
