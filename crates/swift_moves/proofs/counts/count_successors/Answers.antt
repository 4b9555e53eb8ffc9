use Rattle.std.proofs.Common.{◌≡◌, ◌∙◌, false, length, ap, sym}
use Rattle.std.proofs.lemmas.List.{length-map}
use Rattle.draughts_board.specs.Board.{Board}
use Rattle.draughts_board.specs.Rules.{after, has_jump}
use Rattle.draughts_board.specs.Play.{steps}
use Rattle.swift_moves.proofs.LegalLists.{any-jumper}
use Rattle.swift_moves.proofs.StepsApart.{successors-of_steps}
use Rattle.swift_moves.proofs.counts.count_successors.Goals as goal

pub returns-then-not-is_any : goal.returns-then-not-is_any
returns-then-not-is_any c =
    let p : Board = c.args.p.now in
    let none : has_jump p ≡ false = sym (any-jumper p c.jumpers-jumpers.result (c.jumpers-jumpers.ensures p c.of-f.ensures.masks)) ∙ sym c.is_any.ensures ∙ c.if-not-is_any.true in
    c.count_steps.ensures p c.of-f.ensures.masks ∙ sym (length-map (steps p) (after p)) ∙ ap length (successors-of_steps p c.of-f.ensures.lawful none)

pub add_captured-requires-clause-jump : goal.add_captured-requires-clause-jump
add_captured-requires-clause-jump c =
    sym (any-jumper c.args.p.now c.jumpers-jumpers.result (c.jumpers-jumpers.ensures c.args.p.now c.of-f.ensures.masks)) ∙ sym c.is_any.ensures ∙ c.if-not-is_any.false
