use Rattle.std.proofs.Common.{◌≡◌, ◌∙◌, ◌++◌, [], false, map, List, ap, sym}
use Rattle.draughts_board.specs.Board.{Board}
use Rattle.draughts_board.specs.Rules.{after, has_jump}
use Rattle.draughts_board.specs.Play.{steps, successors_of}
use Rattle.draughts_board.proofs.Turns.{if_ok_map}
use Rattle.swift_moves.proofs.LegalLists.{any-jumper, successors_by_rules}
use Rattle.swift_moves.proofs.StepsApart.{successors-of_steps}
use Rattle.swift_moves.proofs.next.successors_into.Goals as goal

pub add_captured-requires-clause-jump : goal.add_captured-requires-clause-jump
add_captured-requires-clause-jump c = sym (any-jumper c.args.p.now c.jumpers-jumpers.result (c.jumpers-jumpers.ensures c.args.p.now c.of-f.ensures.masks)) ∙ sym c.is_any.ensures ∙ c.if-is_any.true

pub add_captured-requires-clause-jumpers : goal.add_captured-requires-clause-jumpers
add_captured-requires-clause-jumpers c = c.jumpers-jumpers.ensures c.args.p.now c.of-f.ensures.masks

pub add_stepped-requires-clause-no_jump : goal.add_stepped-requires-clause-no_jump
add_stepped-requires-clause-no_jump c = sym (any-jumper c.args.p.now c.jumpers-jumpers.result (c.jumpers-jumpers.ensures c.args.p.now c.of-f.ensures.masks)) ∙ sym c.is_any.ensures ∙ c.if-is_any.false

pub returns-then-is_any-clause-rules : goal.returns-then-is_any-clause-rules
returns-then-is_any-clause-rules c =
    if_ok_map _ _ c.add_captured.result (λ _ e. successors_by_rules c.args.p.now c.add_captured.new.next.items c.of-f.ensures.lawful e) c.add_captured.ensures

-- what was added to an empty list
stepped : (p : Board) (before found : List Board) → before ≡ [] → map (after p) (steps p) ≡ successors_of p → found ≡ before ++ map (after p) (steps p) → found ≡ successors_of p
stepped p before found none all e = e ∙ ap (λ l. l ++ map (after p) (steps p)) none ∙ all

pub returns-else-is_any-clause-exact : goal.returns-else-is_any-clause-exact
returns-else-is_any-clause-exact c =
    let p : Board = c.args.p.now in
    let none : has_jump p ≡ false = sym (any-jumper p c.jumpers-jumpers.result (c.jumpers-jumpers.ensures c.args.p.now c.of-f.ensures.masks)) ∙ sym c.is_any.ensures ∙ c.if-is_any.false in
    if_ok_map _ _ c.add_stepped.result (λ _ e. stepped p c.clear.new.self.items c.add_stepped.new.next.items c.clear.ensures.items (successors-of_steps p c.of-f.ensures.lawful none) e) c.add_stepped.ensures

pub returns-else-is_any-clause-rules : goal.returns-else-is_any-clause-rules
returns-else-is_any-clause-rules c =
    let p : Board = c.args.p.now in
    let none : has_jump p ≡ false = sym (any-jumper p c.jumpers-jumpers.result (c.jumpers-jumpers.ensures c.args.p.now c.of-f.ensures.masks)) ∙ sym c.is_any.ensures ∙ c.if-is_any.false in
    if_ok_map _ _ c.add_stepped.result (λ _ e. successors_by_rules p c.add_stepped.new.next.items c.of-f.ensures.lawful (stepped p c.clear.new.self.items c.add_stepped.new.next.items c.clear.ensures.items (successors-of_steps p c.of-f.ensures.lawful none) e)) c.add_stepped.ensures
