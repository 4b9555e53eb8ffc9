use Rattle.std.proofs.Common.{◌≡◌, ◌∙◌, true, false, sym}
use Rattle.draughts_board.specs.Board.{Board}
use Rattle.draughts_board.specs.Rules.{has_jump}
use Rattle.draughts_board.proofs.Turns.{if_ok_map}
use Rattle.swift_moves.proofs.LegalLists.{any-jumper, captures-legal, steps-legal, by_rules}
use Rattle.swift_moves.proofs.move_lists.legal_moves_into.Goals as goal

pub add_captures-requires-clause-jumpers : goal.add_captures-requires-clause-jumpers
add_captures-requires-clause-jumpers c = c.jumpers-jumpers.ensures c.args.p.now c.of-f.ensures.masks

pub returns-then-is_any-clause-exact : goal.returns-then-is_any-clause-exact
returns-then-is_any-clause-exact c =
    let p : Board = c.args.p.now in
    let jump : has_jump p ≡ true = sym (any-jumper p c.jumpers-jumpers.result (c.jumpers-jumpers.ensures p c.of-f.ensures.masks)) ∙ sym c.is_any.ensures ∙ c.if-is_any.true in
    if_ok_map _ _ c.add_captures.result (λ _ e. captures-legal p c.clear.new.self.items c.add_captures.new.found.items c.clear.ensures.items jump e) c.add_captures.ensures

pub returns-then-is_any-clause-rules : goal.returns-then-is_any-clause-rules
returns-then-is_any-clause-rules c =
    let p : Board = c.args.p.now in
    let jump : has_jump p ≡ true = sym (any-jumper p c.jumpers-jumpers.result (c.jumpers-jumpers.ensures p c.of-f.ensures.masks)) ∙ sym c.is_any.ensures ∙ c.if-is_any.true in
    if_ok_map _ _ c.add_captures.result (λ _ e. by_rules p c.add_captures.new.found.items c.of-f.ensures.lawful (captures-legal p c.clear.new.self.items c.add_captures.new.found.items c.clear.ensures.items jump e)) c.add_captures.ensures

pub returns-else-is_any-clause-exact : goal.returns-else-is_any-clause-exact
returns-else-is_any-clause-exact c =
    let p : Board = c.args.p.now in
    let jump : has_jump p ≡ false = sym (any-jumper p c.jumpers-jumpers.result (c.jumpers-jumpers.ensures p c.of-f.ensures.masks)) ∙ sym c.is_any.ensures ∙ c.if-is_any.false in
    if_ok_map _ _ c.add_steps.result (λ _ e. steps-legal p c.clear.new.self.items c.add_steps.new.found.items c.clear.ensures.items jump e) c.add_steps.ensures

pub returns-else-is_any-clause-rules : goal.returns-else-is_any-clause-rules
returns-else-is_any-clause-rules c =
    let p : Board = c.args.p.now in
    let jump : has_jump p ≡ false = sym (any-jumper p c.jumpers-jumpers.result (c.jumpers-jumpers.ensures p c.of-f.ensures.masks)) ∙ sym c.is_any.ensures ∙ c.if-is_any.false in
    if_ok_map _ _ c.add_steps.result (λ _ e. by_rules p c.add_steps.new.found.items c.of-f.ensures.lawful (steps-legal p c.clear.new.self.items c.add_steps.new.found.items c.clear.ensures.items jump e)) c.add_steps.ensures
