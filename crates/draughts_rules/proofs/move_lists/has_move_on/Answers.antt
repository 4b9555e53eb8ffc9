use Rattle.std.proofs.Common.{◌≡◌, ◌∙◌, Bool, true, false, ◌||◌, sym, ap, refl, List, ℕ}
use Rattle.std.specs.Prelude.{IsTrue, ◌↔◌}
use Rattle.std.specs.List.{list_any}
use Rattle.draughts_board.specs.Geometry.{squares}
use Rattle.draughts_board.specs.Board.{Board, IsLawful}
use Rattle.draughts_board.specs.Rules.{IsLegal, has_jump}
use Rattle.draughts_board.proofs.FirstTo.{some_listed}
use Rattle.draughts_board.proofs.SomeMove.{some_move, may_step}
use Rattle.draughts_rules.proofs.move_lists.has_move_on.Goals as goal

-- a test that is a jump or a step tells whether there is a legal path
tells : (p : Board) (b : Bool) → IsLawful p → b ≡ (has_jump p || list_any (may_step p) squares) → IsTrue b ↔ ((path : List ℕ) × IsLegal p path)
tells p b lawful e = (λ h. (some_move p lawful).0 (sym e ∙ h), λ r. e ∙ (some_move p lawful).1 r)

jump : (c : goal.Then-has_jump) → c.has_jump.result ≡ (has_jump c.args.p.now || list_any (may_step c.args.p.now) squares)
jump c = c.if-has_jump.true ∙ ap (λ b. b || list_any (may_step c.args.p.now) squares) (sym (sym c.has_jump.ensures.jump ∙ c.if-has_jump.true))

step : (c : goal.After-has_step) → c.has_step.result ≡ (has_jump c.args.p.now || list_any (may_step c.args.p.now) squares)
step c = c.has_step.ensures.steps ∙ ap (λ b. b || list_any (may_step c.args.p.now) squares) (sym (sym c.has_jump.ensures.jump ∙ c.if-has_jump.false))

pub returns-then-has_jump-clause-rules : goal.returns-then-has_jump-clause-rules
returns-then-has_jump-clause-rules c = tells c.args.p.now c.has_jump.result c.has_jump.ensures.lawful (jump c)

pub returns-then-has_jump-clause-listed : goal.returns-then-has_jump-clause-listed
returns-then-has_jump-clause-listed c = some_listed c.args.p.now c.has_jump.result c.has_jump.ensures.lawful (tells c.args.p.now c.has_jump.result c.has_jump.ensures.lawful (jump c))

pub returns-else-has_jump-clause-rules : goal.returns-else-has_jump-clause-rules
returns-else-has_jump-clause-rules c = tells c.args.p.now c.has_step.result c.has_step.ensures.lawful (step c)

pub returns-else-has_jump-clause-listed : goal.returns-else-has_jump-clause-listed
returns-else-has_jump-clause-listed c = some_listed c.args.p.now c.has_step.result c.has_step.ensures.lawful (tells c.args.p.now c.has_step.result c.has_step.ensures.lawful (step c))
