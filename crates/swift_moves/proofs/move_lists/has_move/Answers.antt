use Rattle.std.proofs.Common.{◌≡◌, ◌∙◌, ◌||◌, ℕ, List, sym}
use Rattle.std.specs.Prelude.{◌↔◌, IsTrue}
use Rattle.std.specs.List.{list_any}
use Rattle.std.specs.Int.Bits.{bit_or}
use Rattle.draughts_board.specs.Geometry.{squares}
use Rattle.draughts_board.specs.Board.{Board}
use Rattle.draughts_board.specs.Rules.{IsLegal, has_jump}
use Rattle.draughts_board.proofs.FirstTo.{some_listed}
use Rattle.draughts_board.proofs.SomeMove.{may_step, some_move}
use Rattle.draughts_board.specs.Masks.{stands_in}
use Rattle.swift_moves.specs.Forces.{is_jumper, is_stepper}
use Rattle.swift_moves.proofs.Going.{either_mask}
use Rattle.draughts_board.proofs.OnSquares.{any-on_squares}
use Rattle.swift_moves.proofs.Loops.{any-or}
use Rattle.swift_moves.proofs.move_lists.has_move.Goals as goal

told : (c : goal.After-is_any) → IsTrue c.is_any.result ↔ ((path : List ℕ) × IsLegal c.args.p.now path)
told c =
    let p : Board = c.args.p.now in
    let both : ℕ = bit_or c.jumpers.result c.steppers.result in
    let said : c.is_any.result ≡ (has_jump p || list_any (may_step p) squares) =
    c.is_any.ensures
    ∙ any-on_squares (stands_in both) (λ n. is_jumper p n || is_stepper p n) (either_mask (is_jumper p) (is_stepper p) c.jumpers.result c.steppers.result (c.jumpers.ensures p c.of-f.ensures.masks) (c.steppers.ensures p c.of-f.ensures.masks))
    ∙ any-or (is_jumper p) (is_stepper p) squares in
    let law = some_move p c.of-f.ensures.lawful in
    (λ h. law.0 (sym said ∙ h), λ r. said ∙ law.1 r)

pub returns-clause-rules : goal.returns-clause-rules
returns-clause-rules c = told c

pub returns-clause-listed : goal.returns-clause-listed
returns-clause-listed c = some_listed c.args.p.now c.is_any.result c.of-f.ensures.lawful (told c)
