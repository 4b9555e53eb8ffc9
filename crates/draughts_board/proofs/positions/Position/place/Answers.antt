use Rattle.std.proofs.Common.{◌≡◌, ◌≤◌, ◌+◌, ◌-◌, ℕ, true, ◌∙◌, sym, ap, arith, get_or, refl, length}
use Rattle.std.proofs.lemmas.Bool.{true≢false}
use Rattle.draughts_board.specs.declared.pieces.Cell.TheVariants.{Empty}
use Rattle.draughts_board.specs.Board.{IsLeastMisplaced, is_allowed, all_allowed}
use Rattle.draughts_board.specs.declared.pieces.Cell.{Cell}
use Rattle.std.specs.Prelude.{List}
use Rattle.draughts_board.proofs.Allowed.{allowed_at}
use Rattle.draughts_board.proofs.positions.Position.place.Goals as goal

none_misplaced : (cells : List Cell) (s : ℕ) → length cells ≡ 32 → all_allowed 1 cells ≡ true → IsLeastMisplaced cells s → ⊥
none_misplaced cells s size all h =
    let least : 1 ≤ s = h.0 in
    let most : s ≤ 32 = h.1 in
    let back : 1 + (s - 1) ≡ s = omega arith in
    true≢false (sym (allowed_at 1 cells (s - 1) all (omega (arith, size))) ∙ ap (λ n. is_allowed n (get_or cells (s - 1) Empty)) back ∙ h.2)

pub returns-in-None-clause-man : goal.returns-in-None-clause-man
returns-in-None-clause-man c = λ s. (λ e. cc, λ h. absurd (none_misplaced c.args.cells s c.least_misplaced.ensures.squares (c.in-None.ensures.none.0 refl) h.2))
