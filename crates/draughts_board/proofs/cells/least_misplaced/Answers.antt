use Rattle.std.proofs.Common.{◌≡◌, ◌+◌, ℕ, ◌∙◌, sym, ap, arith, get_or}
use Rattle.std.proofs.lemmas.Bool.{true≢false}
use Rattle.draughts_board.specs.Board.{is_allowed}
use Rattle.draughts_board.specs.declared.pieces.Cell.TheVariants.{Empty}
use Rattle.draughts_board.proofs.Allowed.{allowed_at, allowed_from}
use Rattle.draughts_board.proofs.cells.least_misplaced.Goals as goal

pub returns-then-not-is_allowed-clause-none : goal.returns-then-not-is_allowed-clause-none
returns-then-not-is_allowed-clause-none c =
    let square : ◌≡◌ {A = ℕ} c.unwrap-square.result (c.loop-place.place + 1) = rw c.unwrap-square.ensures at c.new.ensures.some in
    let same : ◌≡◌ {A = ℕ} c.unwrap-square.result (1 + c.loop-place.place) = omega (arith, square) in (
      λ e. absurd (true≢false e),
      λ all. absurd (true≢false
          (sym (allowed_at 1 c.args.cells.now c.loop-place.place all (omega arith))
          ∙ ap (λ n. is_allowed n (get_or c.args.cells.now c.loop-place.place Empty)) (sym same)
          ∙ sym c.is_allowed.ensures ∙ c.if-not-is_allowed.true)),
    )

pub returns-clause-none : goal.returns-clause-none
returns-clause-none c = (λ e. allowed_from 1 c.args.cells.now (λ k l. c.loop-place.invariant k (omega arith)), λ all. cc)
