use Rattle.std.proofs.Common.{◌≡◌, ℕ, ◌+◌, ◌<◌, List, length, get_or, set, sym, ◌∙◌, ap, arith, rules, inl, inr, length-set}
use Rattle.std.proofs.lemmas.Bool.{cases_lt}
use Rattle.std.proofs.lemmas.List.{get_or-set_other}
use Rattle.std.proofs.lemmas.Grind.{get_or-set_at}
use Rattle.draughts_board.specs.declared.pieces.Cell.{Cell}
use Rattle.std.proofs.lemmas.List.FromFn.{fill_by_all}
use Rattle.draughts_board.specs.Geometry.{squares}
use Rattle.draughts_board.specs.declared.pieces.Cell.TheVariants.{Empty}
use Rattle.draughts_board.specs.Masks.{cell_in, cells_in}
use Rattle.draughts_board.proofs.masks.cells_in.Goals as goal

-- one more place is filled
filled : (f : ℕ → Cell) (cells : List Cell) (i : ℕ) (x : Cell) → i < length cells → x ≡ f i → ((k : ℕ) → k < i → get_or cells k Empty ≡ f k) → (k : ℕ) → k < i + 1 → get_or (set cells i x) k Empty ≡ f k
filled f cells i x within here before k below = elim (cases_lt k i) [
  | inl less ↦ get_or-set_other cells i k x Empty (λ e. absurd (omega (arith, e))) ∙ before k less
  | inr more ↦ (let at : k ≡ i = omega arith in get_or-set_at cells i k x Empty at within ∙ here ∙ ap f (sym at))
]

pub loop-i-preserved : goal.loop-i-preserved
loop-i-preserved c =
    let number : ◌≡◌ {A = ℕ} c.unwrap.result (c.loop-i.i + 1) = rw c.unwrap.ensures at c.new.ensures.some in
    let size = c.loop-i.invariant.0 in (
      length-set c.loop-i.cells c.loop-i.i c.cell_in.result ∙ size,
      filled (λ k. cell_in c.args.masks.now (k + 1)) c.loop-i.cells c.loop-i.i c.cell_in.result (omega (arith, size, c.loop-i-test.true))
          (c.cell_in.ensures.value ∙ ap (cell_in c.args.masks.now) number)
          c.loop-i.invariant.1,
    )

pub returns : goal.returns
unfolding cells_in squares
returns c = fill_by_all (λ k. cell_in c.args.masks.now (k + 1)) c.loop-i.cells 32 Empty c.loop-i.invariant.0 (search rules)
