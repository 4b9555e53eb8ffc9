-- The cells of one root more.
use Rattle.std.proofs.Common.{◌≡◌, ℕ, zero, suc, ◌+◌, ◌<◌, List, [], ◌∷◌, ◌++◌, take, length, get_or, refl, sym, ◌∙◌, ap, arith}
use Rattle.std.proofs.lemmas.List.{take_more}
use Rattle.journal_pages.specs.declared.roots.RootRow.{RootRow}
use Rattle.page_text.specs.declared.roots.RootCells.{RootCells}
use Rattle.root_pages.specs.Cells.{all_cells, cells_of}

pub as_many : (rows : List RootRow) (works : List ℕ) → length works ≡ length rows → length (all_cells rows works) ≡ length rows
as_many [] works same = refl
as_many (row ∷ rows) [] same = same
as_many (row ∷ rows) (work ∷ works) same =
    let less : length works ≡ length rows = omega (arith, same) in
    ap suc (as_many rows works less)

cells_at : (rows : List RootRow) (works : List ℕ) (i : ℕ) (row : RootRow) (work : ℕ) → length works ≡ length rows → i < length rows
    → get_or (all_cells rows works) i (cells_of row work) ≡ cells_of (get_or rows i row) (get_or works i work)
cells_at [] works i row work same within = absurd (omega (arith, within))
cells_at (r ∷ rows) [] i row work same within = absurd (omega (arith, same))
cells_at (r ∷ rows) (w ∷ works) zero row work same within = refl
cells_at (r ∷ rows) (w ∷ works) (suc i) row work same within = cells_at rows works i row work (omega (arith, same)) (omega (arith, within))

pub cells_more : (rows : List RootRow) (works : List ℕ) (i : ℕ) (row : RootRow) (work : ℕ) (done more : List RootCells) (one : RootCells) → length works ≡ length rows → i < length rows
    → row ≡ get_or rows i row → work ≡ get_or works i work → one ≡ cells_of row work → done ≡ take i (all_cells rows works) → more ≡ done ++ one ∷ []
    → more ≡ take (i + 1) (all_cells rows works)
cells_more rows works i row work done more one same within row_is work_is one_is so_far pushed =
    let here : get_or (all_cells rows works) i (cells_of row work) ≡ one =
    cells_at rows works i row work same within ∙ ((λ j. cells_of (sym row_is j) (sym work_is j)) ∙ sym one_is) in
    let long : i < length (all_cells rows works) = (let l = as_many rows works same in omega (arith, l, within)) in
    pushed ∙ (ap (λ (l : List RootCells). l ++ one ∷ []) so_far
    ∙ sym (take_more (all_cells rows works) i (cells_of row work) long ∙ ap (λ (c : RootCells). take i (all_cells rows works) ++ c ∷ []) here))
