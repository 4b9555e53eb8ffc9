-- What a page's table says of roots.
use Rattle.std.specs.Prelude.{ℕ, List, [], ◌∷◌}
use Rattle.page_text.specs.declared.roots.RootCells.{RootCells}
use Rattle.journal_pages.specs.declared.roots.RootRow.{RootRow}

-- of a root on which this much work was spent
abbrev pub cells_of : RootRow → ℕ → RootCells
cells_of row work = record {
  position = row.position;
  value = row.value;
  black = row.black;
  white = row.white;
  nodes = row.census.nodes;
  leaves = row.census.open_leaves;
  work = work;
}

-- of each root, by what is known of it and by its work
abbrev pub all_cells : List RootRow → List ℕ → List RootCells
all_cells [] works = []
all_cells (row ∷ rows) [] = []
all_cells (row ∷ rows) (work ∷ works) = cells_of row work ∷ all_cells rows works
