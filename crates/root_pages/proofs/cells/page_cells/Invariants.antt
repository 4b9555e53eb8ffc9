use Rattle.std.proofs.Common.{◌≡◌, take}
use Rattle.root_pages.specs.Cells.{all_cells}
use Rattle.root_pages.proofs.cells.page_cells.Given as goal

abbrev pub invariant-loop-i : goal.invariant-loop-i
invariant-loop-i l = l.cells.items ≡ take l.i (all_cells l.rows l.work)
