use Rattle.std.proofs.Common.{◌≡◌, map, take}
use Rattle.journal_pages.specs.Roots.{row_of}
use Rattle.proof_tree.specs.Forest.{nodes}
use Rattle.journal_view.proofs.roots.rows_of.Given as goal

abbrev pub invariant-loop-place : goal.invariant-loop-place
invariant-loop-place l = l.rows.items ≡ take l.place (map row_of (nodes l.bench.state.forest))
