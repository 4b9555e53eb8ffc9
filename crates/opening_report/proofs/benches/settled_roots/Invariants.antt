use Rattle.std.proofs.Common.{◌≡◌, ◌≤◌, take}
use Rattle.opening_report.specs.Report.{forest_roots, settled_count}
use Rattle.opening_report.proofs.benches.settled_roots.Given as goal

abbrev pub invariant-loop-place : goal.invariant-loop-place
invariant-loop-place l = (l.settled ≡ settled_count (take l.place (forest_roots l.tree.forest))) × (l.settled ≤ l.place)
