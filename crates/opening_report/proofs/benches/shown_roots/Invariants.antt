use Rattle.std.proofs.Common.{◌≡◌, take}
use Rattle.opening_report.specs.Report.{forest_roots, AreTrueRoots}
use Rattle.opening_report.proofs.benches.shown_roots.Given as goal

abbrev pub invariant-loop-place : goal.invariant-loop-place
invariant-loop-place g l = (l.roots.items ≡ take l.place (forest_roots l.bench.state.forest)) × AreTrueRoots l.roots.items
