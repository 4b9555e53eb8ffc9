use Rattle.std.proofs.Common.{◌≡◌, ◌++◌, ◌+◌, drop}
use Rattle.std.specs.List.{flat_map}
use Rattle.opening_report.specs.Report.{root_lines}
use Rattle.opening_report.proofs.reports.report.Given as goal

abbrev pub invariant-loop-i : goal.invariant-loop-i
invariant-loop-i l = l.text.items ++ flat_map (λ line. line) (root_lines (1 + l.i) (drop l.i l.roots)) ≡ flat_map (λ line. line) (root_lines 1 l.roots)
