use Rattle.std.proofs.Common.{◌≤◌, length, subst}
use Rattle.proof_tree.specs.Forest.{nodes, Forest}
use Rattle.opening_report.proofs.BenchLemmas.{summary_is_line}
use Rattle.opening_report.proofs.benches.summary_text.Goals as goal

pub returns-clause-line : goal.returns-clause-line
returns-clause-line c =
    summary_is_line c.args.bench.now.state.forest (subst (λ (f : Forest). length (nodes f) ≤ 65536) c.tree-tree.ensures.forest c.roots-roots.ensures.valid.few_roots)
