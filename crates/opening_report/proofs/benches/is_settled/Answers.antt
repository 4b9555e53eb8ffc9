use Rattle.std.proofs.Common.{◌∙◌, ap, length}
use Rattle.proof_tree.specs.Forest.{nodes, Forest}
use Rattle.opening_report.specs.Report.{forest_roots, settled_count}
use Rattle.opening_report.proofs.BenchLemmas.{all_settled_from}
use Rattle.opening_report.proofs.benches.is_settled.Goals as goal

pub returns : goal.returns
returns c =
    all_settled_from c.args.bench.now.state.forest c.settled_roots.result c.roots.result
    (c.settled_roots.ensures.value ∙ ap (λ (f : Forest). settled_count (forest_roots f)) c.tree-tree.ensures.forest)
    (c.roots.ensures.value ∙ ap (λ (f : Forest). length (nodes f)) c.tree-tree.ensures.forest)
