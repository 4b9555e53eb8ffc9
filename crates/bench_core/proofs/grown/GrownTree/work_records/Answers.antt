use Rattle.std.proofs.Common.{ap, ◌∙◌}
use Rattle.std.specs.Prelude.{count_by}
use Rattle.bench_core.specs.Records.{is_work}
use Rattle.bench_core.specs.Grown.{GrownState}
use Rattle.bench_core.proofs.GrownLemmas.{work_logged}
use Rattle.bench_core.proofs.grown.GrownTree.work_records.Goals as goal

pub returns : goal.returns
returns c =
    let g = c.self.inside in
    c.self.invariant.counted ∙ (work_logged g.log g.shelf.puts c.self.invariant.shown ∙ ap (λ (s : GrownState). count_by is_work s.records) c.self.view_is)
