use Rattle.std.proofs.Common.{List, sym, subst}
use Rattle.certificate_joiner.specs.Shelf.{Put}
use Rattle.certificate_joiner.specs.Laws.{AreCertified}
use Rattle.bench_core.specs.Records.{batches_shown}
use Rattle.bench_core.specs.Grown.{GrownState}
use Rattle.bench_core.proofs.GrownLemmas.{batches_logged}
use Rattle.bench_core.proofs.grown.GrownTree.certificate.Goals as goal

pub join-requires-clause-certified : goal.join-requires-clause-certified
join-requires-clause-certified c =
    let g = c.self.inside in
    let here = subst (λ (s : GrownState). AreCertified c.args.pieces (batches_shown s.records) s.forest) (sym c.self.view_is) c.requires.certified in
    subst (λ (puts : List Put). AreCertified c.args.pieces puts g.tree.forest) (batches_logged g.log g.shelf.puts c.self.invariant.shown) here
