use Rattle.std.proofs.Common.{subst, sym, Err}
use Rattle.bench_edges.specs.Words.{texts}
use Rattle.journal_shorten.specs.Runs.{DoesTask}
use Rattle.journal_shorten.specs.declared.refusals.ShortenRefusal.{ShortenRefusal}
use Rattle.journal_shorten.proofs.TaskLemmas.{does_nothing}
use Rattle.journal_shorten.proofs.running.done.Goals as goal

pub returns-in-Err : goal.returns-in-Err
returns-in-Err g c =
    subst (λ (refusal : ShortenRefusal). DoesTask g.A.Disk g.B.Disk (texts c.args.words.now) c.args.from c.args.from c.args.into c.args.into (Err refusal)) (sym c.from.ensures)
    (does_nothing g.A.Disk g.B.Disk g.met.A.Disk.only_now (texts c.args.words.now) c.args.from c.args.into c.in-Err.refusal c.in-Err.ensures.refused)
