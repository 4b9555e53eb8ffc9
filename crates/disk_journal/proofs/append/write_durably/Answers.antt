use Rattle.std.specs.Prelude.{length}
use Rattle.bench_disk.specs.Disk.{IsTorn}
use Rattle.bench_disk.specs.Runs.{Leaves, leaves_then, leaves_weaker}
use Rattle.disk_journal.proofs.DurableLemmas.{torn_from_settled}
use Rattle.disk_journal.proofs.append.write_durably.Goals as goal

pub returns-in_err-write_at-clause-crash : goal.returns-in_err-write_at-clause-crash
returns-in_err-write_at-clause-crash g c = λ tells.
    torn_from_settled g.D.Disk.reads g.D.Disk.images g.D.Disk.images_since g.D.Disk.moment c.args.disk.now _ c.args.at (length c.args.bytes.now) (c.requires.settled tells) (c.in_err-write_at.ensures.writes tells)

pub returns-clause-crash : goal.returns-clause-crash
returns-clause-crash g c = λ tells.
    let first = torn_from_settled g.D.Disk.reads g.D.Disk.images g.D.Disk.images_since g.D.Disk.moment c.args.disk.now _ c.args.at (length c.args.bytes.now) (c.requires.settled tells) (c.in_ok-write_at.ensures.writes tells) in
    leaves_then g.D.Disk.moment g.D.Disk.images_since (λ disk s t image. g.met.D.Disk.earlier_counts disk s t image tells) _ _ _ (IsTorn c.args.at (length c.args.bytes.now) (g.D.Disk.reads c.args.disk.now)) first
    (leaves_weaker g.D.Disk.moment g.D.Disk.images_since _ _ _ _ (λ image now. first.each image (g.met.D.Disk.now_counts _ _ image tells first.later now)) (c.sync.ensures.syncs tells).run)
