use Rattle.std.proofs.Common.{length, inl, subst}
use Rattle.bench_disk.specs.Disk.{IsTorn}
use Rattle.bench_disk.specs.Runs.{leaves_then, leaves_weaker}
use Rattle.disk_journal.specs.Gate.{IsClosedOrOpened}
use Rattle.disk_journal.proofs.GateLemmas.{torn_behind, torn_gate}
use Rattle.disk_journal.proofs.append.append_text.Goals as goal

pub returns-in_err-write_durably-clause-crash : goal.returns-in_err-write_durably-clause-crash
returns-in_err-write_durably-clause-crash g c = λ tells.
    let file = g.D.Disk.reads c.args.disk.now in
    leaves_weaker g.D.Disk.moment g.D.Disk.images_since _ _ _ _ (λ image torn. inl (torn_behind c.args.gate (length c.args.text.now) file image (c.requires.closed tells) torn)) (c.in_err-write_durably.ensures.crash tells)

pub returns-clause-crash : goal.returns-clause-crash
returns-clause-crash g c = λ tells.
    let file = g.D.Disk.reads c.args.disk.now in
    let text = c.args.text.now in
    let shut = c.requires.closed tells in
    let P = IsClosedOrOpened c.args.gate text file in
    let behind = leaves_weaker g.D.Disk.moment g.D.Disk.images_since _ _ _ P (λ image torn. inl (torn_behind c.args.gate (length text) file image shut torn)) (c.in_ok-write_durably.ensures.crash tells) in
    let opening = leaves_weaker g.D.Disk.moment g.D.Disk.images_since _ _ _ P (λ image torn. torn_gate c.args.gate file text image shut (subst (λ old. IsTorn c.args.gate 1 old image) (c.in_ok-write_durably.ensures.written tells) torn)) (c.write_durably-2.ensures.crash tells) in
    leaves_then g.D.Disk.moment g.D.Disk.images_since (λ disk s t image. g.met.D.Disk.earlier_counts disk s t image tells) _ _ _ P behind opening
