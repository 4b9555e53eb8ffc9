use Rattle.std.specs.Prelude.{Ok, Err}
use Rattle.std.specs.Bool.{OnFalse}
use Rattle.std.proofs.Common.{rules, refl, subst, sym}
use Rattle.bench_disk.specs.Disk.{NothingPending}
use Rattle.bench_disk.specs.Runs.{Leaves}
use Rattle.disk_journal.specs.Contents.{HasContents, contents_of}
use Rattle.disk_journal.specs.Format.{HasPayloads, HasPlaces}
use Rattle.disk_journal.specs.Refusals.{Explains, says_nothing_of_file}
use Rattle.disk_journal.proofs.ExactLemmas.{attaches_exactly}
use Rattle.disk_journal.proofs.AttachLemmas.{left_has, sync_then}
use Rattle.disk_journal.proofs.JournalLemmas.{prefix_same}
use Rattle.disk_journal.proofs.journal.Journal.attach.Goals as goal

pub returns-in-Ok-load-clause-since_opened : goal.returns-in-Ok-load-clause-since_opened
returns-in-Ok-load-clause-since_opened g c = λ tells payloads has image since.
    let disk = c.sync.new.self in
    let settled : NothingPending (g.D.Disk.reads disk) (g.D.Disk.images disk) = search rules in
    let was = subst (λ file. HasPayloads c.args.pieces file payloads) (sym (c.sync.ensures.syncs tells).same) has in
    let left = (c.load.ensures.crash tells).each image (subst (λ t. g.D.Disk.images_since c.load.new.disk t image) c.moment-opened.ensures since) in
    (payloads, left_has c.args.pieces (g.D.Disk.images disk) (g.D.Disk.reads disk) image payloads settled was left, prefix_same payloads, prefix_same payloads)

pub returns-in-Ok-load-clause-crash : goal.returns-in-Ok-load-clause-crash
returns-in-Ok-load-clause-crash g c = λ tells.
    let syncing : Leaves g.D.Disk.moment g.D.Disk.images_since c.args.disk c.sync.new.self (g.D.Disk.images c.args.disk) =
    (c.sync.ensures.syncs tells).run in
    sync_then g.D.Disk.reads g.D.Disk.images g.D.Disk.images_since g.D.Disk.moment (λ disk t image. g.met.D.Disk.now_counts disk t image tells) (λ disk s t image. g.met.D.Disk.earlier_counts disk s t image tells)
    c.args.disk c.sync.new.self c.load.new.disk (c.sync.ensures.syncs tells).same syncing (c.load.ensures.crash tells)

pub returns-in-Err-load-clause-crash : goal.returns-in-Err-load-clause-crash
returns-in-Err-load-clause-crash g c = λ tells.
    let syncing : Leaves g.D.Disk.moment g.D.Disk.images_since c.args.disk c.sync.new.self (g.D.Disk.images c.args.disk) =
    (c.sync.ensures.syncs tells).run in
    sync_then g.D.Disk.reads g.D.Disk.images g.D.Disk.images_since g.D.Disk.moment (λ disk t image. g.met.D.Disk.now_counts disk t image tells) (λ disk s t image. g.met.D.Disk.earlier_counts disk s t image tells)
    c.args.disk c.sync.new.self c.load.new.disk (c.sync.ensures.syncs tells).same syncing (c.load.ensures.crash tells)

pub returns-in-Ok-load-clause-exact : goal.returns-in-Ok-load-clause-exact
returns-in-Ok-load-clause-exact g c = λ tells.
    let file = g.D.Disk.reads c.args.disk in
    let same = (c.sync.ensures.syncs tells).same in
    let contents = contents_of c.args.pieces c.in-Ok-load.found.payloads.items in
    let has : HasContents file contents = record {
      payloads = subst (λ f. HasPayloads c.args.pieces f contents.payloads) same (c.in-Ok-load.ensures.payloads tells);
      places = subst (λ f. HasPlaces c.args.pieces f contents.places) same (c.in-Ok-load.ensures.places tells);
    } in
    attaches_exactly file c.args.pieces (Ok contents) (has, refl) tt

pub returns-in-Err-load-clause-exact : goal.returns-in-Err-load-clause-exact
returns-in-Err-load-clause-exact g c = λ tells.
    let file = g.D.Disk.reads c.args.disk in
    let refusal = c.in-Err-load.refusal in
    let fault : OnFalse (says_nothing_of_file refusal) (Explains file c.args.pieces refusal) =
    subst (λ f. OnFalse (says_nothing_of_file refusal) (Explains f c.args.pieces refusal)) (c.sync.ensures.syncs tells).same (c.in-Err-load.ensures.refused tells) in
    attaches_exactly file c.args.pieces (Err refusal) tt fault
