use Rattle.std.proofs.Common.{◌≡◌, ◌∙◌, ℕ, List, Vec, Global, inl, map, sym, subst}
use Rattle.std.specs.Prelude.{Err, OnOk, ◌++◌}
use Rattle.bench_disk.specs.Runs.{Leaves}
use Rattle.disk_journal.specs.Format.{HasPayloads, HasPlaces, StandsForEither}
use Rattle.disk_journal.specs.declared.payload.Payload.{Payload}
use Rattle.tree_manager.specs.Replaying.{payload_texts}
use Rattle.journal_lessons.specs.Learnt.{ExplainsNoLesson, KeepsWhole}
use Rattle.journal_lessons.specs.Teaching.{IsTaughtBehind, RefusesBehind}
use Rattle.journal_lessons.proofs.DiskLemmas.{does_from, journal_refused, keeps_recorded, keeps_still, silent_refused, taught_some, teach_refused}
use Rattle.journal_lessons.proofs.FileLemmas.{causes_from}
use Rattle.journal_lessons.proofs.learning.learn.Goals as goal

-- ---- a disk that is not attached

pub returns-in-Err-clause-causes : goal.returns-in-Err-clause-causes
returns-in-Err-clause-causes g c honest cause stands =
    let file = g.D.Disk.reads c.args.disk in
    let k : c.pieces.result ≡ c.args.proved.pieces = c.pieces.ensures.value ∙ c.requires in
    let why = subst (ExplainsNoLesson file c.args.proved) (sym c.from.ensures) (journal_refused c.pieces.result file c.args.proved c.in-Err.refused.1 k (c.in-Err.ensures.exact honest).fault) in
    causes_from file file c.args.proved (Err c.from.result) tt why cause stands

pub returns-in-Err-clause-leaves : goal.returns-in-Err-clause-leaves
returns-in-Err-clause-leaves g c honest pending =
    let laws = g.met.D.Disk in
    keeps_still g.D.Disk c.args.proved c.args.disk c.in-Err.refused.0 (λ disk t image le now. laws.now_counts disk t image honest le now) (laws.reads_is_image c.in-Err.refused.0 honest)
    pending (c.in-Err.ensures.crash honest) (c.in-Err.ensures.unwritten honest) (c.in-Err.ensures.settled honest pending)

-- ---- one from which nothing is learnt

pub returns-clause-refused : goal.returns-clause-refused
returns-clause-refused g c honest =
    let file = g.D.Disk.reads c.args.disk in
    let items : List Payload = c.in-Ok.attached.1.items in
    let k : c.in-Ok.attached.0.pieces ≡ c.args.proved.pieces = c.in-Ok.ensures.state.0 ∙ (c.pieces.ensures.value ∙ c.requires) in
    teach_refused file c.args.proved items c.in-Err-teach.refusal
    (subst (λ n. HasPayloads n file (payload_texts items)) k (c.in-Ok.ensures.exact honest).good.0.payloads)
    (subst (λ n. HasPlaces n file (map (λ (p : Payload). p.at) items)) k (c.in-Ok.ensures.exact honest).good.0.places)
    (subst (λ (l : List Payload). RefusesBehind c.args.proved l c.in-Err-teach.refusal) c.deref.ensures.value c.in-Err-teach.ensures.refused)

pub returns-clause-causes : goal.returns-clause-causes
returns-clause-causes g c honest cause stands =
    let file = g.D.Disk.reads c.args.disk in
    causes_from file file c.args.proved (Err c.in-Err-teach.refusal) tt (returns-clause-refused g c honest) cause stands

pub returns-clause-leaves : goal.returns-clause-leaves
returns-clause-leaves g c honest pending =
    let laws = g.met.D.Disk in
    let mid = c.in-Ok.attached.0.disk in
    subst (λ d. KeepsWhole g.D.Disk c.args.proved c.args.disk d) (sym c.into_disk.ensures)
    (keeps_still g.D.Disk c.args.proved c.args.disk mid (λ disk t image le now. laws.now_counts disk t image honest le now) (laws.reads_is_image mid honest)
    pending (c.in-Ok.ensures.crash honest) (c.in-Ok.ensures.unwritten honest) (inl (c.in-Ok.ensures.durable honest)))

-- ---- one from which the texts are recorded

pub record-requires-clause-some : goal.record-requires-clause-some
record-requires-clause-some g c =
    taught_some (λ (t : Vec ℕ Global). t.items) c.args.proved c.deref.result.now c.in-Ok-teach.taught.root c.in-Ok-teach.taught.texts.items c.in-Ok-teach.ensures.taught

pub returns-in-Ok-teach-clause-does : goal.returns-in-Ok-teach-clause-does
returns-in-Ok-teach-clause-does g c honest =
    let file = g.D.Disk.reads c.args.disk in
    let file' = g.D.Disk.reads c.record.result.0 in
    let items : List Payload = c.in-Ok.attached.1.items in
    let root : ℕ = c.in-Ok-teach.taught.root in
    let texts : List (List ℕ) = map (λ (t : Vec ℕ Global). t.items) c.in-Ok-teach.taught.texts.items in
    let p : c.pieces.result ≡ c.args.proved.pieces = c.pieces.ensures.value ∙ c.requires in
    let k : c.in-Ok.attached.0.pieces ≡ c.args.proved.pieces = c.in-Ok.ensures.state.0 ∙ p in
    let taught = subst (λ (l : List Payload). IsTaughtBehind c.args.proved l root texts) c.deref.ensures.value c.in-Ok-teach.ensures.taught in
    let had = subst (λ n. HasPayloads n file (payload_texts items)) k (c.in-Ok.ensures.exact honest).good.0.payloads in
    let mid = subst (λ n. HasPayloads n (g.D.Disk.reads c.in-Ok.attached.0.disk) (payload_texts items)) (sym c.in-Ok.ensures.state.0) (c.in-Ok.ensures.same honest) in
    let has = subst (λ n. OnOk c.record.result.1 (HasPayloads n file' (payload_texts items ++ texts))) k (c.record.ensures.has honest (payload_texts items) mid) in
    does_from c.args.proved items file file' root texts taught had c.record.result.1 c.record.ensures.number has

pub returns-in-Ok-teach-clause-causes : goal.returns-in-Ok-teach-clause-causes
returns-in-Ok-teach-clause-causes g c honest cause stands =
    let file = g.D.Disk.reads c.args.disk in
    causes_from file (g.D.Disk.reads c.record.result.0) c.args.proved c.record.result.1 (returns-in-Ok-teach-clause-does g c honest) (silent_refused file c.args.proved c.record.result.1 c.record.ensures.refused) cause stands

pub returns-in-Ok-teach-clause-leaves : goal.returns-in-Ok-teach-clause-leaves
returns-in-Ok-teach-clause-leaves g c honest pending =
    let laws = g.met.D.Disk in
    let file = g.D.Disk.reads c.args.disk in
    let items : List Payload = c.in-Ok.attached.1.items in
    let root : ℕ = c.in-Ok-teach.taught.root in
    let texts : List (List ℕ) = map (λ (t : Vec ℕ Global). t.items) c.in-Ok-teach.taught.texts.items in
    let journal = c.in-Ok.attached.0 in
    let p : c.pieces.result ≡ c.args.proved.pieces = c.pieces.ensures.value ∙ c.requires in
    let k : journal.pieces ≡ c.args.proved.pieces = c.in-Ok.ensures.state.0 ∙ p in
    let taught = subst (λ (l : List Payload). IsTaughtBehind c.args.proved l root texts) c.deref.ensures.value c.in-Ok-teach.ensures.taught in
    let had = subst (λ n. HasPayloads n file (payload_texts items)) k (c.in-Ok.ensures.exact honest).good.0.payloads in
    let mid = subst (λ n. HasPayloads n (g.D.Disk.reads journal.disk) (payload_texts items)) (sym c.in-Ok.ensures.state.0) (c.in-Ok.ensures.same honest) in
    let second = subst (λ n. Leaves g.D.Disk.moment g.D.Disk.images_since journal.disk c.record.result.0 (StandsForEither n (payload_texts items) (payload_texts items ++ texts))) k
    (c.record.ensures.leaves honest (c.in-Ok.ensures.durable honest) (payload_texts items) mid) in
    keeps_recorded g.D.Disk c.args.proved items taught.0 root texts taught.1 c.args.disk journal.disk c.record.result.0
    (λ disk t image le now. laws.now_counts disk t image honest le now) (λ disk s t image le since. laws.earlier_counts disk s t image honest le since) pending
    (c.in-Ok.ensures.crash honest) had second c.in-Ok.ensures.cause (c.record.ensures.settled honest (c.in-Ok.ensures.durable honest))
