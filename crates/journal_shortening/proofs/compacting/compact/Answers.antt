use Rattle.std.proofs.Common.{◌≡◌, ◌∙◌, ◌≤◌, ◌<◌, ℕ, List, [], sym, subst, ap, arith}
use Rattle.std.specs.Prelude.{Err, true, false}
use Rattle.std.specs.Bool.{OnFalse}
use Rattle.std.proofs.lemmas.Bool.{false≢true}
use Rattle.disk_journal.proofs.LooksLemmas.{reads_so}
use Rattle.bench_core.specs.Growing.{IsForestOf}
use Rattle.tree_manager.specs.Receipts.{ReadsRecords, SpellsRecords}
use Rattle.tree_manager.specs.Replaying.{payload_texts}
use Rattle.journal_shortening.specs.Refusals.{Explains, IsCause, is_of_from, says_nothing}
use Rattle.journal_shortening.proofs.OutcomeLemmas.{is_shorter, looked_at, looks_fresh, looks_settled, no_call, shorter_behind}
use Rattle.journal_shortening.proofs.CauseLemmas.{fresh_blames, from_disk, never_into, not_fresh, not_fresh_once, not_read, not_read_once, nothing_said}
use Rattle.journal_shortening.proofs.CallLemmas.{faults_behind, map_err, map_match, map_ok, not_from_disk, not_of_from}
use Rattle.journal_shortening.proofs.compacting.compact.Goals as goal

-- ---- the old journal is not read

pub returns-in-Err-clause-from : goal.returns-in-Err-clause-from
returns-in-Err-clause-from g c =
    reads_so g.A.Disk _ _ _ _ c.in-Err.ensures.reads (λ is. ap (λ e. Err e) (from_disk c.in-Err.refusal (sym c.from.ensures ∙ is)))

pub returns-in-Err-clause-images : goal.returns-in-Err-clause-images
returns-in-Err-clause-images g c told honest none fresh =
    looked_at g.B.Disk (g.A.Disk.reads c.args.from.now) c.args.into c.args.into
    (looks_fresh g.B.Disk c.args.into c.args.into none fresh (no_call g.B.Disk honest g.met.B.Disk.only_now c.args.into))

pub returns-in-Err-clause-unwritten : goal.returns-in-Err-clause-unwritten
returns-in-Err-clause-unwritten g c honest long = no_call g.B.Disk honest g.met.B.Disk.only_now c.args.into

pub returns-in-Err-clause-refused : goal.returns-in-Err-clause-refused
returns-in-Err-clause-refused g c told honest =
    let file : List ℕ = g.A.Disk.reads c.args.from.now in
    let into : List ℕ = g.B.Disk.reads c.args.into in
    subst (Explains file into) (sym c.from.ensures) (not_read file into c.in-Err.refusal (c.in-Err.ensures.refused told))

pub returns-in-Err-clause-causes : goal.returns-in-Err-clause-causes
returns-in-Err-clause-causes g c told honest cause stands =
    subst (λ e. OnFalse (says_nothing e) (e ≡ cause)) (sym c.from.ensures)
    (not_read_once (g.A.Disk.reads c.args.from.now) (g.B.Disk.reads c.args.into) c.in-Err.refusal (c.in-Err.ensures.refused told) cause stands)

pub returns-in-Err-clause-faults : goal.returns-in-Err-clause-faults
returns-in-Err-clause-faults g c = (omega arith, λ is. absurd (never_into c.in-Err.refusal (sym c.from.ensures ∙ is)))

-- ---- the new one is not fresh

pub returns-in-Err-expect_fresh-clause-from : goal.returns-in-Err-expect_fresh-clause-from
returns-in-Err-expect_fresh-clause-from g c =
    reads_so g.A.Disk _ _ _ _ c.in-Ok.ensures.reads (λ is. absurd (false≢true (sym c.in-Err-expect_fresh.ensures.own ∙ ap is_of_from is)))

pub returns-in-Err-expect_fresh-clause-images : goal.returns-in-Err-expect_fresh-clause-images
returns-in-Err-expect_fresh-clause-images g c told honest none fresh =
    looked_at g.B.Disk (g.A.Disk.reads c.args.from.now) c.args.into c.expect_fresh.new.into
    (looks_fresh g.B.Disk c.args.into c.expect_fresh.new.into none fresh (c.in-Err-expect_fresh.ensures.reads.looks honest))

pub returns-in-Err-expect_fresh-clause-unwritten : goal.returns-in-Err-expect_fresh-clause-unwritten
returns-in-Err-expect_fresh-clause-unwritten g c honest long = c.in-Err-expect_fresh.ensures.reads.looks honest

pub returns-in-Err-expect_fresh-clause-unasked : goal.returns-in-Err-expect_fresh-clause-unasked
returns-in-Err-expect_fresh-clause-unasked g c is = absurd (false≢true (sym c.in-Err-expect_fresh.ensures.own ∙ is))

pub returns-in-Err-expect_fresh-clause-refused : goal.returns-in-Err-expect_fresh-clause-refused
returns-in-Err-expect_fresh-clause-refused g c told honest =
    not_fresh c.in-Ok.read.table.pieces (g.A.Disk.reads c.args.from.now) (g.B.Disk.reads c.args.into) c.in-Ok.read.bench.records c.in-Err-expect_fresh.refusal
    (c.in-Ok.ensures.read told) (c.in-Err-expect_fresh.ensures.refused honest)

pub returns-in-Err-expect_fresh-clause-causes : goal.returns-in-Err-expect_fresh-clause-causes
returns-in-Err-expect_fresh-clause-causes g c told honest cause stands =
    not_fresh_once c.in-Ok.read.table.pieces (g.A.Disk.reads c.args.from.now) (g.B.Disk.reads c.args.into) c.in-Ok.read.bench.records c.in-Err-expect_fresh.refusal
    (c.in-Ok.ensures.read told) (c.in-Err-expect_fresh.ensures.refused honest) cause stands

pub returns-in-Err-expect_fresh-clause-faults : goal.returns-in-Err-expect_fresh-clause-faults
returns-in-Err-expect_fresh-clause-faults g c =
    let reads = c.in-Err-expect_fresh.ensures.reads in (reads.faults, λ is. reads.cause (ap (λ e. Err e) is))

-- ---- it is

pub write_compacted-requires-clause-spelled : goal.write_compacted-requires-clause-spelled
write_compacted-requires-clause-spelled g c =
    subst (λ n. SpellsRecords n [] c.in-Ok.read.bench.records (payload_texts c.in-Ok.read.payloads.items)) c.in-Ok.ensures.same c.in-Ok.ensures.spelled

pub returns-clause-from : goal.returns-clause-from
returns-clause-from g c =
    reads_so g.A.Disk _ _ _ _ c.in-Ok.ensures.reads (λ is. absurd (not_from_disk c.write_compacted.result c.write_compacted.ensures.own is))

pub returns-clause-shorter : goal.returns-clause-shorter
returns-clause-shorter g c told honest =
    let read = c.in-Ok.read in
    let k : ℕ = read.bench.state.settings.pieces in
    let file : List ℕ = g.A.Disk.reads c.args.from.now in
    map_ok c.write_compacted.result _ _
    (λ done w. is_shorter k read.bench.records read.bench.state.forest file (g.B.Disk.reads done.0) done.1
    (subst (λ n. IsForestOf n read.bench.records read.bench.state.forest) c.in-Ok.ensures.same c.in-Ok.ensures.forest)
    (subst (λ n. ReadsRecords n file read.bench.records) c.in-Ok.ensures.same (c.in-Ok.ensures.read told)) w)
    (c.write_compacted.ensures.written honest)

pub returns-clause-images : goal.returns-clause-images
returns-clause-images g c told honest none fresh =
    let read = c.in-Ok.read in
    let k : ℕ = read.bench.state.settings.pieces in
    let file : List ℕ = g.A.Disk.reads c.args.from.now in
    let into = c.args.into in
    let mid = c.expect_fresh.new.into in
    let looks = c.in_default.ensures.reads.looks honest in
    let first = looks_fresh g.B.Disk into mid none fresh looks in
    let has = subst (λ n. ReadsRecords n file read.bench.records) c.in-Ok.ensures.same (c.in-Ok.ensures.read told) in
    map_match c.write_compacted.result _ _ _ _
    (λ done w. shorter_behind g.B.Disk honest g.met.B.Disk.earlier_counts k read.bench.records file into mid done.0 has first w)
    (λ e w. shorter_behind g.B.Disk honest g.met.B.Disk.earlier_counts k read.bench.records file into mid e.0 has first w)
    (c.write_compacted.ensures.images honest (looks_settled g.B.Disk honest g.met.B.Disk.now_counts into mid none looks))

pub returns-clause-unwritten : goal.returns-clause-unwritten
returns-clause-unwritten g c honest long = absurd (let fresh = c.in_default.ensures.fresh honest in omega (arith, fresh, long))

pub returns-clause-unasked : goal.returns-clause-unasked
returns-clause-unasked g c = not_of_from c.write_compacted.result c.args.into c.write_compacted.ensures.own

pub returns-clause-refused : goal.returns-clause-refused
returns-clause-refused g c told honest =
    map_err c.write_compacted.result _ _
    (λ e h. nothing_said (says_nothing e.1) (IsCause (g.A.Disk.reads c.args.from.now) (g.B.Disk.reads c.args.into) e.1) h) (c.write_compacted.ensures.refused honest)

pub returns-clause-causes : goal.returns-clause-causes
returns-clause-causes g c told honest cause stands =
    absurd (fresh_blames c.in-Ok.read.table.pieces (g.A.Disk.reads c.args.from.now) (g.B.Disk.reads c.args.into) c.in-Ok.read.bench.records cause
    (c.in-Ok.ensures.read told) (c.in_default.ensures.fresh honest) stands)

pub returns-clause-faults : goal.returns-clause-faults
returns-clause-faults g c =
    faults_behind g.B.Disk.faults c.args.into c.expect_fresh.new.into c.write_compacted.result c.in_default.ensures.reads.faults c.write_compacted.ensures.faults
