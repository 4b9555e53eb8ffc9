use Rattle.std.proofs.Common.{◌≡◌, ◌∙◌, ◌≤◌, ℕ, List, [], sym, subst, ap, arith}
use Rattle.std.specs.Prelude.{false}
use Rattle.bench_disk.specs.Runs.{Leaves}
use Rattle.disk_journal.specs.Format.{IsFresh, StandsForEither}
use Rattle.disk_journal.specs.Log.{Log}
use Rattle.journal_shortening.specs.Written.{WritesNoneOrOne}
use Rattle.journal_shortening.proofs.OutcomeLemmas.{begun_fresh, writes_none, writes_one}
use Rattle.journal_shortening.proofs.CallLemmas.{map_match, rose_behind}
use Rattle.journal_shortening.proofs.writing.write_compacted.Goals as goal

pub returns-in-Err-clause-images : goal.returns-in-Err-clause-images
returns-in-Err-clause-images g c honest none =
    let read = c.args.read.now in
    writes_none g.B.Disk read.bench.state.settings.pieces read.bench.records c.args.into c.in-Err.refused.0
    (begun_fresh g.B.Disk c.args.into c.in-Err.refused.0 none (c.requires.fresh honest) (c.in-Err.ensures.crash honest))

pub returns-in-Err-stage_compacted-clause-images : goal.returns-in-Err-stage_compacted-clause-images
returns-in-Err-stage_compacted-clause-images g c honest none =
    let read = c.args.read.now in
    let first = begun_fresh g.B.Disk c.args.into c.in-Ok.journal.disk none (c.requires.fresh honest) (c.in-Ok.ensures.crash honest) in
    let same : c.into_disk.result ≡ c.in-Ok.journal.disk = c.into_disk.ensures ∙ ap (λ (j : Log _). j.disk) c.stage_compacted.ensures.rest in
    writes_none g.B.Disk read.bench.state.settings.pieces read.bench.records c.args.into c.into_disk.result
    (subst (λ d. Leaves g.B.Disk.moment g.B.Disk.images_since c.args.into d IsFresh) (sym same) first)

pub returns-clause-images : goal.returns-clause-images
returns-clause-images g c honest none =
    let read = c.args.read.now in
    let k : ℕ = read.bench.state.settings.pieces in
    let mid = c.stage_compacted.new.journal.disk in
    let staged : List (List ℕ) = c.stage_compacted.new.journal.staged in
    let first = begun_fresh g.B.Disk c.args.into c.in-Ok.journal.disk none (c.requires.fresh honest) (c.in-Ok.ensures.crash honest) in
    let same : mid ≡ c.in-Ok.journal.disk = ap (λ (j : Log _). j.disk) c.stage_compacted.ensures.rest in
    let begun = subst (λ d. Leaves g.B.Disk.moment g.B.Disk.images_since c.args.into d IsFresh) (sym same) first in
    let pieces : c.stage_compacted.new.journal.pieces ≡ k = ap (λ (j : Log _). j.pieces) c.stage_compacted.ensures.rest ∙ (c.in-Ok.ensures.begun.0 ∙ (c.pieces.ensures.value ∙ c.requires.tables)) in
    map_match c.commit_compacted.result _ _ _ _
    (λ done run. writes_one g.B.Disk honest g.met.B.Disk.earlier_counts k read.bench.records staged c.in_default.ensures.staged c.args.into mid done.0 begun
    (subst (λ n. Leaves g.B.Disk.moment g.B.Disk.images_since mid done.0 (StandsForEither n [] staged)) pieces run))
    (λ e run. writes_one g.B.Disk honest g.met.B.Disk.earlier_counts k read.bench.records staged c.in_default.ensures.staged c.args.into mid e.0 begun
    (subst (λ n. Leaves g.B.Disk.moment g.B.Disk.images_since mid e.0 (StandsForEither n [] staged)) pieces run))
    (c.commit_compacted.ensures.crash honest)

pub returns-clause-faults : goal.returns-clause-faults
returns-clause-faults g c =
    let faults = g.B.Disk.faults in
    let mid = c.stage_compacted.new.journal.disk in
    let same : mid ≡ c.in-Ok.journal.disk = ap (λ (j : Log _). j.disk) c.stage_compacted.ensures.rest in
    let le : faults c.args.into ≤ faults mid = subst (λ d. faults c.args.into ≤ faults d) (sym same) c.in-Ok.ensures.faults in
    rose_behind faults c.args.into mid c.commit_compacted.result le c.commit_compacted.ensures.faults
