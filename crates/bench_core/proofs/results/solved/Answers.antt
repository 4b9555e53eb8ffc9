use Rattle.std.proofs.Common.{◌≡◌, List, ap, sym, ◌∙◌, subst, All}
use Rattle.strategy_certificate.specs.declared.certificates.Certificate.{Certificate}
use Rattle.strategy_certificate.specs.Certificates.{IsGood}
use Rattle.bench_records.specs.declared.records.BenchRecord.TheVariants as records
use Rattle.bench_records.specs.Texts.{ShowsEnough, IsSoundRecord, record_sheet}
use Rattle.certificate_checker.specs.Answers.{IsAnswer}
use Rattle.certificate_checker.specs.Told.{facts_shown}
use Rattle.bench_core.proofs.FoundLemmas.{shows_enough}
use Rattle.bench_core.proofs.results.solved.Goals as goal

pub told_by_all-facts-requires : goal.told_by_all-facts-requires
told_by_all-facts-requires c =
    (c.args.lease.now.position, subst (λ (l : List Certificate). All (λ d. d.position ≡ c.args.lease.now.position) l) (sym c.as_slice.ensures) (λ i d low. (c.requires.each i d low).position))

pub solve_sheet-requires : goal.solve_sheet-requires
solve_sheet-requires c =
    let l = c.args.lease.now in
    let good = subst (All IsGood) c.as_slice.ensures c.told_by_all-facts.ensures.good in
    (l.pieces, subst (λ (found : List Certificate). ShowsEnough l.pieces (records.Solve l.node l.position found)) (sym c.in_ok-shown.ensures) (shows_enough l.pieces l.goal l.depth l.node l.position c.args.proofs good c.requires))

pub invariant_of-result : goal.invariant_of-result
invariant_of-result c =
    let l = c.args.lease.now in
    let good = subst (All IsGood) c.as_slice.ensures c.told_by_all-facts.ensures.good in
    let same : c.in_ok-shown-2.shown ≡ c.args.proofs = c.in_ok-shown-2.ensures.same ∙ c.in_ok-shown.ensures in
    let enough = subst (λ (found : List Certificate). ShowsEnough l.pieces (records.Solve l.node l.position found)) (sym c.in_ok-shown-2.ensures.same)
    (subst (λ (found : List Certificate). ShowsEnough l.pieces (records.Solve l.node l.position found)) (sym c.in_ok-shown.ensures) (shows_enough l.pieces l.goal l.depth l.node l.position c.args.proofs good c.requires)) in
    record {
      own = subst (IsAnswer l.pieces l.goal l.depth l.position) (sym same) c.requires;
      told = (subst (All IsGood) (sym same) good, c.told_by_all-facts.ensures.told ∙ ap facts_shown (c.as_slice.ensures ∙ sym same));
      shows = enough;
      sound = subst (λ (found : List Certificate). IsSoundRecord (records.Solve l.node l.position found)) (sym c.in_ok-shown-2.ensures.same) c.in_ok-shown-2.ensures.sound;
      of_kind = c.in_ok-shown-2.ensures.kind;
      has = c.in_ok-shown-2.ensures.sheet ∙ ap (λ (found : List Certificate). record_sheet (records.Solve l.node l.position found)) (sym c.in_ok-shown-2.ensures.same);
    }
