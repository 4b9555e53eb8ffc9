use Rattle.std.proofs.Common.{◌∙◌, map, sym, subst}
use Rattle.strategy_certificate.specs.Certificates.{IsGood}
use Rattle.journal_lessons.proofs.TeachingLemmas.{refused_behind, taught_behind}
use Rattle.journal_lessons.proofs.teaching.teach.Goals as goal

pub teach_bench-requires-clause-good : goal.teach_bench-requires-clause-good
teach_bench-requires-clause-good c = subst IsGood (sym c.into_certificate-c.ensures.value) c.into_certificate-c.ensures.good

pub returns-clause-taught : goal.returns-clause-taught
returns-clause-taught c =
    taught_behind c.into_certificate-c.result c.args.proved c.args.payloads.now
    _ c.in_ok-bench.bench c.into_certificate-c.ensures.value c.in_ok-bench.ensures.replayed c.in_ok-bench.ensures.spelled (c.pieces.ensures.value ∙ c.requires)
    (λ t. t.root) (λ t. map (λ u. u.items) t.texts.items) c.teach_bench.result c.teach_bench.ensures.taught

pub returns-clause-refused : goal.returns-clause-refused
returns-clause-refused c =
    refused_behind c.into_certificate-c.result c.args.proved c.args.payloads.now
    _ c.in_ok-bench.bench c.into_certificate-c.ensures.value c.in_ok-bench.ensures.replayed c.in_ok-bench.ensures.spelled (c.pieces.ensures.value ∙ c.requires)
    c.teach_bench.result c.teach_bench.ensures.refused
