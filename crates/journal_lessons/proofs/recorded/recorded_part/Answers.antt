use Rattle.std.proofs.Common.{sym, ◌∙◌, subst}
use Rattle.std.proofs.lemmas.Bool.{false≢true}
use Rattle.strategy_certificate.specs.declared.certificates.Part.{Part}
use Rattle.strategy_certificate.specs.declared.certificates.Part.TheVariants as part
use Rattle.strategy_certificate.specs.Claims.{HasShortRanks}
use Rattle.journal_lessons.specs.Lessons.{IsRecordedPart}
use Rattle.journal_lessons.proofs.RecordedLemmas.{recorded_long}
use Rattle.journal_lessons.proofs.recorded.recorded_part.Goals as goal

pub returns-in_ok-short_ranks-in-Win : goal.returns-in_ok-short_ranks-in-Win
returns-in_ok-short_ranks-in-Win c =
    let short = c.in_ok-short_ranks-in-Win.field-0 in
    subst (λ (one : Part). IsRecordedPart one (part.Win short)) (sym c.in-Win.is)
    (recorded_long c.in-Win.wins short (λ fits. false≢true (sym c.if-has_short_ranks.false ∙ c.has_short_ranks.ensures.1 (subst HasShortRanks (sym c.in-Win.is) fits)))
    c.in_ok-short_ranks-in-Win.ensures.shortened c.in_ok-short_ranks-in-Win.ensures.short)
