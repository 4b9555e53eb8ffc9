use Rattle.std.proofs.Common.{rules, sym, subst, refl, arith}
use Rattle.std.specs.Prelude.{◌↔◌, IsTrue}
use Rattle.std.proofs.lemmas.Iterator.{cases_from_all, YieldsList-from_range}
use borrow.Author.Tests.{tests}
use Rattle.strategy_certificate.specs.Claims.{HasShortRanks}
use Rattle.strategy_certificate.specs.declared.certificates.Part.{Part}
use Rattle.strategy_certificate.proofs.RankLemmas.{Short, Long, ranks_decided}
use Rattle.strategy_certificate.proofs.shortening.has_short_ranks.Goals as goal

pub returns-in-Win : goal.returns-in-Win
returns-in-Win c =
    let rows = c.in-Win.list.entries in
    subst (λ (part : Part). IsTrue c.all.result ↔ HasShortRanks part) (sym c.in-Win.is)
    (ranks_decided rows c.len.result c.len.ensures.value c.all.result
    (cases_from_all _ _ _ (Short rows c.len.result c.len.ensures.value) (Long rows c.len.result c.len.ensures.value) c.all.ensures.ran (YieldsList-from_range 0 c.len.result c.len.result refl (omega arith)) (λ x q k. search (rules, tests)) (λ x q k. search (rules, tests))))
