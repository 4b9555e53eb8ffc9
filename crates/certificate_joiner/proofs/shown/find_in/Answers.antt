use Rattle.std.proofs.Common.{◌≡◌, ◌∙◌, false, sym, subst}
use Rattle.std.proofs.lemmas.List.Elements.{All-more}
use Rattle.strategy_certificate.specs.declared.certificates.Part.{Part}
use Rattle.certificate_joiner.specs.Strategy.{part_shows}
use Rattle.certificate_joiner.proofs.shown.find_in.Goals as goal

pub loop-i-preserved : goal.loop-i-preserved
loop-i-preserved c =
    let Hidden = λ (one : Part). part_shows c.args.quest.aim c.args.quest.side one ≡ false in
    All-more Hidden c.args.parts.now c.loop-i.i c.index-parts-i.result c.loop-i-test.true c.loop-i.invariant
    (subst Hidden c.index-parts-i.is (sym c.shows.ensures.value ∙ c.if-shows.false))
