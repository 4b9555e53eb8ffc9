use Rattle.std.proofs.Common.{◌≡◌, List, false, subst}
use Rattle.std.specs.Prelude.{All}
use Rattle.std.proofs.lemmas.List.Elements.{All-more}
use Rattle.strategy_certificate.specs.declared.certificates.Part.{Part}
use Rattle.certificate_joiner.specs.Strategy.{part_shows, ShowsNone}
use Rattle.certificate_joiner.proofs.shown.find_among.Goals as goal

pub loop-i-preserved : goal.loop-i-preserved
loop-i-preserved c =
    All-more (ShowsNone c.args.quest.aim c.args.quest.side) c.args.shown.now c.loop-i.i c.index-shown-i.result c.loop-i-test.true c.loop-i.invariant
    (subst (λ (parts : List Part). All (λ one. part_shows c.args.quest.aim c.args.quest.side one ≡ false) parts) c.as_slice.ensures c.in_default.ensures)
