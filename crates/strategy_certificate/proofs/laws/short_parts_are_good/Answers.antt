use Rattle.strategy_certificate.proofs.RankLemmas.{one_short_part, short_parts_are_good as good}
use Rattle.strategy_certificate.proofs.laws.short_parts_are_good.Goals as goal

pub returns : goal.returns
returns c = record { one = one_short_part; good = good }
