use Rattle.strategy_certificate.proofs.GoodMerges.{merged_wins_are_good, merged_holds_are_good, good_wins_hold}
use Rattle.strategy_certificate.proofs.laws.merged_parts_are_good.Goals as goal

pub returns : goal.returns
returns c = record { wins = merged_wins_are_good; holds = merged_holds_are_good; as_hold = good_wins_hold }
