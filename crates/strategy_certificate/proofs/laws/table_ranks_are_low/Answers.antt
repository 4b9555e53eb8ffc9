use Rattle.strategy_certificate.proofs.TableRanks.{table_ranks_are_low}
use Rattle.strategy_certificate.proofs.laws.table_ranks_are_low.Goals as goal

pub returns : goal.returns
returns c = table_ranks_are_low
