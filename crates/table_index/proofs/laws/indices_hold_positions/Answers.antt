use Rattle.table_index.proofs.OrderLemmas.{indices_hold_positions}
use Rattle.table_index.proofs.laws.indices_hold_positions.Goals as goal

pub returns : goal.returns
returns c = indices_hold_positions
