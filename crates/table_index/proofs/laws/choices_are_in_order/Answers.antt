use Rattle.table_index.proofs.InOrder.{choices_are_in_order}
use Rattle.table_index.proofs.laws.choices_are_in_order.Goals as goal

pub returns : goal.returns
returns c = choices_are_in_order
