use Rattle.table_index.proofs.OrderLemmas.{block_sizes}
use Rattle.table_index.proofs.laws.sizes_of_blocks.Goals as goal

pub returns : goal.returns
returns c = block_sizes
