use Rattle.table_index.proofs.OrderLemmas.{positions_have_indices, positions_stand_at_their_indices, no_index_is_shared}
use Rattle.table_index.proofs.laws.positions_have_indices.Goals as goal

pub returns : goal.returns
returns c = record { below = positions_have_indices; there = positions_stand_at_their_indices; own = no_index_is_shared }
