use Rattle.tree_manager.proofs.TakenLemmas.{turn_then}
use Rattle.throughput_bench.proofs.by_hand.settle.Goals as goal

pub returns : goal.returns
returns g c = turn_then _ _ _ c.stage_numbered.ensures.goes_on (turn_then _ _ _ c.commit_in_turn.ensures.goes_on c.lease.ensures.goes_on)
