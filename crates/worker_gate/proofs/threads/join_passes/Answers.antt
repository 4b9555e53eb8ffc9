use Rattle.std.proofs.lemmas.List.Elements.{All-pop}
use Rattle.turn_lock.specs.Seen.{IsOutside}
use Rattle.tree_manager.proofs.TurnLemmas.{grows_then}
use Rattle.worker_gate.proofs.threads.join_passes.Goals as goal

pub loop-other-preserved : goal.loop-other-preserved
loop-other-preserved g c = record {
  outside = c.join_pass.ensures.outside;
  grows = grows_then _ _ _ c.loop-other.invariant.grows c.join_pass.ensures.this;
  each = (All-pop (λ worker. IsOutside c.args.shared.now worker.pass) _ _ _ c.pop.ensures.items c.loop-other.invariant.each).0;
}
