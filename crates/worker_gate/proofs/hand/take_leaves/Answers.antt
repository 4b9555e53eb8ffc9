use Rattle.std.proofs.Common.{◌++◌, ◌∷◌, [], ap, ◌∙◌}
use Rattle.std.proofs.lemmas.List.Elements.{All-nil}
use Rattle.tree_manager.specs.Turns.{AsksForSearch}
use Rattle.tree_manager.proofs.TakenLemmas.{turn_stays, turn_then}
use Rattle.worker_gate.proofs.SearchingLemmas.{one_more_asks, leased_asks}
use Rattle.worker_gate.proofs.hand.take_leaves.Goals as goal

pub loop-init : goal.loop-init
loop-init g c =
    let given = c.in_ok-lease.field-0 in
    record {
      goes_on = turn_stays _;
      leases =
          one_more_asks c.args.turn.now.session.line _ [] _ given c.lease.ensures.goes_on.line (All-nil (AsksForSearch c.args.turn.now.session.line))
          (leased_asks c.args.turn.now.session.line _ c.args.turn.now.session.core.state c.args.worker given c.lease.ensures.goes_on.line c.in_ok-lease.ensures.turn c.in_ok-lease.ensures.answer c.in_ok-lease.ensures.sight)
          (c.push_reserved.ensures.items ∙ ap (λ leases. leases ++ given ∷ []) (c.reserve.ensures.items ∙ c.requires));
    }

pub loop-preserved : goal.loop-preserved
loop-preserved g c = record {
  goes_on = turn_then _ _ _ c.loop.invariant.goes_on c.lease-in-loop.ensures.goes_on;
  leases =
      one_more_asks c.loop.turn.session.line _ c.loop.leases.items _ c.in-Ok.lease c.lease-in-loop.ensures.goes_on.line c.loop.invariant.leases
      (leased_asks c.loop.turn.session.line _ c.loop.turn.session.core.state c.args.worker c.in-Ok.lease c.lease-in-loop.ensures.goes_on.line c.in-Ok.ensures.turn c.in-Ok.ensures.answer c.in-Ok.ensures.sight)
      (c.push_reserved-in-Ok.ensures.items ∙ ap (λ leases. leases ++ c.in-Ok.lease ∷ []) c.reserve-in-loop.ensures.items);
}
