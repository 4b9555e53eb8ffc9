use Rattle.std.proofs.Common.{rules, ◌∙◌}
use Rattle.turn_lock.proofs.Entering.{takes_turn}
use Rattle.turn_lock.proofs.lock.TurnLock.take_turn.Goals as goal

pub compare_exchange-found-requires : goal.compare_exchange-found-requires
compare_exchange-found-requires g c = (
  search rules,
  search rules,
  takes_turn g.V.Kept.entries g.V.Kept.may_add _ _ c.args.seat.now.me.0.front _ (c.loop.invariant.1 ∙ c.requires.outside),
)
