use Rattle.std.proofs.Common.{rules}
use Rattle.turn_lock.proofs.Holding.{gives_turn}
use Rattle.turn_lock.proofs.lock.TurnLock.give_turn.Goals as goal

pub store-requires : goal.store-requires
store-requires g c = (
  search rules,
  search rules,
  gives_turn g.V.Kept.entries g.V.Kept.may_add _ _ c.args.seat.now.me.0.front c.args.value _ (search rules) c.requires.whole,
)
