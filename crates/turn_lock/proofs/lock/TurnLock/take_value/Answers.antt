use Rattle.std.proofs.Common.{rules, ap, refl, Some}
use Rattle.turn_lock.proofs.Entering.{takes_value}
use Rattle.turn_lock.proofs.lock.TurnLock.take_value.Goals as goal

pub fetch_add-requires : goal.fetch_add-requires
fetch_add-requires g c = (
  search rules,
  search rules,
  takes_value g.V.Kept.entries g.V.Kept.may_add _ _ c.args.seat.now.me.0.front _ c.requires.turn,
)

pub exchange-requires : goal.exchange-requires
exchange-requires g c = let told = c.fetch_add.ensures.2 in (
  search rules,
  (Some told.0, rw (ap (λ me. me.1) told.1) refl),
)
