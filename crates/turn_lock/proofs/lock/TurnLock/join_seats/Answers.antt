use Rattle.std.proofs.Common.{rules, ap}
use Rattle.turn_lock.proofs.Passes.{joins, keeps_longer}
use Rattle.turn_lock.proofs.lock.TurnLock.join_seats.Goals as goal

pub join_seat-requires : goal.join_seat-requires
join_seat-requires g c = (
  search rules,
  search rules,
  search rules,
  search rules,
  joins g.V.Kept.entries g.V.Kept.may_add _ c.args.seat.now.me.0.front _ _ c.args.other.me.0.front _ (ap (λ me. me.0) c.requires.outside.0) (ap (λ me. me.0) c.requires.outside.1),
)

pub load-requires : goal.load-requires
load-requires g c = (
  search rules,
  search rules,
  keeps_longer g.V.Kept.entries g.V.Kept.may_add _ _ _ (search rules) (search rules),
)
