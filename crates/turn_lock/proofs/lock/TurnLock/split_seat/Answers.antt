use Rattle.std.proofs.Common.{rules, ap}
use Rattle.turn_lock.proofs.Passes.{splits}
use Rattle.turn_lock.proofs.lock.TurnLock.split_seat.Goals as goal

pub split_seat-requires : goal.split_seat-requires
split_seat-requires g c = (
  search rules,
  search rules,
  splits g.V.Kept.entries g.V.Kept.may_add _ c.args.seat.now.me.0.front _ (ap (λ me. me.0) c.requires.outside),
)
