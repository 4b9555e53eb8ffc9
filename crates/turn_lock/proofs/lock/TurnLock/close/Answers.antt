use Rattle.std.proofs.Common.{ap, subst}
use Rattle.turn_lock.specs.Growth.{GrowsTo}
use Rattle.turn_lock.proofs.Whole.{closes, closes_some, closes_none}
use Rattle.turn_lock.proofs.lock.TurnLock.close.Goals as goal

pub unreachable-requires : goal.unreachable-requires
unreachable-requires g c = closes_none g.V.Kept.entries g.V.Kept.may_add _ _ _ c.in-None.is
    (closes g.V.Kept.entries g.V.Kept.may_add _ _ _ _ _ _ _ c.take_turn.ensures.turn c.close_with-closed.ensures.values.2 c.word-count.ensures c.take-home.ensures.value)

pub returns-clause-grows : goal.returns-clause-grows
returns-clause-grows g c = subst (λ front. GrowsTo g.V.Kept.may_add front (g.V.Kept.entries c.in-Some.value)) (ap (λ pass. pass.front) c.into_seat-seat.ensures.view)
    (closes_some g.V.Kept.entries g.V.Kept.may_add _ _ _ _ c.in-Some.is
    (closes g.V.Kept.entries g.V.Kept.may_add _ _ _ _ _ _ _ c.take_turn.ensures.turn c.close_with-closed.ensures.values.2 c.word-count.ensures c.take-home.ensures.value)).0

pub returns-clause-count : goal.returns-clause-count
returns-clause-count g c = (closes_some g.V.Kept.entries g.V.Kept.may_add _ _ _ _ c.in-Some.is
    (closes g.V.Kept.entries g.V.Kept.may_add _ _ _ _ _ _ _ c.take_turn.ensures.turn c.close_with-closed.ensures.values.2 c.word-count.ensures c.take-home.ensures.value)).1
