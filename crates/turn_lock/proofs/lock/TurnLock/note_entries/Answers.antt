use Rattle.std.proofs.Common.{rules}
use Rattle.turn_lock.proofs.Holding.{notes_entries}
use Rattle.turn_lock.proofs.lock.TurnLock.note_entries.Goals as goal

pub fetch_add-requires : goal.fetch_add-requires
fetch_add-requires g c = (
  search rules,
  search rules,
  notes_entries g.V.Kept.entries g.V.Kept.may_add _ _ c.args.seat.now.me.0.front _ _ _ _ c.requires.turn c.requires.grows c.requires.added c.requires.fits,
)
