use Rattle.certificate_player.proofs.Finds.{hold_none, hold_some}
use Rattle.certificate_player.proofs.moves.entry_move.Goals as goal

pub returns-in-Win-Some-clause-some : goal.returns-in-Win-Some-clause-some
returns-in-Win-Some-clause-some c = rw (c.in-Win-Some.is-0, c.in-Win-Some.is-1) c.win_move.ensures.some

pub returns-in-Win-Some-clause-none : goal.returns-in-Win-Some-clause-none
returns-in-Win-Some-clause-none c = rw (c.in-Win-Some.is-0, c.in-Win-Some.is-1) c.win_move.ensures.none

pub returns-in_ok-find-in-Hold-None-clause-some : goal.returns-in_ok-find-in-Hold-None-clause-some
returns-in_ok-find-in-Hold-None-clause-some c =
    rw (c.in-Hold-None.is-0, c.in-Hold-None.is-1) (hold_some c.in-Hold-None.part c.args.p.now c.in_ok-find-in-Hold-None.field-0 c.in_ok-find-in-Hold-None.ensures.found)

pub returns-in_ok-find-in-Hold-None-clause-none : goal.returns-in_ok-find-in-Hold-None-clause-none
returns-in_ok-find-in-Hold-None-clause-none c =
    rw (c.in-Hold-None.is-0, c.in-Hold-None.is-1) (hold_none c.in-Hold-None.part c.args.p.now c.in_ok-find-in-Hold-None.field-0 c.in_ok-find-in-Hold-None.ensures.found)
