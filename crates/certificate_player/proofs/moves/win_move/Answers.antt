use Rattle.std.proofs.Common.{Some, refl, arith}
use Rattle.certificate_player.proofs.Finds.{win_high, win_none, win_some, win_without}
use Rattle.certificate_player.proofs.moves.win_move.Goals as goal
use Rattle.certificate_player.proofs.moves.win_move.Goals.{in-Some+else-entry-rank, in_default}

pub returns-then-entry-rank-clause-some : goal.returns-then-entry-rank-clause-some
returns-then-entry-rank-clause-some c =
    win_some c.args.part.now c.args.p.now (Some c.in-Some.entry) c.in-Some.ensures.found c.in-Some.entry refl c.args.rank (omega arith) c.in-Some.entry.chosen refl

pub returns-then-entry-rank-clause-none : goal.returns-then-entry-rank-clause-none
returns-then-entry-rank-clause-none c =
    win_none c.args.part.now c.args.p.now (Some c.in-Some.entry) c.in-Some.ensures.found c.in-Some.entry refl c.args.rank c.in-Some.entry.chosen refl

pub returns-clause-none : goal.returns-clause-none
returns-clause-none c = elim c.match-find.branch [
  | in-Some+else-entry-rank w ↦ win_high c.args.part.now c.args.p.now (Some w.in-Some.entry) w.in-Some.ensures.found w.in-Some.entry refl c.args.rank (omega arith)
  | in_default w ↦ win_without c.args.part.now c.args.p.now c.args.rank (w.in_default.ensures.none.0 refl)
]
