use Rattle.std.proofs.Common.{◌+◌, length}
use Rattle.endgame_table.specs.Rounds.{undecided}
use Rattle.endgame_table.proofs.RoundLemmas.{InRound}
use Rattle.endgame_table.proofs.rounds.run_rounds.Given as goal

abbrev pub invariant-loop-won : goal.invariant-loop-won
invariant-loop-won g l = InRound l.rank g.moves.rows g.moves.first l.origins l.numbers l.waiting l.lost.items

abbrev pub decreases-loop-won : goal.decreases-loop-won
decreases-loop-won g l = undecided l.numbers + length l.lost.items
