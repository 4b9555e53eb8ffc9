use Rattle.game_reader.specs.Writing.{WritesGames}
use Rattle.game_reader.proofs.writing.write_groups.Given as goal

abbrev pub invariant-loop-place : goal.invariant-loop-place
invariant-loop-place g l = WritesGames (g.K.Sink.taken l.initial.sink) (g.K.Sink.taken l.sink)
