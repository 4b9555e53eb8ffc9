use Rattle.game_reader.specs.Writing.{WritesGames}
use Rattle.game_reader.proofs.writing.write.Given as goal

abbrev pub invariant-games : goal.invariant-games
invariant-games g l = WritesGames (g.K.Sink.taken l.initial.sink) (g.K.Sink.taken l.sink)
