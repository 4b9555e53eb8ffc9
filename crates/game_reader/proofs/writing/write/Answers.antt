use Rattle.game_reader.proofs.Written.{writes_more}
use Rattle.game_reader.proofs.writing.write.Goals as goal

pub games-preserved : goal.games-preserved
games-preserved g c =
    writes_more (g.K.Sink.taken c.args.sink.now) (g.K.Sink.taken c.games.sink) (g.K.Sink.taken c.write_game.new.sink) c.games.invariant c.in_ok-write_game.ensures
