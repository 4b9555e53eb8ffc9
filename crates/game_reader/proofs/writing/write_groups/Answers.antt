use Rattle.game_reader.proofs.Written.{writes_more}
use Rattle.game_reader.proofs.writing.write_groups.Goals as goal

pub loop-place-preserved : goal.loop-place-preserved
loop-place-preserved g c =
    writes_more (g.K.Sink.taken c.args.sink.now) (g.K.Sink.taken c.loop-place.sink) (g.K.Sink.taken c.write_group.new.sink) c.loop-place.invariant c.in_ok-write_group.ensures
