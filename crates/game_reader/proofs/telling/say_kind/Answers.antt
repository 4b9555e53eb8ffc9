use Rattle.game_reader.proofs.telling.say_kind.Goals as goal

pub returns : goal.returns
returns c = (c.deref.result.now, c.in_ok-say.ensures)
