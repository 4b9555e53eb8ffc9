use Rattle.endgame_table.proofs.BytesLemmas.{bytes_tell_apart}
use Rattle.endgame_table.proofs.laws.bytes_tell_apart.Goals as goal

pub returns : goal.returns
returns c = bytes_tell_apart
