use Rattle.endgame_table.proofs.Sound.{one_table}
use Rattle.endgame_table.proofs.laws.one_table.Goals as goal

pub returns : goal.returns
returns c = one_table
