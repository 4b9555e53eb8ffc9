use Rattle.endgame_table.proofs.Sound.{tables_fit_everywhere}
use Rattle.endgame_table.proofs.laws.tables_fit_everywhere.Goals as goal

pub returns : goal.returns
returns c = tables_fit_everywhere
