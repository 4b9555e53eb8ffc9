use Rattle.std.proofs.Common.{length}
use Rattle.endgame_table.specs.Rows.{moves_of}
use Rattle.endgame_table.proofs.filling.fill.Given as goal

abbrev pub ghost-run_rounds : goal.ghost-run_rounds
ghost-run_rounds a = moves_of (length a.origins.now.heads.items)
