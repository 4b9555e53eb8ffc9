use Rattle.strategy_certificate.proofs.Tables.{TableWins-wins, TableHolds-holds, sound_tables_agree}
use Rattle.strategy_certificate.proofs.laws.sound_tables_are_true.Goals as goal

pub returns-clause-wins : goal.returns-clause-wins
returns-clause-wins g t game turns k answer sound s r p shown = TableWins-wins game turns k answer sound s r p shown

pub returns-clause-holds : goal.returns-clause-holds
returns-clause-holds g t game turns k answer sound s p shown = TableHolds-holds game turns k answer sound s p shown

pub returns-clause-one : goal.returns-clause-one
returns-clause-one g t game k a b sa sb p = sound_tables_agree game k a b sa sb p
