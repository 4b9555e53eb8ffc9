use Rattle.journal_compaction.proofs.Compacted.{compactions_are_lawful, compactions_keep_numbers}
use Rattle.journal_compaction.proofs.laws.compactions_keep_values.Goals as goal

pub returns-clause-lawful : goal.returns-clause-lawful
returns-clause-lawful c = compactions_are_lawful

pub returns-clause-numbers : goal.returns-clause-numbers
returns-clause-numbers c = compactions_keep_numbers
