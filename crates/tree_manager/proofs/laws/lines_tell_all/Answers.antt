use Rattle.tree_manager.proofs.HistoryLaws.{lines_tell_cores, entries_came_next, failed_lines_end_broken}
use Rattle.tree_manager.proofs.ExactLemmas.{sessions_have_roots_begun}
use Rattle.tree_manager.proofs.laws.lines_tell_all.Goals as goal

pub returns-clause-cores : goal.returns-clause-cores
returns-clause-cores c = lines_tell_cores

pub returns-clause-entries : goal.returns-clause-entries
returns-clause-entries c = entries_came_next

pub returns-clause-failed : goal.returns-clause-failed
returns-clause-failed c = failed_lines_end_broken

pub returns-clause-roots : goal.returns-clause-roots
returns-clause-roots c = sessions_have_roots_begun
