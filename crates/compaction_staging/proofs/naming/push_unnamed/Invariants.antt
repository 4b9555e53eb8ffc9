use Rattle.std.proofs.Common.{◌≡◌, ◌++◌}
use Rattle.journal_compaction.specs.Names.{unnamed_for}
use Rattle.compaction_staging.proofs.naming.push_unnamed.Given as goal

abbrev pub invariant-loop : goal.invariant-loop
invariant-loop l = l.names.items ≡ l.initial.names.items ++ unnamed_for l.counter
