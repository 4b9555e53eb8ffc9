use Rattle.std.proofs.Common.{◌≡◌, ◌++◌}
use Rattle.journal_compaction.specs.Names.{named_from}
use Rattle.compaction_staging.proofs.naming.push_named.Given as goal

abbrev pub invariant-loop-i : goal.invariant-loop-i
invariant-loop-i l = l.names.items ≡ l.initial.names.items ++ named_from l.next l.i
