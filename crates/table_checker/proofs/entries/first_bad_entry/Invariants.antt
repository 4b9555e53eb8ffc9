use Rattle.std.proofs.Common.{ℕ, ◌<◌}
use Rattle.endgame_table.specs.Entries.{FitsAt}
use Rattle.table_checker.proofs.entries.first_bad_entry.Given as goal

abbrev pub invariant-loop-index : goal.invariant-loop-index
invariant-loop-index l = (i : ℕ) → i < l.index → FitsAt l.pieces l.numbers i
