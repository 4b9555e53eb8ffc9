-- A line from the marks that a session stores and the records that its bench has. Nobody has to
-- believe it.
use Rattle.std.specs.Prelude.{ℕ, ◌+◌, List, [], ◌∷◌}
use Rattle.bench_records.specs.declared.records.BenchRecord.{BenchRecord}
use Rattle.tree_manager.specs.declared.entries.Entry.{Entry}
use Rattle.tree_manager.specs.declared.entries.Entry.TheVariants as entry
use Rattle.tree_manager.specs.declared.marks.Mark.{Mark}
use Rattle.tree_manager.specs.declared.marks.Mark.TheVariants.{Put, Attached, Leased, Released, Acked, Broken}

-- the entry of a mark that is no Put
abbrev pub entry_marked : Mark → List Entry
entry_marked Put = []
entry_marked (Attached a) = entry.Attached a ∷ []
entry_marked (Leased lease) = entry.Leased lease ∷ []
entry_marked (Released id) = entry.Released id ∷ []
entry_marked (Acked moment) = entry.Acked moment ∷ []
entry_marked (Broken faults) = entry.Broken faults ∷ []

-- the entries: each Put is that of the next record
abbrev pub woven : List Mark → List BenchRecord → List Entry
woven [] records = []
woven (Put ∷ marks) [] = []
woven (Put ∷ marks) (r ∷ records) = entry.Put r ∷ woven marks records
woven (Attached a ∷ marks) records = entry.Attached a ∷ woven marks records
woven (Leased lease ∷ marks) records = entry.Leased lease ∷ woven marks records
woven (Released id ∷ marks) records = entry.Released id ∷ woven marks records
woven (Acked moment ∷ marks) records = entry.Acked moment ∷ woven marks records
woven (Broken faults ∷ marks) records = entry.Broken faults ∷ woven marks records

-- how many Puts there are
abbrev pub puts_marked : List Mark → ℕ
puts_marked [] = 0
puts_marked (Put ∷ marks) = puts_marked marks + 1
puts_marked (Attached a ∷ marks) = puts_marked marks
puts_marked (Leased lease ∷ marks) = puts_marked marks
puts_marked (Released id ∷ marks) = puts_marked marks
puts_marked (Acked moment ∷ marks) = puts_marked marks
puts_marked (Broken faults ∷ marks) = puts_marked marks
