-- Why no shorter journal is written, or none is chosen.
use Rattle.std.specs.Prelude.{◌≡◌, ◌<◌, ℕ, Bool, true, false, List, length}
use Rattle.std.specs.Bool.{OnFalse}
use Rattle.disk_journal.specs.Refusals.{ExplainsAny}
use Rattle.disk_journal.specs.declared.refusal.JournalRefusal.{JournalRefusal}
use Rattle.disk_journal.specs.declared.refusal.JournalRefusal.TheVariants as journal
use Rattle.journal_looks.specs.Looks.{IsUnread}
use Rattle.journal_shortening.specs.declared.refusals.CompactRefusal.{CompactRefusal}
use Rattle.journal_shortening.specs.declared.refusals.CompactRefusal.TheVariants.{FromDisk, NotAJournal, Damaged, IntoDisk, NotFresh, Memory}

-- the refusal of the journal that is read; one for tables of other pieces cannot come
abbrev pub of_from : JournalRefusal → CompactRefusal
of_from journal.DiskFault = FromDisk
of_from journal.NotAJournal = NotAJournal
of_from (journal.OtherTable found asked) = NotAJournal
of_from (journal.Damaged at) = Damaged at
of_from (journal.Memory error) = Memory error

-- .. and of the new one, where that is read
abbrev pub of_into : JournalRefusal → CompactRefusal
of_into journal.DiskFault = IntoDisk
of_into journal.NotAJournal = NotAJournal
of_into (journal.OtherTable found asked) = NotAJournal
of_into (journal.Damaged at) = Damaged at
of_into (journal.Memory error) = Memory error

-- the refusal says nothing of the files: a disk failed, or memory ran out
abbrev pub says_nothing : CompactRefusal → Bool
says_nothing FromDisk = true
says_nothing IntoDisk = true
says_nothing (Memory error) = true
says_nothing other = false

-- it came while the first journal was read
abbrev pub is_of_from : CompactRefusal → Bool
is_of_from FromDisk = true
is_of_from NotAJournal = true
is_of_from (Damaged at) = true
is_of_from other = false

-- A cause for which no shorter journal is written: the first file is not read as records; or it is, and the second has more
-- than 9 bytes, and the refusal says how many.
abbrev pub IsCause : List ℕ → List ℕ → CompactRefusal → Type 0
IsCause from into NotAJournal = IsUnread from journal.NotAJournal
IsCause from into (Damaged at) = IsUnread from (journal.Damaged at)
IsCause from into (NotFresh n) =
    (n ≡ length into) × ((9 < n) × ((cause : JournalRefusal) → ¬ IsUnread from cause))
IsCause from into other = ⊥

-- why none is written, unless the refusal says nothing of the files
abbrev pub Explains : List ℕ → List ℕ → CompactRefusal → Type 0
Explains from into refusal = OnFalse (says_nothing refusal) (IsCause from into refusal)

-- a cause for which none is chosen: the new file is not read as a journal
abbrev pub HasNoChoice : List ℕ → CompactRefusal → Type 0
HasNoChoice into NotAJournal = ExplainsAny into journal.NotAJournal
HasNoChoice into (Damaged at) = ExplainsAny into (journal.Damaged at)
HasNoChoice into other = ⊥

-- why none is chosen, unless the refusal says nothing of the files
abbrev pub ExplainsNoChoice : List ℕ → CompactRefusal → Type 0
ExplainsNoChoice into refusal = OnFalse (says_nothing refusal) (HasNoChoice into refusal)
