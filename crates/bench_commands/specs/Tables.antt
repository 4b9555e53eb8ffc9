-- What `table` and `table-check` do: the bytes of a sound table, and whether bytes are such.
use Rattle.std.specs.Prelude.{◌≡◌, ℕ, List, length}
use Rattle.endgame_table.specs.Bytes.{bytes_of}
use Rattle.endgame_table.specs.Entries.{IsTable}
use Rattle.opening_report.specs.Conversions.{of_table}
use Rattle.opening_report.specs.Findings.{sound_text}
use Rattle.opening_report.specs.declared.refusals.Refusal.{Refusal}
use Rattle.table_checker.specs.Faults.{IsTableFault}
use Rattle.table_checker.specs.declared.refusal.TableRefusal.{TableRefusal}

-- ---- what is written

-- the bytes are those of a sound table of this number of pieces
abbrev pub AreTableBytes : ℕ → List ℕ → Type 0
AreTableBytes pieces bytes =
    (numbers : List ℕ) × (IsTable pieces numbers × (bytes ≡ bytes_of pieces numbers))

-- The text says what a source is: the bytes of a sound table; the text names its pieces and how
-- many entries it has.
pub record IsSoundOf (source text : List ℕ) : Type 0 where
  pub pieces : ℕ
  pub numbers : List ℕ
  pub table : IsTable pieces numbers
  pub read : source ≡ bytes_of pieces numbers
  pub text_is : text ≡ sound_text pieces (length numbers)

-- ---- what is wrong

-- the source is not the bytes of a sound table, and this is why
abbrev pub HasTableFault : List ℕ → Refusal → Type 0
HasTableFault source r = (fault : TableRefusal) × ((r ≡ of_table fault) × IsTableFault source fault)
