-- What holds of bytes and their faults, each law the contract of a function of `src/laws.rt`.
use Rattle.std.specs.Prelude.{◌≡◌, ◌≢◌, ℕ, List}
use Rattle.endgame_table.specs.Bytes.{bytes_of}
use Rattle.endgame_table.specs.Entries.{IsTable}
use Rattle.table_checker.specs.declared.refusal.TableRefusal.{TableRefusal}
use Rattle.table_checker.specs.Faults.{IsTableFault}

-- Bytes with a fault are those of no table.
abbrev pub FaultyBytesAreNoTable : Type 0
FaultyBytesAreNoTable =
    (bytes : List ℕ) (fault : TableRefusal) → IsTableFault bytes fault
    → (k : ℕ) (numbers : List ℕ) → IsTable k numbers → bytes ≢ bytes_of k numbers

-- Bytes are those of at most one table.
abbrev pub OneTableOfBytes : Type 0
OneTableOfBytes =
    (bytes : List ℕ) (j k : ℕ) (a b : List ℕ) → IsTable j a → IsTable k b → bytes ≡ bytes_of j a
    → bytes ≡ bytes_of k b → (j ≡ k) × (a ≡ b)

-- Bytes have at most one fault.
abbrev pub OneFault : Type 0
OneFault =
    (bytes : List ℕ) (a b : TableRefusal) → IsTableFault bytes a → IsTableFault bytes b → a ≡ b
