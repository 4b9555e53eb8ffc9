-- What holds of tables and of their bytes, each law the contract of a function of `src/laws.rt`.
use Rattle.std.specs.Prelude.{◌≡◌, ◌↔◌, ℕ, ◌^◌, ◌<◌, List, All, length}
use Rattle.table_index.specs.Order.{entry_count}
use Rattle.strategy_certificate.specs.Tables.{IsTableSize}
use Rattle.endgame_table.specs.Entries.{FitsAt, IsTable}
use Rattle.endgame_table.specs.Bytes.{bytes_of}

-- As many numbers as there are indices are a table exactly where the rule holds at every index.
abbrev pub TablesFitEverywhere : Type 0
TablesFitEverywhere =
    (k : ℕ) (numbers : List ℕ) → IsTableSize k → length numbers ≡ entry_count k
    → IsTable k numbers ↔ ((i : ℕ) → i < entry_count k → FitsAt k numbers i)

-- There is one table for each number of pieces.
abbrev pub OneTable : Type 0
OneTable = (k : ℕ) (a b : List ℕ) → IsTable k a → IsTable k b → a ≡ b

-- The bytes of numbers give the pieces and the numbers back.
abbrev pub BytesTellApart : Type 0
BytesTellApart =
    (j k : ℕ) (a b : List ℕ) → All (λ n. n < 2 ^ 32) a → All (λ n. n < 2 ^ 32) b
    → bytes_of j a ≡ bytes_of k b → (j ≡ k) × (a ≡ b)
