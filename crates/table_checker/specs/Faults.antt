-- Why bytes are no endgame table.
use Rattle.std.specs.Prelude.{◌≡◌, ◌≢◌, ℕ, ◌+◌, ◌*◌, ◌^◌, ◌<◌, Bool, true, false, List, length, take, All, slice_index}
use Rattle.table_index.specs.Order.{entry_count}
use Rattle.endgame_table.specs.Bytes.{table_head, bytes_of}
use Rattle.strategy_certificate.specs.Tables.{IsTableSize}
use Rattle.endgame_table.specs.Entries.{Entries, FitsAt, IsTable}
use Rattle.table_checker.specs.declared.refusal.TableRefusal.{TableRefusal}
use Rattle.table_checker.specs.declared.refusal.TableRefusal.TheVariants.{BadHead, WrongLength, BadEntry, Memory}

-- the bytes begin with the head of a table of k pieces
pub record BeginsTable (k : ℕ) (bytes : List ℕ) : Type 0 where
  pub size : IsTableSize k
  pub head : take 8 bytes ≡ table_head k

-- the head, and 4 bytes for each index
abbrev pub due_length : ℕ → ℕ
due_length k = 8 + 4 * entry_count k

-- The bytes have the form of a table of k pieces: the head, and behind it a number of 4 bytes for
-- each index.
pub record HasTableForm (k : ℕ) (numbers : List ℕ) (bytes : List ℕ) : Type 0 where
  pub size : IsTableSize k
  pub entries : length numbers ≡ entry_count k
  pub words : All (λ n. n < 2 ^ 32) numbers
  pub written : bytes ≡ bytes_of k numbers

-- the rule fails at this index of a table of k pieces, and at none before it
pub record FailsFirstAt (k : ℕ) (numbers : List ℕ) (index : ℕ) : Type 0 where
  pub below : index < entry_count k
  pub before : (i : ℕ) → i < index → FitsAt k numbers i
  pub fails : FitsAt k numbers index → ⊥

-- memory ran out
abbrev pub table_wants_memory : TableRefusal → Bool
table_wants_memory (Memory e) = true
table_wants_memory other = false

-- the bytes are those of this table
abbrev pub AreBytesOf : List ℕ → Entries → Type 0
AreBytesOf bytes t = IsTable t.pieces t.numbers × (bytes ≡ bytes_of t.pieces t.numbers)

-- The bytes are refused for this.
-- A bad head: they do not begin with the head of a table of 2 or of 3 pieces.
-- A wrong length: they begin with such a head, and their length is not that of a table of that
-- number of pieces. A bad entry: they have the form of a table, and the rule of tables fails first at this
-- index, where this number is kept. Want of memory is no fault of the bytes.
abbrev pub IsTableFault : List ℕ → TableRefusal → Type 0
IsTableFault bytes BadHead = (k : ℕ) → BeginsTable k bytes → ⊥
IsTableFault bytes (WrongLength found due) =
    (k : ℕ) × (BeginsTable k bytes
    × ((found ≡ length bytes) × ((due ≡ due_length k) × (found ≢ due))))
IsTableFault bytes (BadEntry index kept) =
    (k : ℕ) × ((numbers : List ℕ)
    × (HasTableForm k numbers bytes
    × (FailsFirstAt k numbers index × (kept ≡ slice_index numbers index))))
IsTableFault bytes (Memory e) = ⊥
