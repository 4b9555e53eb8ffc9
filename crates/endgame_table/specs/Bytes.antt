-- The bytes of a table.
use Rattle.std.specs.Prelude.{ℕ, List, [], ◌∷◌, ◌++◌, codes}
use Rattle.std.specs.List.{flat_map}
use Rattle.std.specs.Int.{to_be_bytes, w32}

-- `DRTABLE`, and a byte with the number of pieces
abbrev pub table_head : ℕ → List ℕ
table_head k = codes "DRTABLE" ++ k ∷ []

-- a number in 4 bytes, the most significant first
unfoldable pub number_bytes : ℕ → List ℕ
number_bytes n = to_be_bytes w32 n

-- the head, and behind it the numbers in the order of their indices
abbrev pub bytes_of : ℕ → List ℕ → List ℕ
bytes_of k numbers = table_head k ++ flat_map number_bytes numbers
