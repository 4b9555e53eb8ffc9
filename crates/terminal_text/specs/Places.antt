-- Lines and columns. A line ends with LF, with CR, or with CR and LF together. Lines and columns count
-- from 1, and columns count bytes.
use Rattle.std.specs.Prelude.{ℕ, zero, suc, ◌+◌, Bool, not, ◌&&◌, ◌||◌, ◌==◌, List, ◌++◌, codes, decimal, slice_index_or, if◌then◌else◌}

-- the byte at a place; 0 where there is none
abbrev pub source_byte : List ℕ → ℕ → ℕ
source_byte source at = slice_index_or source at 0

-- a line ends with the byte at a place
abbrev pub ends_line : List ℕ → ℕ → Bool
ends_line source at =
    source_byte source at == 10
    || (source_byte source at == 13 && not (source_byte source (at + 1) == 10))

-- the line of a place: one more than the lines that end before it
abbrev pub line_at : List ℕ → ℕ → ℕ
line_at source zero = 1
line_at source (suc before) =
    if ends_line source before then line_at source before + 1 else line_at source before

-- its column: one more than the bytes of its line before it
abbrev pub column_at : List ℕ → ℕ → ℕ
column_at source zero = 1
column_at source (suc before) =
    if ends_line source before then 1 else column_at source before + 1

-- the line and the column of a byte
abbrev pub place_text : List ℕ → ℕ → List ℕ
place_text source at =
    codes "line " ++ (decimal (line_at source at) ++ (codes ", column "
    ++ (decimal (column_at source at) ++ codes ":\n")))
