-- The parts of a certificate as contracts see them, each a side and a list of entries, and how
-- parts are merged.
use Rattle.std.specs.Prelude.{ℕ, ◌≤◌, List, ◌++◌, Contains, All, length, map, filter, Option, IfSome, is_none, nat_lt, if◌then◌else◌}
use Rattle.std.specs.List.{IsDistinct}
use Rattle.std.specs.Map.{lookup}
use Rattle.std.specs.Option.{option_map_or}
use Rattle.draughts_board.specs.Geometry.{IsSquare}
use Rattle.draughts_board.specs.Board.{Board, IsLawful, same_board}
use Rattle.draughts_board.specs.declared.pieces.Side.{Side}
use Rattle.strategy_certificate.specs.declared.entries.TheConstants.{MOST_RANK}
use Rattle.strategy_certificate.specs.declared.entries.WinEntry.{WinEntry}

-- a strategy by which the side wins: positions, each with a rank and the move chosen there
pub record WinList : Type 0 where
  pub side : Side
  pub entries : List (Board × WinEntry)

-- a strategy by which the side never loses: positions, each with the move chosen there
pub record HoldList : Type 0 where
  pub side : Side
  pub entries : List (Board × Option (List ℕ))

-- ---- lists of entries

abbrev pub positions_of : {E : Type 0} → List (Board × E) → List Board
positions_of rows = map (λ row. row.0) rows

abbrev pub HasDistinctPositions : {E : Type 0} → List (Board × E) → Type 0
HasDistinctPositions rows = IsDistinct same_board (positions_of rows)

-- the position has an entry
abbrev pub HasEntry : {E : Type 0} → List (Board × E) → Board → Type 0
HasEntry {E} rows p = (e : E) × Contains rows (p, e)

-- the entry of the position, if it has one
abbrev pub entry_of : {E : Type 0} → List (Board × E) → Board → Option E
entry_of rows p = lookup (same_board p) rows

-- ---- what each part keeps

-- a path of 2 to 13 squares, as each move has
abbrev pub IsPath : List ℕ → Type 0
IsPath path = (2 ≤ length path) × (length path ≤ 13) × All IsSquare path

-- a rank of at most MOST_RANK, and a path where a move is chosen
abbrev pub IsInRange : WinEntry → Type 0
IsInRange e = (e.rank ≤ MOST_RANK) × IfSome e.chosen IsPath

-- a position and an entry in range
abbrev pub IsWinRow : Board × WinEntry → Type 0
IsWinRow row = IsLawful row.0 × IsInRange row.1

-- a position, and a path where a move is chosen
abbrev pub IsHoldRow : Board × Option (List ℕ) → Type 0
IsHoldRow row = IsLawful row.0 × IfSome row.1 IsPath

pub record IsWinList (part : WinList) : Type 0 where
  pub distinct : HasDistinctPositions part.entries
  pub rows : All IsWinRow part.entries

pub record IsHoldList (part : HoldList) : Type 0 where
  pub distinct : HasDistinctPositions part.entries
  pub rows : All IsHoldRow part.entries

-- ---- merging

-- of two entries the one of smaller rank, and the first where the ranks are equal
abbrev pub smaller : WinEntry → WinEntry → WinEntry
smaller e f = if nat_lt f.rank e.rank then f else e

-- the row with the smaller of its own entry and that of its position in the other list
abbrev pub improved : List (Board × WinEntry) → Board × WinEntry → Board × WinEntry
improved from row = (row.0, option_map_or (smaller row.1) (entry_of from row.0) row.1)

-- the rows of `from` whose positions have no entry yet, in order
abbrev pub added_rows : {E : Type 0} → List (Board × E) → List (Board × E) → List (Board × E)
added_rows into from = filter (λ row. is_none (entry_of into row.0)) from

-- The rows that were there keep their places, each improved by those of `from`, and the new ones go
-- last.
abbrev pub merged_wins : List (Board × WinEntry) → List (Board × WinEntry) → List (Board × WinEntry)
merged_wins into from = map (improved from) into ++ added_rows into from

-- The rows that were there stay, and the new ones go last.
abbrev pub merged_holds : List (Board × Option (List ℕ)) → List (Board × Option (List ℕ))
    → List (Board × Option (List ℕ))
merged_holds into from = into ++ added_rows into from

abbrev pub without_rank : Board × WinEntry → Board × Option (List ℕ)
without_rank row = (row.0, row.1.chosen)

-- the same list without ranks
abbrev pub hold_of : WinList → HoldList
hold_of part = record { side = part.side; entries = map without_rank part.entries }
