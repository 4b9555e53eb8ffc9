-- The order of the fields of a record.
use Rattle.std.specs.Prelude.{ℕ, zero, suc, ◌-◌, ◌^◌, Bool, ◌&&◌, ◌||◌, ◌==◌, nat_le, List, [], ◌∷◌, ◌++◌, Option, Some, None, if◌then◌else◌}
use Rattle.draughts_board.specs.Board.{Board}
use Rattle.draughts_board.specs.declared.pieces.Side.{Side}
use Rattle.draughts_board.specs.declared.pieces.Side.TheVariants.{Black, White}
use Rattle.strategy_certificate.specs.declared.entries.WinEntry.{WinEntry}
use Rattle.strategy_certificate.specs.declared.certificates.Part.{Part}
use Rattle.strategy_certificate.specs.declared.certificates.Part.TheVariants.{Win, Hold}
use Rattle.strategy_certificate.specs.declared.certificates.Certificate.{Certificate}
use Rattle.strategy_certificate.specs.Parts.{positions_of}
use Rattle.strategy_certificate.specs.Certificates.{claim_of}
use Rattle.bench_records.specs.Formats.{Format, done, byte, short, long, position, one, ◌>>=◌}
use Rattle.bench_records.specs.Names.{numbered}
use Rattle.bench_records.specs.declared.records.BenchRecord.{BenchRecord}
use Rattle.bench_records.specs.declared.records.BenchRecord.TheVariants.{Begin, Solve, Expand}

-- from the one number to the other
abbrev pub is_between : ℕ → ℕ → ℕ → Bool
is_between least most n = nat_le least n && nat_le n most

-- a number of items, one behind the other, of which each may look at those before it
abbrev pub many : {X : Type 0} → ℕ → (List X → Format X) → List X → Format (List X)
many zero next before = done before
many (suc n) next before = do
  x ← next before
  many n next (before ++ x ∷ [])

-- ---- a move: the number of its squares, 0 or 2 to 13, and each square

abbrev pub square_order : List ℕ → Format ℕ
square_order before = one (byte (is_between 1 32))

abbrev pub path_order : ℕ → Format (Option (List ℕ))
path_order zero = done None
path_order (suc n) = do
  path ← many (suc n) square_order []
  done (Some path)

abbrev pub is_move_count : ℕ → Bool
is_move_count n = n == 0 || is_between 2 13 n

abbrev pub choice_order : Format (Option (List ℕ))
choice_order = one (byte is_move_count) >>= path_order

-- ---- entries, each of a position that has none before it in its part

abbrev pub win_order : List (Board × WinEntry) → Format (Board × WinEntry)
win_order before = do
  p ← one (position (positions_of before))
  rank ← one (long (2 ^ 40))
  chosen ← choice_order
  done (p, record { rank = rank; chosen = chosen })

abbrev pub hold_order : List (Board × Option (List ℕ)) → Format (Board × Option (List ℕ))
hold_order before = do
  p ← one (position (positions_of before))
  chosen ← choice_order
  done (p, chosen)

-- ---- a certificate of this position: its claim, the number of entries, and the entries

abbrev pub rows_order : {R P : Type 0} → (List R → Format R) → (List R → P) → Format P
rows_order row made = do
  count ← one short
  rows ← many count row []
  done (made rows)

abbrev pub win_part_order : Side → Format Part
win_part_order side = rows_order win_order (λ rows. Win (record { side = side; entries = rows }))

abbrev pub hold_part_order : Side → Format Part
hold_part_order side = rows_order hold_order (λ rows. Hold (record { side = side; entries = rows }))

-- 1 a win of Black, 2 of White, 3 a hold of Black, 4 of White
abbrev pub part_order : ℕ → Format Part
part_order claim =
    (if claim == 1 then win_part_order Black
    else (if claim == 2 then win_part_order White
    else (if claim == 3 then hold_part_order Black else hold_part_order White)))

abbrev pub certificate_order : ℕ → Board → List Certificate → Format Certificate
certificate_order pieces p before = do
  claim ← one (byte (is_between 1 4))
  part ← part_order claim
  done (record { position = p; claim = claim_of part; pieces = pieces; parts = part ∷ [] })

-- ---- a record: its kind, and what that kind has

abbrev pub begin_order : Format BenchRecord
begin_order = do
  p ← one (position [])
  done (Begin p)

abbrev pub solve_order : ℕ → Format BenchRecord
solve_order pieces = do
  node ← one (long (2 ^ 64 - 1))
  p ← one (position [])
  count ← one (byte (is_between 1 4))
  shown ← many count (certificate_order pieces p) []
  done (Solve node p shown)

abbrev pub expand_order : Format BenchRecord
expand_order = do
  node ← one (long (2 ^ 64 - 1))
  done (Expand node)

-- Behind the kind byte: 1 a root begins, 2 a node is solved, 3 it is expanded; in version 2 4 a root
-- begins, 5 a node is solved, where each position is spelled by its number in the list.
abbrev pub kind_order : List Board → ℕ → ℕ → Format BenchRecord
kind_order named pieces kind =
    (if kind == 1 then begin_order
    else (if kind == 2 then solve_order pieces
    else (if kind == 3 then expand_order
    else (if kind == 4 then numbered named begin_order else numbered named (solve_order pieces)))))

abbrev pub record_order : List Board → ℕ → Format BenchRecord
record_order named pieces = one (byte (is_between 1 5)) >>= kind_order named pieces
