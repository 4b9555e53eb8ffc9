-- The list of the positions that the records of a bench name.
use Rattle.std.specs.Prelude.{◌≡◌, ◌≤◌, ℕ, List, [], ◌∷◌, ◌++◌}
use Rattle.draughts_board.specs.Board.{Board}
use Rattle.bench_records.specs.Names.{named_by}
use Rattle.bench_records.specs.Texts.{record_sheet, named_in}
use Rattle.bench_records.specs.declared.records.BenchRecord.{BenchRecord}

-- the list, and what it was before each staged record; nobody has to believe this
pub record NamingState : Type 0 where
  pub now : List Board
  pub before : List (List Board)

-- numbers from the one on to the other, none below the one before it
abbrev pub AreRising : ℕ → List ℕ → ℕ → Type 0
AreRising from [] last = from ≤ last
AreRising from (count ∷ counts) last = (from ≤ count) × AreRising count counts last

-- the list before each of these records, where it begins so
abbrev pub lists_before : List Board → List BenchRecord → List (List Board)
lists_before named [] = []
lists_before named (r ∷ records) =
    named ∷ lists_before (named_by named (record_sheet r)) records

-- one more record names its positions
abbrev pub naming_more : NamingState → BenchRecord → NamingState
naming_more names r =
    record {
      now = named_by names.now (record_sheet r);
      before = names.before ++ names.now ∷ [];
    }

-- so it is for the records that are applied and those that are staged
pub record AreNamesOf (records staged : List BenchRecord) (names : NamingState) : Type 0 where
  pub now : names.now ≡ named_in [] (records ++ staged)
  pub before : names.before ≡ lists_before (named_in [] records) staged
