-- How the numbers of games that lead to one position are written.
use Rattle.std.specs.Prelude.{◌≡◌, ℕ, zero, suc, ◌+◌, ◌==◌, List, [], ◌∷◌, ◌++◌, codes, decimal, Some, if◌then◌else◌}
use Rattle.std.specs.List.{flat_map}
use Rattle.draughts_board.specs.Board.{Board}
use Rattle.strict_games.specs.Drafts.{IsTextOf}
use Rattle.strict_games.specs.Tags.{cleaned}
use Rattle.strict_games.specs.declared.ranges.GameRange.{GameRange}

-- the numbers from this one on, as many as are asked
abbrev pub counted_from : ℕ → ℕ → List ℕ
counted_from first zero = []
counted_from first (suc count) = first ∷ counted_from (first + 1) count

-- the numbers of a range
abbrev pub numbers_in : GameRange → List ℕ
numbers_in range = counted_from range.first (suc range.more)

-- a range as it is written: `12`, or `40-43`
abbrev pub range_text : GameRange → List ℕ
range_text range =
    decimal range.first
    ++ (if range.more == 0 then [] else 45 ∷ decimal (range.first + range.more))

-- further ranges, each behind a comma and a blank
abbrev pub further_text : List GameRange → List ℕ
further_text ranges = flat_map (λ range. 44 ∷ 32 ∷ range_text range) ranges

-- ranges as they are written: `12, 40-43`
abbrev pub ranges_text : List GameRange → List ℕ
ranges_text [] = []
ranges_text (range ∷ ranges) = range_text range ++ further_text ranges

-- a text that lists these numbers, each once and in their order
pub record Lists (numbers : List ℕ) (text : List ℕ) : Type 0 where
  pub ranges : List GameRange
  pub all : flat_map numbers_in ranges ≡ numbers
  pub spelled : text ≡ ranges_text ranges

-- The text of a game that stands for these, which lead to this position: without moves, and with a
-- tag that lists them. An end of a line, of which a list has none, would be a blank in it.
pub record IsGroupText (p : Board) (games : List ℕ) (text : List ℕ) : Type 0 where
  pub list : List ℕ
  pub lists : Lists games list
  pub is_text : IsTextOf (record {
    set_up = Some p;
    tags = record { name = codes "Games"; value = cleaned list } ∷ [];
    moves = [];
    here = p;
  }) text
