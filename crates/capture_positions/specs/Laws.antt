-- Laws over the walk.
use Rattle.std.specs.Prelude.{◌≡◌, ℕ, ◌<◌, ◌≤◌, true, length}
use Rattle.draughts_board.specs.Board.{piece_count}
use Rattle.draughts_board.specs.Rules.{has_jump, first_places}
use Rattle.capture_positions.specs.Walk.{numbered_position, index_of_step, walk}
use Rattle.capture_positions.specs.declared.openings.TheConstants.{INDEX_COUNT, MOST_OPENINGS}

-- A walk of 4,176 steps meets each index ..
abbrev pub EachIndexIsMet : Type 0
EachIndexIsMet =
    (seed i : ℕ) → i < INDEX_COUNT
    → (k : ℕ) × ((k < INDEX_COUNT) × (index_of_step seed k ≡ i))

-- .. once.
abbrev pub NoIndexIsMetTwice : Type 0
NoIndexIsMetTwice =
    (seed k other : ℕ) → k < INDEX_COUNT → other < INDEX_COUNT
    → index_of_step seed k ≡ index_of_step seed other → k ≡ other

-- It meets enough different positions, from each seed.
abbrev pub EnoughPositionsAreMet : Type 0
EnoughPositionsAreMet =
    (seed : ℕ) → MOST_OPENINGS ≤ length (first_places (walk seed INDEX_COUNT))

-- In each of its positions Black must capture.
abbrev pub BlackMustCapture : Type 0
BlackMustCapture = (i : ℕ) → i < INDEX_COUNT → has_jump (numbered_position i) ≡ true

-- Each has three pieces.
abbrev pub ThreePiecesStand : Type 0
ThreePiecesStand = (i : ℕ) → i < INDEX_COUNT → piece_count (numbered_position i) ≡ 3
