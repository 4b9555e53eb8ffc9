-- Proof and disproof numbers.
use Rattle.std.specs.Prelude.{ℕ, ◌+◌, ◌<◌, min, Bool, false, ◌||◌, List, [], ◌∷◌, if◌then◌else◌, ◌==◌, length}
use Rattle.draughts_board.specs.Board.{Board, other, same_side}
use Rattle.draughts_board.specs.Play.{successors_of}
use Rattle.draughts_board.specs.declared.pieces.Side.{Side}
use Rattle.proof_numbers.specs.Known.{Known, knows_win, knows_hold}
use Rattle.proof_numbers.specs.declared.numbers.Number.{Number}
use Rattle.proof_numbers.specs.declared.numbers.Number.TheVariants.{Finite, Infinite}
use Rattle.proof_numbers.specs.declared.numbers.Numbers.{Numbers}

-- ---- numbers with infinity

abbrev pub least : Number → Number → Number
least Infinite b = b
least (Finite m) Infinite = Finite m
least (Finite m) (Finite n) = Finite (min m n)

abbrev pub total : Number → Number → Number
total Infinite b = Infinite
total (Finite m) Infinite = Infinite
total (Finite m) (Finite n) = Finite (m + n)

-- the least of them, infinite where there is none
abbrev pub least_of : List Number → Number
least_of [] = Infinite
least_of (a ∷ numbers) = least a (least_of numbers)

-- their sum, 0 where there is none
abbrev pub total_of : List Number → Number
total_of [] = Finite 0
total_of (a ∷ numbers) = total a (total_of numbers)

-- where it is finite, it is below this bound
abbrev pub IsFinitely : ℕ → Number → Type 0
IsFinitely bound (Finite n) = n < bound
IsFinitely bound Infinite = Unit {0}

abbrev pub is_zero : Number → Bool
is_zero (Finite n) = n == 0
is_zero Infinite = false

-- ---- numbers of a position for a goal

-- the goal is shown
abbrev pub proved : Numbers
proved = record { proof = Finite 0; disproof = Infinite }

-- the goal is refuted
abbrev pub refuted : Numbers
refuted = record { proof = Infinite; disproof = Finite 0 }

-- the goal is shown or refuted
abbrev pub is_resolved : Numbers → Bool
is_resolved numbers = is_zero numbers.proof || is_zero numbers.disproof

-- how many moves a position counts, by the number of its successors
abbrev pub counted_moves : ℕ → ℕ
counted_moves n = (if n == 0 then 1 else min n 64)

-- a position's mobility: how many successors it has, at most 64, and 1 where it has none
abbrev pub mobility : Board → ℕ
mobility p = counted_moves (length (successors_of p))

-- nothing is known: the mover needs one of its moves, the other side an answer to each
abbrev pub unknown : Side → Side → ℕ → Numbers
unknown goal mover moves =
    (if same_side goal mover then record { proof = Finite 1; disproof = Finite moves }
    else record { proof = Finite moves; disproof = Finite 1 })

-- Of a position without children. The first case that fits counts: the goal's win is known; the
-- other side's hold is known, or the position repeats; nothing is known.
abbrev pub leaf_numbers : Side → Known → Bool → Side → ℕ → Numbers
leaf_numbers goal facts repeats mover moves =
    (if knows_win goal facts then proved
    else (if knows_hold (other goal) facts || repeats then refuted
    else unknown goal mover moves))
