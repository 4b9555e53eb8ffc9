-- The order in which the walk tries the children of a row.
use Rattle.std.specs.Prelude.{◌≡◌, ℕ, ◌<◌, ◌≤◌, ltb, Bool, true, false, cond, List, Option, Some, None, ◌⊎◌}
use Rattle.draughts_board.specs.declared.pieces.Side.{Side}
use Rattle.proof_numbers.specs.declared.numbers.Number.{Number}
use Rattle.proof_numbers.specs.Numbers.{is_resolved}
use Rattle.proof_tree.specs.declared.rows.NodeRow.{NodeRow}
use Rattle.proof_tree.specs.Picking.{is_below, left_to_show}
use Rattle.proof_tree.specs.Rows.{row_at, kept_numbers}

-- less left to show, or the same and an earlier place
abbrev pub is_before : Number → ℕ → Number → ℕ → Bool
is_before x a y b = cond (is_below x y) true (cond (is_below y x) false (ltb a b))

abbrev pub key : List NodeRow → Side → Bool → ℕ → Number
key rows goal by_proof k = left_to_show by_proof (kept_numbers goal (row_at rows k))

abbrev pub comes : List NodeRow → Side → Bool → ℕ → ℕ → Bool
comes rows goal by_proof a b = is_before (key rows goal by_proof a) a (key rows goal by_proof b) b

-- behind the child that was tried last
abbrev pub is_behind : List NodeRow → Side → Bool → Option ℕ → ℕ → Bool
is_behind rows goal by_proof None k = true
is_behind rows goal by_proof (Some a) k = comes rows goal by_proof a k

-- still to be tried: unresolved, and behind the child that was tried last
abbrev pub is_candidate : List NodeRow → Side → Bool → Option ℕ → ℕ → Bool
is_candidate rows goal by_proof last k =
    cond (is_resolved (kept_numbers goal (row_at rows k))) false
    (is_behind rows goal by_proof last k)

-- of the places from `low` to before `high`: the candidate that comes first, or there is none
abbrev pub IsFirst : List NodeRow → Side → Bool → Option ℕ → ℕ → ℕ → Option ℕ → Type 0
IsFirst rows goal by_proof last low high None =
    (k : ℕ) → low ≤ k → k < high → is_candidate rows goal by_proof last k ≡ false
IsFirst rows goal by_proof last low high (Some c) =
    ((low ≤ c) × (c < high))
    × ((is_candidate rows goal by_proof last c ≡ true)
    × ((k : ℕ) → low ≤ k → k < high → is_candidate rows goal by_proof last k ≡ true
    → (k ≡ c) ⊎ (comes rows goal by_proof c k ≡ true)))

abbrev pub first_child_of : List NodeRow → Side → Bool → Option ℕ → ℕ → Option ℕ
first_child_of rows goal by_proof None k = Some k
first_child_of rows goal by_proof (Some b) k = cond (comes rows goal by_proof k b) (Some k) (Some b)
