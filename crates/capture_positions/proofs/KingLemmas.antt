-- Boards on which few kings stand, and nothing else.
use Rattle.std.proofs.Common.{◌≡◌, ℕ, zero, suc, ◌+◌, ◌-◌, ◌≤◌, true, false, cond, Bool, List, [], ◌∷◌, length, set, replicate, refl, ap, ◌∙◌, inl, inr, arith}
use Rattle.std.specs.Prelude.{count_by}
use Rattle.std.specs.Cmp.{first_so, second_so}
use Rattle.std.specs.Cmp.Derive.{both_true}
use Rattle.std.proofs.lemmas.Bool.{cases_lt}
use Rattle.std.proofs.lemmas.List.{length-set, set_past}
use Rattle.std.proofs.lemmas.List.Sums.{sum_by-set}
use Rattle.draughts_board.specs.declared.pieces.Side.{Side}
use Rattle.draughts_board.specs.declared.pieces.Side.TheVariants.{Black, White}
use Rattle.draughts_board.specs.declared.pieces.Cell.{Cell}
use Rattle.draughts_board.specs.declared.pieces.Cell.TheVariants.{Empty, King}
use Rattle.draughts_board.specs.Board.{IsLawful, all_allowed, belongs, is_allowed, pieces}
use Rattle.draughts_board.specs.Rules.{put}

-- at most n pieces a side stand there, each where it may
pub record IsSparse (n : ℕ) (cells : List Cell) : Type 0 where
  pub size : length cells ≡ 32
  pub black : pieces Black cells ≤ n
  pub white : pieces White cells ≤ n
  pub men : all_allowed 1 cells ≡ true

pub sparse-bare : IsSparse 0 (replicate 32 Empty)
sparse-bare = record { size = refl; black = omega arith; white = omega arith; men = refl }

allowed-king : (n : ℕ) (cells : List Cell) (i : ℕ) (s : Side) → all_allowed n cells ≡ true → all_allowed n (set cells i (King s)) ≡ true
allowed-king n [] i s h = h
allowed-king n (x ∷ cells) zero s h = second_so (is_allowed n x) (all_allowed (n + 1) cells) h
allowed-king n (x ∷ cells) (suc i) s h =
    both_true (first_so (is_allowed n x) (all_allowed (n + 1) cells) h) (allowed-king (n + 1) cells i s (second_so (is_allowed n x) (all_allowed (n + 1) cells) h))

one-most : (b : Bool) → cond b 1 0 ≤ 1
one-most true = omega arith
one-most false = omega arith

one-more : (t : Side) (cells : List Cell) (i : ℕ) (s : Side) → pieces t (set cells i (King s)) ≤ pieces t cells + 1
one-more t cells i s = elim (cases_lt i (length cells)) [
  | inl l ↦ (let e = sum_by-set (λ c. cond (belongs t c) 1 0) cells i (King s) Empty l in let most = one-most (belongs t (King s)) in omega (arith, e, most))
  | inr l ↦ (let e = ap (count_by (belongs t)) (set_past cells i (King s) l) in omega (arith, e))
]

-- one king more
pub sparse-more : (n : ℕ) (cells : List Cell) (x : ℕ) (s : Side) → IsSparse n cells → IsSparse (n + 1) (put cells x (King s))
sparse-more n cells x s few =
    let black = one-more Black cells (x - 1) s in
    let white = one-more White cells (x - 1) s in
    let least_black = few.black in
    let least_white = few.white in
    record {
      size = length-set cells (x - 1) (King s) ∙ few.size;
      black = omega (arith, black, least_black);
      white = omega (arith, white, least_white);
      men = allowed-king 1 cells (x - 1) s few.men;
    }

-- up to three pieces keep the rule
pub sparse-lawful : (n : ℕ) (cells : List Cell) (s : Side) → n ≤ 3 → IsSparse n cells → IsLawful (record { cells = cells; to_move = s })
sparse-lawful n cells s small few =
    let least_black = few.black in
    let least_white = few.white in
    record {
      squares = few.size;
      black = omega (arith, least_black, small);
      white = omega (arith, least_white, small);
      men = few.men;
    }
