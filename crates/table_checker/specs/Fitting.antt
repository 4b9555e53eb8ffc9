-- When an answer fits those at the next positions, as a rule on their list: nothing here is about
-- draughts.
use Rattle.std.specs.Prelude.{◌≡◌, ◌⊎◌, ◌≤◌, ◌<◌, ℕ, suc, List, Contains, Option, Some, None, Bool, true, false, nat_lt}
use Rattle.strategy_certificate.specs.declared.oracle.Answer.{Answer}
use Rattle.strategy_certificate.specs.declared.oracle.Answer.TheVariants.{Win, Loss, Draw}

-- The answer fits those at the next positions, among which None stands for a number that is no
-- answer. A win of rank r: a loss of rank r - 1 is among them, and no loss of a lower rank.
-- A loss of rank r: each is a win of a rank below r, and r is 0 or a win of rank r - 1 is among
-- them. A draw: a draw is among them, and no loss.
abbrev pub FitsNext : List (Option Answer) → Answer → Type 0
FitsNext next (Win r) =
    (l : ℕ) × ((r ≡ suc l)
    × (Contains next (Some (Loss l)) × ((m : ℕ) → Contains next (Some (Loss m)) → l ≤ m)))
FitsNext next (Loss r) =
    ((a : Option Answer) → Contains next a → (m : ℕ) × ((a ≡ Some (Win m)) × (m < r)))
    × ((r ≡ 0) ⊎ ((m : ℕ) × (Contains next (Some (Win m)) × (r ≡ suc m))))
FitsNext next Draw = Contains next (Some Draw) × ((m : ℕ) → Contains next (Some (Loss m)) → ⊥)

-- ---- tests of one answer

abbrev pub is_loss : Option Answer → Bool
is_loss (Some (Loss m)) = true
is_loss (Some (Win m)) = false
is_loss (Some Draw) = false
is_loss None = false

abbrev pub is_loss_below : ℕ → Option Answer → Bool
is_loss_below r (Some (Loss m)) = nat_lt m r
is_loss_below r (Some (Win m)) = false
is_loss_below r (Some Draw) = false
is_loss_below r None = false

abbrev pub is_win_below : ℕ → Option Answer → Bool
is_win_below r (Some (Win m)) = nat_lt m r
is_win_below r (Some (Loss m)) = false
is_win_below r (Some Draw) = false
is_win_below r None = false
