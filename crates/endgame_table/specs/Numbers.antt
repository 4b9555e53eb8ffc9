-- What a table keeps at an index: one number for each answer.
use Rattle.std.specs.Prelude.{◌≡◌, ◌⊎◌, ℕ, ◌+◌, ◌-◌, ◌*◌, ◌/◌, ◌%◌, ◌<◌, ◌==◌, All, List, Option, Some, None, if◌then◌else◌}
use Rattle.strategy_certificate.specs.declared.oracle.Answer.{Answer}
use Rattle.strategy_certificate.specs.declared.oracle.Answer.TheVariants.{Win, Loss, Draw}

-- the number at an index that is no position
abbrev pub no_position : ℕ
no_position = 4294967295

-- the number of an answer, of the side to move: 0 is a draw, 2r + 1 a loss of rank r, and 2r + 2 a
-- win of rank r
abbrev pub answer_number : Answer → ℕ
answer_number Draw = 0
answer_number (Loss r) = 2 * r + 1
answer_number (Win r) = 2 * r + 2

-- the answer that a number stands for; that of no position stands for none
unfoldable pub answer_of : ℕ → Option Answer
answer_of n =
    (if n == no_position then None else
    (if n == 0 then Some Draw else
    (if n % 2 == 1 then Some (Loss ((n - 1) / 2)) else Some (Win ((n - 2) / 2)))))

-- each number is below the limit, but for that of no position
abbrev pub AreBelow : ℕ → List ℕ → Type 0
AreBelow limit numbers = All (λ n. (n ≡ no_position) ⊎ (n < limit)) numbers
