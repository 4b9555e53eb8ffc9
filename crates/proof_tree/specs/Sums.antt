-- What a sum of numbers has to have room for.
use Rattle.std.specs.Prelude.{ℕ, ◌+◌, ◌-◌, ◌^◌, List, [], ◌∷◌}
use Rattle.proof_numbers.specs.declared.numbers.Number.{Number}
use Rattle.proof_numbers.specs.declared.numbers.Number.TheVariants.{Finite, Infinite}
use Rattle.proof_numbers.specs.declared.numbers.Numbers.{Numbers}
use Rattle.proof_numbers.specs.Numbers.{IsFinitely}

-- a number's finite part, and the sum of these parts
abbrev pub finite_part : Number → ℕ
finite_part (Finite n) = n
finite_part Infinite = 0

abbrev pub finite_sum : List Number → ℕ
finite_sum [] = 0
finite_sum (a ∷ numbers) = finite_part a + finite_sum numbers

-- a row has room for these numbers
pub record IsKeepable (numbers : Numbers) : Type 0 where
  pub proof : IsFinitely (2 ^ 32 - 1) numbers.proof
  pub disproof : IsFinitely (2 ^ 32 - 1) numbers.disproof
