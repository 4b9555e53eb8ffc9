-- How a row keeps a number, and the number of its parent, in four bytes each.
use Rattle.std.specs.Prelude.{◌≡◌, ℕ, zero, suc, ◌==◌, Bool, true, false, Option, Some, None, if◌then◌else◌, refl}
use Rattle.std.proofs.Common.{sym}
use Rattle.std.proofs.lemmas.Bool.{eqb-true}
use Rattle.proof_numbers.specs.declared.numbers.Number.{Number}
use Rattle.proof_numbers.specs.declared.numbers.Number.TheVariants.{Finite, Infinite}

-- 2^32 - 1 stands for infinity
abbrev pub number_of_word : ℕ → Number
number_of_word word = (if word == 4294967295 then Infinite else Finite word)

abbrev pub word_of : Number → ℕ
word_of Infinite = 4294967295
word_of (Finite n) = n

word_by : (word : ℕ) (b : Bool) → (word == 4294967295) ≡ b
    → word_of (if b then Infinite else Finite word) ≡ word
word_by word true e = sym (eqb-true word 4294967295 e)
word_by word false e = refl

pub word_back : (word : ℕ) → word_of (number_of_word word) ≡ word
word_back word = word_by word (word == 4294967295) refl

-- 0 stands for none, and each other word for the number before it
abbrev pub parent_of : ℕ → Option ℕ
parent_of zero = None
parent_of (suc n) = Some n

abbrev pub parent_word : Option ℕ → ℕ
parent_word None = 0
parent_word (Some n) = suc n

pub parent_back : (word : ℕ) → parent_word (parent_of word) ≡ word
parent_back zero = refl
parent_back (suc n) = refl
