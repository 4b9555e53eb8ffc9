-- Numbers in ranges.
use Rattle.std.proofs.Common.{◌≡◌, ◌∙◌, ℕ, zero, suc, ◌+◌, List, [], ◌∷◌, ◌++◌, refl, sym, ap, arith, append_assoc, append-nil}
use Rattle.std.specs.List.{flat_map}
use Rattle.std.proofs.lemmas.List.Concat.{flat_map-append}
use Rattle.strict_games.specs.Groups.{counted_from, numbers_in}
use Rattle.strict_games.specs.declared.ranges.GameRange.{GameRange}

-- one number more at the end
counted_from-suc : (first count : ℕ) → counted_from first (suc count) ≡ counted_from first count ++ (first + count) ∷ []
counted_from-suc first zero = ap (λ n. n ∷ []) (let e : first ≡ first + 0 = omega arith in e)
counted_from-suc first (suc count) =
    ap (λ ns. first ∷ ns) (counted_from-suc (first + 1) count ∙ ap (λ n. counted_from (first + 1) count ++ n ∷ []) (let e : first + 1 + count ≡ first + suc count = omega arith in e))

pub numbers-alone : (number : ℕ) → numbers_in (record { first = number; more = 0 }) ≡ number ∷ []
numbers-alone number = refl

pub numbers-more : (first more number : ℕ) → first + more + 1 ≡ number → numbers_in (record { first = first; more = more + 1 }) ≡ numbers_in (record { first = first; more = more }) ++ number ∷ []
numbers-more first more number e =
    ap (counted_from first) (let n : suc (more + 1) ≡ suc (suc more) = omega arith in n)
    ∙ counted_from-suc first (suc more)
    ∙ ap (λ n. counted_from first (suc more) ++ n ∷ []) (let n : first + suc more ≡ number = omega arith in n)

pub all-push : (ranges : List GameRange) (range : GameRange) → flat_map numbers_in (ranges ++ range ∷ []) ≡ flat_map numbers_in ranges ++ numbers_in range
all-push ranges range = flat_map-append numbers_in ranges (range ∷ []) ∙ ap (λ ns. flat_map numbers_in ranges ++ ns) (append-nil (numbers_in range))

-- the last range goes on
pub all-more : (ranges : List GameRange) (first more number : ℕ) → first + more + 1 ≡ number
    → flat_map numbers_in (ranges ++ record { first = first; more = more + 1 } ∷ []) ≡ flat_map numbers_in (ranges ++ record { first = first; more = more } ∷ []) ++ number ∷ []
all-more ranges first more number e =
    all-push ranges (record { first = first; more = more + 1 })
    ∙ ap (λ ns. flat_map numbers_in ranges ++ ns) (numbers-more first more number e)
    ∙ sym (append_assoc (flat_map numbers_in ranges) (numbers_in (record { first = first; more = more })) (number ∷ []))
    ∙ ap (λ ns. ns ++ number ∷ []) (sym (all-push ranges (record { first = first; more = more })))
