-- A path over squares.
use Rattle.std.proofs.Common.{◌≡◌, ◌∙◌, ◌≤◌, ◌<◌, ◌⊎◌, inl, inr, ℕ, true, List, Option, None, Some, IfSome, arith, length, refl, ap}
use Rattle.std.specs.Prelude.{IsNone}
use Rattle.std.specs.List.{list_all}
use Rattle.std.proofs.lemmas.Bool.Decides.{nat_tests}
use Rattle.archive_words.specs.Runs.{is_path, is_square, path_of}

is_one : (numbers : List ℕ) → 2 ≤ length numbers → length numbers ≤ 13 → list_all is_square numbers ≡ true → is_path numbers ≡ true
is_one numbers some few all = rw all (grind (arith, nat_tests))

within : (path numbers : List ℕ) → path ≡ numbers → 2 ≤ length numbers → length numbers ≤ 13 → (length path < 2) ⊎ (13 < length path) → ⊥
within path numbers same some few (inl short) = omega (arith, ap length same, some, short)
within path numbers same some few (inr long) = omega (arith, ap length same, few, long)

-- the move over these numbers, if it was made
pub path_made : (made : Option (List ℕ)) (path numbers : List ℕ) → path ≡ numbers → 2 ≤ length numbers → length numbers ≤ 13
    → list_all is_square numbers ≡ true → (IsNone made → (length path < 2) ⊎ (13 < length path)) → IfSome made (λ m. m ≡ path)
    → made ≡ path_of numbers
path_made None path numbers same some few all none value = absurd (within path numbers same some few (none refl))
path_made (Some m) path numbers same some few all none value =
    rw (is_one numbers some few all) (ap Some (value ∙ same))
