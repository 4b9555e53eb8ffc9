-- What stands where a gate is due, by the first nine bytes there.
use Rattle.std.specs.Prelude.{◌≡◌, ◌⊎◌, ℕ, ◌-◌, ◌^◌, ◌<◌, ◌≤◌, List, [], ◌∷◌, ◌++◌, get_or, length, take, drop}
use Rattle.std.specs.Int.{from_be_bytes, to_be_bytes, w64}
use Rattle.std.proofs.lemmas.Nat.{from_be_bytes-to_be_bytes_8}
use Rattle.std.proofs.Common.{sym, ◌∙◌, ap, subst, inl, inr, ⊎_elim, arith, length-take, length-drop, take-append-drop}
use Rattle.disk_journal.specs.Refusals.{IsBroken}
use Rattle.disk_journal.specs.Rest.{IsOpen}
use Rattle.disk_journal.proofs.FrameLemmas.{bad_frame, field_is, short_frame}

-- the number that a field begins with
pub number_in : (field behind : List ℕ) (n : ℕ) → n < 2 ^ 64 → field ≡ to_be_bytes w64 n ++ behind → n ≡ from_be_bytes w64 field
number_in field behind n fits e = sym (ap (from_be_bytes w64) e ∙ from_be_bytes-to_be_bytes_8 n fits)

first_is : (gate : ℕ) (more start : List ℕ) → start ≡ take 9 (gate ∷ more) → get_or start 0 0 ≡ 1 → gate ≡ 1
first_is gate more start e one = sym (ap (λ (l : List ℕ). get_or l 0 0) e) ∙ one

-- an open gate with fewer than nine bytes from it on
pub broken_short : (start rest : List ℕ) → start ≡ take 9 rest → get_or start 0 0 ≡ 1 → length rest < 9 → IsBroken rest
broken_short start [] e one short = tt
broken_short start (gate ∷ more) e one short = (first_is gate more start e one, short_frame more (omega arith))

field_of : (gate : ℕ) (more start field : List ℕ) → start ≡ take 9 (gate ∷ more) → field ≡ drop 1 start → field ≡ take 8 more
field_of gate more start field e is = is ∙ ap (drop 1) e

eight : (more : List ℕ) → 8 ≤ length more → length (take 8 more) ≡ 8
eight more long = omega (arith, length-take 8 more)

-- an open gate with the length of a body that is empty or runs past the end
pub broken_length : (start field rest : List ℕ) → start ≡ take 9 rest → field ≡ drop 1 start → get_or start 0 0 ≡ 1 → 9 ≤ length rest
    → (from_be_bytes w64 field ≡ 0) ⊎ (length rest - 9 < from_be_bytes w64 field) → IsBroken rest
broken_length start field [] e is one long bad = tt
broken_length start field (gate ∷ more) e is one long bad =
    let same = field_of gate more start field e is in
    let past : (from_be_bytes w64 (take 8 more) ≡ 0) ⊎ (length (drop 8 more) < from_be_bytes w64 (take 8 more)) =
    subst (λ (l : List ℕ). (from_be_bytes w64 l ≡ 0) ⊎ (length (drop 8 more) < from_be_bytes w64 l)) same (⊎_elim (λ zero. inl zero) (λ far. inr (omega (arith, far, length-drop 8 more))) bad) in
    (first_is gate more start e one, bad_frame (take 8 more) (drop 8 more) more (eight more (omega arith)) (sym (take-append-drop 8 more)) past)

-- an open gate with the length of a body that is there
pub open_length : (start field rest : List ℕ) (n : ℕ) → start ≡ take 9 rest → field ≡ drop 1 start → get_or start 0 0 ≡ 1 → ((i : ℕ) → get_or field i 0 < 256) → 9 ≤ length rest
    → n ≡ from_be_bytes w64 field → 0 < n → n ≤ length rest - 9 → IsOpen n rest
open_length start field [] n e is one fits long number some within = absurd (omega arith)
open_length start field (gate ∷ more) n e is one fits long number some within =
    let same = field_of gate more start field e is in
    record {
      some = some;
      within = omega arith;
      is = ap (λ g. g ∷ take 8 more) (first_is gate more start e one)
          ∙ ap (λ (l : List ℕ). 1 ∷ l) (sym (field_is (take 8 more) n (eight more (omega arith)) (subst (λ (l : List ℕ). (i : ℕ) → get_or l i 0 < 256) same fits) (subst (λ (l : List ℕ). n ≡ from_be_bytes w64 l) same number)));
    }
