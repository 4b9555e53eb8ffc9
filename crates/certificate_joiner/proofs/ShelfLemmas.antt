-- Batches are found under their places.
use Rattle.std.proofs.Common.{◌≡◌, ℕ, zero, suc, ◌+◌, ◌-◌, ◌≤◌, Bool, true, false, cond, eqb, ◌&&◌, List, [], ◌∷◌, ◌++◌, length, slice_get, Some, None, refl, sym, ◌∙◌, ap, arith}
use Rattle.std.specs.Prelude.{◌^◌}
use Rattle.std.specs.Map.{lookup}
use Rattle.std.specs.Option.{option_map_or}
use Rattle.std.proofs.lemmas.Bool.{false≢true, eqb-true}
use Rattle.std.proofs.lemmas.Bool.Decides.{nat_tests}
use Rattle.std.proofs.lemmas.List.{map-append, length-append}
use Rattle.std.proofs.lemmas.Option.{slice_get_past}
use Rattle.strategy_certificate.specs.declared.certificates.Certificate.{Certificate}
use Rattle.certificate_joiner.specs.Shelf.{Put, batches_of}
use Rattle.certificate_joiner.specs.ShelfRows.{ShelfRow, put_of, puts_of, placed, IsShelf}

-- ---- keys

abbrev pub is_key : ℕ → ℕ → ℕ × ℕ → Bool
is_key n b y = eqb n y.0 && eqb b y.1

and_true : (a b : Bool) → a ≡ true → b ≡ true → (a && b) ≡ true
and_true true true s t = refl
and_true true false s t = t
and_true false b s t = absurd (false≢true s)

and_first : (a b : Bool) → a ≡ false → (a && b) ≡ false
and_first true b s = absurd (false≢true (sym s))
and_first false b s = refl

and_second : (a b : Bool) → b ≡ false → (a && b) ≡ false
and_second true b s = s
and_second false b s = refl

equal : (m n : ℕ) → m ≡ n → eqb m n ≡ true
equal m n e = grind (arith, nat_tests, e)

differ : (m n : ℕ) → (m ≡ n → ⊥) → eqb m n ≡ false
differ m n e = grind (arith, nat_tests, e)

turned : (m n : ℕ) → eqb m n ≡ false → eqb n m ≡ false
turned m n e = grind (arith, nat_tests, e)

-- ---- a look-up

-- the places given so far, after one more batch of this node
abbrev after : (ℕ → ℕ) → ℕ → ℕ → ℕ
after before m n = cond (eqb m n) (suc (before n)) (before n)

after_same : (before : ℕ → ℕ) (m n : ℕ) (b : Bool) → eqb m n ≡ b → b ≡ true → after before m n ≡ suc (before n)
after_same before m n true e t = ap (λ c. cond c (suc (before n)) (before n)) e
after_same before m n false e t = absurd (false≢true t)

after_other : (before : ℕ → ℕ) (m n : ℕ) → eqb m n ≡ false → after before m n ≡ before n
after_other before m n e = ap (λ c. cond c (suc (before n)) (before n)) e

module _ (test : ℕ × ℕ → Bool) (row : ShelfRow) (rows : List ShelfRow) where
  first_found : test row.0 ≡ true → lookup test (row ∷ rows) ≡ Some row.1
  first_found t = ap (λ b. cond b (Some row.1) (lookup test rows)) t

  first_passed : test row.0 ≡ false → lookup test (row ∷ rows) ≡ lookup test rows
  first_passed t = ap (λ b. cond b (Some row.1) (lookup test rows)) t

pub found : (before : ℕ → ℕ) (puts : List Put) (n i : ℕ) → lookup (is_key n (before n + i)) (placed before puts) ≡ slice_get (batches_of n puts) i
found before [] n i = refl
found before (put ∷ more) n i = by (eqb put.0 n) refl (λ b j. found b more n j) i
  where
    row : ShelfRow
    row = ((put.0, before put.0), put.1)

    rest : List ShelfRow
    rest = placed (after before put.0) more

    by : (b : Bool) → eqb put.0 n ≡ b → ((next : ℕ → ℕ) (j : ℕ) → lookup (is_key n (next n + j)) (placed next more) ≡ slice_get (batches_of n more) j) → (i : ℕ)
        → lookup (is_key n (before n + i)) (row ∷ rest) ≡ slice_get (cond b (put.1 ∷ batches_of n more) (batches_of n more)) i
    by true e later zero =
        let same = eqb-true put.0 n e in
        first_found (is_key n (before n + 0)) row rest
        (and_true (eqb n put.0) (eqb (before n + 0) (before put.0)) (equal n put.0 (sym same))
        (equal (before n + 0) (before put.0) (let z : before n + 0 ≡ before n = omega arith in z ∙ ap before (sym same))))
    by true e later (suc j) =
        let same = eqb-true put.0 n e in
        let far : before n + suc j ≡ before put.0 → ⊥ = λ h. let s : before put.0 ≡ before n = ap before same in omega arith in
        let step : after before put.0 n + j ≡ before n + suc j = let a = after_same before put.0 n (eqb put.0 n) refl e in omega arith in
        first_passed (is_key n (before n + suc j)) row rest
        (and_second (eqb n put.0) (eqb (before n + suc j) (before put.0)) (differ (before n + suc j) (before put.0) far))
        ∙ ap (λ m. lookup (is_key n m) rest) (sym step) ∙ later (after before put.0) j
    by false e later i =
        first_passed (is_key n (before n + i)) row rest (and_first (eqb n put.0) (eqb (before n + i) (before put.0)) (turned put.0 n e))
        ∙ ap (λ m. lookup (is_key n (m + i)) rest) (sym (after_other before put.0 n e)) ∙ later (after before put.0) i

-- ---- one batch more

pub batches-put : (n : ℕ) (puts : List Put) (put : Put) → batches_of n (puts ++ put ∷ []) ≡ cond (eqb put.0 n) (batches_of n puts ++ put.1 ∷ []) (batches_of n puts)
batches-put n [] put = refl
batches-put n (first ∷ more) put = by (eqb first.0 n) (eqb put.0 n) (batches-put n more put)
  where
    by : (b c : Bool) → batches_of n (more ++ put ∷ []) ≡ cond c (batches_of n more ++ put.1 ∷ []) (batches_of n more)
        → cond b (first.1 ∷ batches_of n (more ++ put ∷ [])) (batches_of n (more ++ put ∷ []))
        ≡ cond c (cond b (first.1 ∷ batches_of n more) (batches_of n more) ++ put.1 ∷ []) (cond b (first.1 ∷ batches_of n more) (batches_of n more))
    by true true e = ap (λ l. first.1 ∷ l) e
    by true false e = ap (λ l. first.1 ∷ l) e
    by false true e = e
    by false false e = e

pub placed-put : (before : ℕ → ℕ) (puts : List Put) (put : Put)
    → placed before (puts ++ put ∷ []) ≡ placed before puts ++ ((put.0, before put.0 + length (batches_of put.0 puts)), put.1) ∷ []
placed-put before [] put = ap (λ m. ((put.0, m), put.1) ∷ []) (let z : before put.0 ≡ before put.0 + 0 = omega arith in z)
placed-put before (first ∷ more) put =
    ap (λ l. ((first.0, before first.0), first.1) ∷ l)
    (placed-put (after before first.0) more put ∙ ap (λ m. placed (after before first.0) more ++ ((put.0, m), put.1) ∷ []) (by (eqb first.0 put.0)))
  where
    by : (b : Bool) → cond b (suc (before put.0)) (before put.0) + length (batches_of put.0 more)
        ≡ before put.0 + length (cond b (first.1 ∷ batches_of put.0 more) (batches_of put.0 more))
    by true = omega arith
    by false = refl

few_batches : (n : ℕ) (puts : List Put) → length (batches_of n puts) ≤ length puts
few_batches n [] = omega arith
few_batches n (put ∷ more) = by (eqb put.0 n) (few_batches n more)
  where
    by : (b : Bool) → length (batches_of n more) ≤ length more → length (cond b (put.1 ∷ batches_of n more) (batches_of n more)) ≤ suc (length more)
    by true le = omega arith
    by false le = omega arith

many_puts : (rows : List ShelfRow) → length (puts_of rows) ≡ length rows
many_puts [] = refl
many_puts (row ∷ rows) = ap suc (many_puts rows)

pub puts_of-put : (rows : List ShelfRow) (n b : ℕ) (batch : List Certificate) → puts_of (rows ++ ((n, b), batch) ∷ []) ≡ puts_of rows ++ (n, batch) ∷ []
puts_of-put rows n b batch = map-append put_of rows (((n, b), batch) ∷ [])

-- ---- a shelf

module _ (rows : List ShelfRow) (counts : List (ℕ × ℕ)) (row_space count_space spare : ℕ) (shelf : IsShelf rows counts row_space count_space spare) where
  pub at_place : (n i : ℕ) → lookup (is_key n i) rows ≡ slice_get (batches_of n (puts_of rows)) i
  at_place n i =
      let z : i ≡ 0 + i = omega arith in
      ap (lookup (is_key n i)) shelf.placed ∙ ap (λ j. lookup (is_key n j) (placed (λ m. 0) (puts_of rows))) z ∙ found (λ m. 0) (puts_of rows) n i

  pub at_end : (n : ℕ) → lookup (is_key n (length (batches_of n (puts_of rows)))) rows ≡ None
  at_end n = at_place n (length (batches_of n (puts_of rows))) ∙ slice_get_past (batches_of n (puts_of rows)) (length (batches_of n (puts_of rows))) (omega arith)

  pub place_fits : (n : ℕ) → length (batches_of n (puts_of rows)) ≤ 2 ^ 57
  place_fits n = let a = few_batches n (puts_of rows) in let b = many_puts rows in let c = shelf.few in omega arith

  module _ (n : ℕ) (batch : List Certificate) (some : 1 ≤ spare) (new : List ShelfRow) (new_counts : List (ℕ × ℕ))
      (made : new ≡ rows ++ ((n, length (batches_of n (puts_of rows))), batch) ∷ [])
      (updated : (m : ℕ) → lookup (eqb m) new_counts ≡ cond (eqb n m) (Some (length (batches_of n (puts_of rows)) + 1)) (lookup (eqb m) counts)) where
    pub puts_new : puts_of new ≡ puts_of rows ++ (n, batch) ∷ []
    puts_new = ap puts_of made ∙ puts_of-put rows n (length (batches_of n (puts_of rows))) batch

    placed_new : new ≡ placed (λ m. 0) (puts_of new)
    placed_new =
        let z : length (batches_of n (puts_of rows)) ≡ 0 + length (batches_of n (puts_of rows)) = omega arith in
        made ∙ ap (λ l. l ++ ((n, length (batches_of n (puts_of rows))), batch) ∷ []) shelf.placed
        ∙ ap (λ j. placed (λ m. 0) (puts_of rows) ++ ((n, j), batch) ∷ []) z ∙ sym (placed-put (λ m. 0) (puts_of rows) (n, batch)) ∙ ap (placed (λ m. 0)) (sym puts_new)

    counted_by : (m : ℕ) (b : Bool) → eqb n m ≡ b
        → option_map_or (λ c. c) (cond b (Some (length (batches_of n (puts_of rows)) + 1)) (lookup (eqb m) counts)) 0
        ≡ length (cond b (batches_of m (puts_of rows) ++ batch ∷ []) (batches_of m (puts_of rows)))
    counted_by m true e =
        let same = eqb-true n m e in
        ap (λ k. length (batches_of k (puts_of rows)) + 1) same ∙ sym (length-append (batches_of m (puts_of rows)) (batch ∷ []))
    counted_by m false e = shelf.counted m

    counted_new : (m : ℕ) → option_map_or (λ c. c) (lookup (eqb m) new_counts) 0 ≡ length (batches_of m (puts_of new))
    counted_new m =
        ap (λ o. option_map_or (λ c. c) o 0) (updated m) ∙ counted_by m (eqb n m) refl
        ∙ ap length (sym (batches-put m (puts_of rows) (n, batch))) ∙ ap (λ puts. length (batches_of m puts)) (sym puts_new)

    pub IsShelf-put : (rs cs : ℕ) → row_space ≤ rs + 1 → count_space ≤ cs + 1 → IsShelf new new_counts rs cs (spare - 1)
    IsShelf-put rs cs r c = record {
      placed = placed_new;
      counted = counted_new;
      few = (let e = ap length made ∙ length-append rows (((n, length (batches_of n (puts_of rows))), batch) ∷ []) in let f = shelf.few in omega arith);
      room = (let h = shelf.room in omega arith);
      count_room = (let h = shelf.count_room in omega arith);
    }
