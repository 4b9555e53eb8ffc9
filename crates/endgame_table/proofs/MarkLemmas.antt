-- Marking a list of indices in parts, and what it makes of each number.
use Rattle.std.proofs.Common.{◌≡◌, ◌≢◌, ℕ, suc, ◌+◌, ◌<◌, Bool, true, false, cond, eqb, List, [], ◌∷◌, ◌++◌, length, set, refl, sym, ◌∙◌, ap, subst, inl, inr, arith, append_assoc, length-set}
use Rattle.std.specs.Prelude.{All, slice_index, slice_set}
use Rattle.std.proofs.lemmas.Bool.{cases_Bool, eqb-true, eqb-false, eq-eqb, ne_eqb}
use Rattle.std.proofs.lemmas.List.{get_or-set_other, get_or-set_same, append-nil}
use Rattle.std.proofs.lemmas.List.Sums.{sum_by-cons, sum_by-append, sum_by-set}
use Rattle.std.proofs.lemmas.List.Elements.{All-cons}
use Rattle.endgame_table.specs.Rounds.{undecided}
use Rattle.endgame_table.specs.Marking.{one_if, times, marked, newly, Marks}

-- ---- how often

pub times-cons : (i x : ℕ) (xs : List ℕ) → times i (x ∷ xs) ≡ one_if (eqb x i) + times i xs
times-cons i x xs = sum_by-cons (λ y. one_if (eqb y i)) x xs

pub times-append : (i : ℕ) (xs ys : List ℕ) → times i (xs ++ ys) ≡ times i xs + times i ys
times-append i xs ys = sum_by-append (λ y. one_if (eqb y i)) xs ys

-- ---- in parts

pub marked-append : (number : ℕ) (a b numbers : List ℕ) → marked number (a ++ b) numbers ≡ marked number b (marked number a numbers)
unfolding marked
marked-append number [] b numbers = refl
marked-append number (x ∷ a) b numbers = marked-append number a b (cond (eqb (slice_index numbers x) 0) (slice_set numbers x number) numbers)

pub newly-append : (number : ℕ) (a b numbers : List ℕ) → newly number (a ++ b) numbers ≡ newly number a numbers ++ newly number b (marked number a numbers)
unfolding marked newly
newly-append number [] b numbers = refl
newly-append number (x ∷ a) b numbers = by (eqb (slice_index numbers x) 0) (newly-append number a b (slice_set numbers x number)) (newly-append number a b numbers)
  where
    by : (t : Bool) → newly number (a ++ b) (slice_set numbers x number) ≡ newly number a (slice_set numbers x number) ++ newly number b (marked number a (slice_set numbers x number))
        → newly number (a ++ b) numbers ≡ newly number a numbers ++ newly number b (marked number a numbers)
        → cond t (x ∷ newly number (a ++ b) (slice_set numbers x number)) (newly number (a ++ b) numbers)
        ≡ cond t (x ∷ newly number a (slice_set numbers x number)) (newly number a numbers) ++ newly number b (marked number a (cond t (slice_set numbers x number) numbers))
    by true e f = ap (λ l. x ∷ l) e
    by false e f = f

-- what is left to mark gives what all of it gives
pub record MarksRest (number : ℕ) (all rest first now found more : List ℕ) : Type 0 where
  pub numbers_are : marked number rest now ≡ marked number all first
  pub found_are : more ++ newly number rest now ≡ found ++ newly number all first
  pub same : length now ≡ length first

pub rest-start : (number : ℕ) (all first found : List ℕ) → MarksRest number all all first first found found
rest-start number all first found = record { numbers_are = refl; found_are = refl; same = refl }

pub rest-turn : (number : ℕ) (all a b first now next found more most : List ℕ) → MarksRest number all (a ++ b) first now found more
    → Marks number a now next more most → length next ≡ length now → MarksRest number all b first next found most
rest-turn number all a b first now next found more most rest marks same = record {
  numbers_are = ap (marked number b) marks.numbers_are ∙ sym (marked-append number a b now) ∙ rest.numbers_are;
  found_are =
      (λ i. marks.found_are i ++ newly number b (marks.numbers_are i))
      ∙ append_assoc more (newly number a now) (newly number b (marked number a now))
      ∙ ap (λ l. more ++ l) (sym (newly-append number a b now))
      ∙ rest.found_are;
  same = same ∙ rest.same;
}

pub rest-end : (number : ℕ) (all first now found more : List ℕ) → MarksRest number all [] first now found more → Marks number all first now found more
unfolding marked newly
rest-end number all first now found more rest = record { numbers_are = rest.numbers_are; found_are = sym (append-nil more) ∙ rest.found_are }

-- ---- what it makes of a number

-- k times touched, an index has this number after, and stands n times among those found
pub data IsMarked (number before k after n : ℕ) : Type 0 where
  settled : before ≢ 0 → after ≡ before → n ≡ 0 → IsMarked number before k after n
  reached : before ≡ 0 → k ≢ 0 → after ≡ number → n ≡ 1 → IsMarked number before k after n
  untouched : before ≡ 0 → k ≡ 0 → after ≡ 0 → n ≡ 0 → IsMarked number before k after n

is_marked-nil : (number before : ℕ) → IsMarked number before 0 before 0
is_marked-nil number before = elim (cases_Bool (eqb before 0)) [
  | inl e ↦ (let z = eqb-true before 0 e in untouched z refl z refl)
  | inr e ↦ settled (eqb-false before 0 e) refl refl
]

-- another index was touched
is_marked-other : (number before k after n : ℕ) (x i : ℕ) → x ≢ i → IsMarked number before k after n → IsMarked number before (one_if (eqb x i) + k) after n
is_marked-other number before k after n x i other h = subst (λ j. IsMarked number before j after n) (sym (let e : one_if (eqb x i) + k ≡ k = ap (λ b. one_if b + k) (ne_eqb x i other) ∙ (let z : 0 + k ≡ k = omega arith in z) in e)) h

-- this one was, and is decided
is_marked-kept : (number before k k' after n : ℕ) → before ≢ 0 → IsMarked number before k after n → IsMarked number before k' after n
is_marked-kept number before k k' after n some (settled _ same none) = settled some same none
is_marked-kept number before k k' after n some (reached z _ _ _) = absurd (some z)
is_marked-kept number before k k' after n some (untouched z _ _ _) = absurd (some z)

-- this one was, and got the number
is_marked-set : (number before k k' after n : ℕ) → number ≢ 0 → before ≡ 0 → k' ≢ 0 → IsMarked number number k after n → IsMarked number before k' after (1 + n)
is_marked-set number before k k' after n some z touched (settled _ same none) = reached z touched same (omega arith)
is_marked-set number before k k' after n some z touched (reached z' _ _ _) = absurd (some z')
is_marked-set number before k k' after n some z touched (untouched z' _ _ _) = absurd (some z')

pub set-at : (xs : List ℕ) (x i v : ℕ) → x ≢ i → slice_index (slice_set xs x v) i ≡ slice_index xs i
set-at xs x i v other = get_or-set_other xs x i v 0 (λ e. other (sym e))

module _ (number : ℕ) (some : number ≢ 0) where
  pub marked-at : (touched numbers : List ℕ) (i : ℕ) → All (λ t. t < length numbers) touched
      → IsMarked number (slice_index numbers i) (times i touched) (slice_index (marked number touched numbers) i) (times i (newly number touched numbers))
  unfolding marked newly
  marked-at [] numbers i inside = is_marked-nil number (slice_index numbers i)
  marked-at (x ∷ touched) numbers i inside =
      let below : x < length numbers = inside 0 x (omega arith) in
      let size = length-set numbers x number in
      subst (λ k. IsMarked number (slice_index numbers i) k (slice_index (marked number (x ∷ touched) numbers) i) (times i (newly number (x ∷ touched) numbers))) (sym (times-cons i x touched))
      (by (eqb (slice_index numbers x) 0) below refl
      (marked-at touched (slice_set numbers x number) i (λ k d l. let h = inside (suc k) d (omega arith) in omega (arith, h, size)))
      (marked-at touched numbers i (λ k d l. inside (suc k) d (omega arith))))
    where
      by : (t : Bool) → x < length numbers → eqb (slice_index numbers x) 0 ≡ t
          → IsMarked number (slice_index (slice_set numbers x number) i) (times i touched) (slice_index (marked number touched (slice_set numbers x number)) i) (times i (newly number touched (slice_set numbers x number)))
          → IsMarked number (slice_index numbers i) (times i touched) (slice_index (marked number touched numbers) i) (times i (newly number touched numbers))
          → IsMarked number (slice_index numbers i) (one_if (eqb x i) + times i touched) (slice_index (marked number touched (cond t (slice_set numbers x number) numbers)) i) (times i (cond t (x ∷ newly number touched (slice_set numbers x number)) (newly number touched numbers)))
      by true below e set left = elim (cases_Bool (eqb x i)) [
        | inl at ↦ (let same : x ≡ i = eqb-true x i at in
            let here : slice_index (slice_set numbers x number) i ≡ number = subst (λ j. slice_index (slice_set numbers x number) j ≡ number) same (get_or-set_same numbers x number 0 below) in
            let zero_before : slice_index numbers i ≡ 0 = subst (λ j. slice_index numbers j ≡ 0) same (eqb-true (slice_index numbers x) 0 e) in
            let one : one_if (eqb x i) ≡ 1 = ap (λ b. one_if b) at in
            let n = times-cons i x (newly number touched (slice_set numbers x number)) in
            subst (IsMarked number (slice_index numbers i) (one_if (eqb x i) + times i touched) (slice_index (marked number touched (slice_set numbers x number)) i))
            (let z : 1 + times i (newly number touched (slice_set numbers x number)) ≡ times i (x ∷ newly number touched (slice_set numbers x number)) = omega (arith, n, one) in z)
            (is_marked-set number (slice_index numbers i) (times i touched) (one_if (eqb x i) + times i touched) (slice_index (marked number touched (slice_set numbers x number)) i) (times i (newly number touched (slice_set numbers x number))) some zero_before (omega (arith, one))
            (subst (λ b. IsMarked number b (times i touched) (slice_index (marked number touched (slice_set numbers x number)) i) (times i (newly number touched (slice_set numbers x number)))) here set)))
        | inr off ↦ (let other : x ≢ i = eqb-false x i off in
            let none : one_if (eqb x i) ≡ 0 = ap (λ b. one_if b) off in
            let n = times-cons i x (newly number touched (slice_set numbers x number)) in
            subst (IsMarked number (slice_index numbers i) (one_if (eqb x i) + times i touched) (slice_index (marked number touched (slice_set numbers x number)) i))
            (let z : times i (newly number touched (slice_set numbers x number)) ≡ times i (x ∷ newly number touched (slice_set numbers x number)) = omega (arith, n, none) in z)
            (is_marked-other number (slice_index numbers i) (times i touched) (slice_index (marked number touched (slice_set numbers x number)) i) (times i (newly number touched (slice_set numbers x number))) x i other
            (subst (λ b. IsMarked number b (times i touched) (slice_index (marked number touched (slice_set numbers x number)) i) (times i (newly number touched (slice_set numbers x number)))) (set-at numbers x i number other) set)))
      ]
      by false below e set left = elim (cases_Bool (eqb x i)) [
        | inl at ↦ (let same : x ≡ i = eqb-true x i at in
            let before : slice_index numbers i ≢ 0 = subst (λ j. slice_index numbers j ≢ 0) same (eqb-false (slice_index numbers x) 0 e) in
            is_marked-kept number (slice_index numbers i) (times i touched) (one_if (eqb x i) + times i touched) (slice_index (marked number touched numbers) i) (times i (newly number touched numbers)) before left)
        | inr off ↦ is_marked-other number (slice_index numbers i) (times i touched) (slice_index (marked number touched numbers) i) (times i (newly number touched numbers)) x i (eqb-false x i off) left
      ]

-- ---- how many are undecided

pub undecided-set : (numbers : List ℕ) (i v : ℕ) → i < length numbers → slice_index numbers i ≡ 0 → v ≢ 0 → undecided (slice_set numbers i v) + 1 ≡ undecided numbers
undecided-set numbers i v below z some =
    let e = sum_by-set (λ n. one_if (eqb n 0)) numbers i v 0 below in
    let old : one_if (eqb (slice_index numbers i) 0) ≡ 1 = ap (λ b. one_if b) (eq-eqb (slice_index numbers i) 0 z) in
    let new : one_if (eqb v 0) ≡ 0 = ap (λ b. one_if b) (ne_eqb v 0 some) in
    omega (arith, e, old, new)

pub undecided-marked : (number : ℕ) → number ≢ 0 → (touched numbers : List ℕ) → All (λ t. t < length numbers) touched
    → undecided (marked number touched numbers) + length (newly number touched numbers) ≡ undecided numbers
unfolding marked newly
undecided-marked number some [] numbers inside = omega arith
undecided-marked number some (x ∷ touched) numbers inside =
    let below : x < length numbers = inside 0 x (omega arith) in
    let size = length-set numbers x number in
    by (eqb (slice_index numbers x) 0) below refl
    (undecided-marked number some touched (slice_set numbers x number) (λ k d l. let h = inside (suc k) d (omega arith) in omega (arith, h, size)))
    (undecided-marked number some touched numbers (λ k d l. inside (suc k) d (omega arith)))
  where
    by : (t : Bool) → x < length numbers → eqb (slice_index numbers x) 0 ≡ t
        → undecided (marked number touched (slice_set numbers x number)) + length (newly number touched (slice_set numbers x number)) ≡ undecided (slice_set numbers x number)
        → undecided (marked number touched numbers) + length (newly number touched numbers) ≡ undecided numbers
        → undecided (marked number touched (cond t (slice_set numbers x number) numbers)) + length (cond t (x ∷ newly number touched (slice_set numbers x number)) (newly number touched numbers)) ≡ undecided numbers
    by true below e set left = omega (arith, set, undecided-set numbers x number below (eqb-true (slice_index numbers x) 0 e) some)
    by false below e set left = left

-- ---- what stays of the lists

pub length-marked : (number : ℕ) (touched numbers : List ℕ) → length (marked number touched numbers) ≡ length numbers
unfolding marked
length-marked number [] numbers = refl
length-marked number (x ∷ touched) numbers = by (eqb (slice_index numbers x) 0)
    (length-marked number touched (slice_set numbers x number) ∙ length-set numbers x number)
    (length-marked number touched numbers)
  where
    by : (t : Bool) → length (marked number touched (slice_set numbers x number)) ≡ length numbers → length (marked number touched numbers) ≡ length numbers
        → length (marked number touched (cond t (slice_set numbers x number) numbers)) ≡ length numbers
    by true set left = set
    by false set left = left

pub newly-inside : (P : ℕ → Type 0) (number : ℕ) (touched numbers : List ℕ) → All P touched → All P (newly number touched numbers)
unfolding newly
newly-inside P number [] numbers all = all
newly-inside P number (x ∷ touched) numbers all = by (eqb (slice_index numbers x) 0) (all 0 x (omega arith))
    (newly-inside P number touched (slice_set numbers x number) (λ k d l. all (suc k) d (omega arith)))
    (newly-inside P number touched numbers (λ k d l. all (suc k) d (omega arith)))
  where
    by : (t : Bool) → P x → All P (newly number touched (slice_set numbers x number)) → All P (newly number touched numbers)
        → All P (cond t (x ∷ newly number touched (slice_set numbers x number)) (newly number touched numbers))
    by true here set left = All-cons P x (newly number touched (slice_set numbers x number)) here set
    by false here set left = left
