-- Marking the indices whose last target it was: in parts, and what it makes of each number.
use Rattle.std.proofs.Common.{◌≡◌, ◌≢◌, ◌⊎◌, ℕ, suc, ◌+◌, ◌-◌, ◌<◌, ◌≤◌, Bool, true, false, cond, eqb, ◌&&◌, List, [], ◌∷◌, ◌++◌, length, refl, sym, ◌∙◌, ap, subst, inl, inr, arith, append_assoc, length-set}
use Rattle.std.specs.Prelude.{All, slice_index, slice_set}
use Rattle.std.proofs.lemmas.Bool.{cases_Bool, eqb-true, eqb-false, eq-eqb, cases_lt, and_parts, and_cases}
use Rattle.std.proofs.lemmas.List.{get_or-set_same, get_or_past, set_past, append-nil}
use Rattle.std.proofs.lemmas.List.Elements.{All-cons}
use Rattle.endgame_table.specs.Rounds.{undecided}
use Rattle.endgame_table.specs.Marking.{one_if, times, lower, lowered, marked_last, newly_last, MarksLast}
use Rattle.endgame_table.proofs.MarkLemmas.{times-cons, times-append, set-at, undecided-set}

-- ---- in parts

pub lowered-append : (a b waiting : List ℕ) → lowered (a ++ b) waiting ≡ lowered b (lowered a waiting)
unfolding lowered
lowered-append [] b waiting = refl
lowered-append (x ∷ a) b waiting = lowered-append a b (lower waiting x)

-- the index waits for none any more, and is undecided
abbrev pub is_ripe : List ℕ → List ℕ → ℕ → Bool
is_ripe waiting numbers x = eqb (slice_index waiting x - 1) 0 && eqb (slice_index numbers x) 0

pub marked_last-append : (number : ℕ) (a b waiting numbers : List ℕ) → marked_last number (a ++ b) waiting numbers ≡ marked_last number b (lowered a waiting) (marked_last number a waiting numbers)
unfolding lowered marked_last
marked_last-append number [] b waiting numbers = refl
marked_last-append number (x ∷ a) b waiting numbers = marked_last-append number a b (lower waiting x) (cond (is_ripe waiting numbers x) (slice_set numbers x number) numbers)

pub newly_last-append : (number : ℕ) (a b waiting numbers : List ℕ)
    → newly_last number (a ++ b) waiting numbers ≡ newly_last number a waiting numbers ++ newly_last number b (lowered a waiting) (marked_last number a waiting numbers)
unfolding lowered marked_last newly_last
newly_last-append number [] b waiting numbers = refl
newly_last-append number (x ∷ a) b waiting numbers =
    by (is_ripe waiting numbers x) (newly_last-append number a b (lower waiting x) (slice_set numbers x number)) (newly_last-append number a b (lower waiting x) numbers)
  where
    by : (t : Bool) → newly_last number (a ++ b) (lower waiting x) (slice_set numbers x number) ≡ newly_last number a (lower waiting x) (slice_set numbers x number) ++ newly_last number b (lowered a (lower waiting x)) (marked_last number a (lower waiting x) (slice_set numbers x number))
        → newly_last number (a ++ b) (lower waiting x) numbers ≡ newly_last number a (lower waiting x) numbers ++ newly_last number b (lowered a (lower waiting x)) (marked_last number a (lower waiting x) numbers)
        → cond t (x ∷ newly_last number (a ++ b) (lower waiting x) (slice_set numbers x number)) (newly_last number (a ++ b) (lower waiting x) numbers)
        ≡ cond t (x ∷ newly_last number a (lower waiting x) (slice_set numbers x number)) (newly_last number a (lower waiting x) numbers) ++ newly_last number b (lowered a (lower waiting x)) (marked_last number a (lower waiting x) (cond t (slice_set numbers x number) numbers))
    by true e f = ap (λ l. x ∷ l) e
    by false e f = f

-- ---- how many targets an index waits for

lower-at : (waiting : List ℕ) (x i : ℕ) → slice_index (lower waiting x) i ≡ slice_index waiting i - one_if (eqb x i)
lower-at waiting x i = elim (cases_Bool (eqb x i)) [
  | inl at ↦ elim (cases_lt x (length waiting)) [
    | inl below ↦ (let same : x ≡ i = eqb-true x i at in
        subst (λ j. slice_index (lower waiting x) j ≡ slice_index waiting j - 1) same (get_or-set_same waiting x (slice_index waiting x - 1) 0 below)
        ∙ ap (λ b. slice_index waiting i - one_if b) (sym at))
    | inr past ↦ (let same : x ≡ i = eqb-true x i at in
        let none : slice_index waiting i ≡ 0 = subst (λ j. slice_index waiting j ≡ 0) same (past_is x past) in
        ap (λ w. slice_index w i) (set_past waiting x (slice_index waiting x - 1) past)
        ∙ (let z : slice_index waiting i ≡ slice_index waiting i - 1 = omega (arith, none) in z)
        ∙ ap (λ b. slice_index waiting i - one_if b) (sym at))
  ]
  | inr off ↦ set-at waiting x i (slice_index waiting x - 1) (eqb-false x i off)
      ∙ (let z : slice_index waiting i ≡ slice_index waiting i - 0 = omega arith in z)
      ∙ ap (λ b. slice_index waiting i - one_if b) (sym off)
]
  where
    past_is : (x : ℕ) → length waiting ≤ x → slice_index waiting x ≡ 0
    past_is x past = get_or_past waiting x 0 past

pub lowered-at : (touched waiting : List ℕ) (i : ℕ) → slice_index (lowered touched waiting) i ≡ slice_index waiting i - times i touched
unfolding lowered
lowered-at [] waiting i = omega arith
lowered-at (x ∷ touched) waiting i =
    let rest = lowered-at touched (lower waiting x) i in
    omega (arith, rest, lower-at waiting x i, times-cons i x touched)

pub length-lowered : (touched waiting : List ℕ) → length (lowered touched waiting) ≡ length waiting
unfolding lowered
length-lowered [] waiting = refl
length-lowered (x ∷ touched) waiting = length-lowered touched (lower waiting x) ∙ length-set waiting x (slice_index waiting x - 1)

-- enough targets are waited for still
pub enough-left : (a b waiting : List ℕ) → ((i : ℕ) → times i (a ++ b) ≤ slice_index waiting i) → (i : ℕ) → times i b ≤ slice_index (lowered a waiting) i
enough-left a b waiting enough i = omega (arith, enough i, times-append i a b, lowered-at a waiting i)

-- what is left to mark gives what all of it gives
pub record MarksLastRest (number : ℕ) (all rest waiting less first now found more : List ℕ) : Type 0 where
  pub waiting_are : lowered rest less ≡ lowered all waiting
  pub numbers_are : marked_last number rest less now ≡ marked_last number all waiting first
  pub found_are : more ++ newly_last number rest less now ≡ found ++ newly_last number all waiting first
  pub same : length now ≡ length first
  pub same_waiting : length less ≡ length waiting
  pub enough : (i : ℕ) → times i rest ≤ slice_index less i

pub last-start : (number : ℕ) (all waiting first found : List ℕ) → ((i : ℕ) → times i all ≤ slice_index waiting i) → MarksLastRest number all all waiting waiting first first found found
last-start number all waiting first found enough = record { waiting_are = refl; numbers_are = refl; found_are = refl; same = refl; same_waiting = refl; enough = enough }

pub last-turn : (number : ℕ) (all a b waiting less lesser first now next found more most : List ℕ) → MarksLastRest number all (a ++ b) waiting less first now found more
    → MarksLast number a less lesser now next more most → length next ≡ length now → MarksLastRest number all b waiting lesser first next found most
last-turn number all a b waiting less lesser first now next found more most rest marks same = record {
  waiting_are = ap (lowered b) marks.waiting_are ∙ sym (lowered-append a b less) ∙ rest.waiting_are;
  numbers_are = (λ i. marked_last number b (marks.waiting_are i) (marks.numbers_are i)) ∙ sym (marked_last-append number a b less now) ∙ rest.numbers_are;
  found_are =
      (λ i. marks.found_are i ++ newly_last number b (marks.waiting_are i) (marks.numbers_are i))
      ∙ append_assoc more (newly_last number a less now) (newly_last number b (lowered a less) (marked_last number a less now))
      ∙ ap (λ l. more ++ l) (sym (newly_last-append number a b less now))
      ∙ rest.found_are;
  same = same ∙ rest.same;
  same_waiting = ap length marks.waiting_are ∙ length-lowered a less ∙ rest.same_waiting;
  enough = λ i. subst (λ w. times i b ≤ slice_index w i) (sym marks.waiting_are) (enough-left a b less rest.enough i);
}

pub last-end : (number : ℕ) (all waiting less first now found more : List ℕ) → MarksLastRest number all [] waiting less first now found more → MarksLast number all waiting less first now found more
unfolding lowered marked_last newly_last
last-end number all waiting less first now found more rest = record { waiting_are = rest.waiting_are; numbers_are = rest.numbers_are; found_are = sym (append-nil more) ∙ rest.found_are }

-- ---- what it makes of a number

-- k times touched, an index that waits for n targets after has this number after, and stands n times among those
-- found
pub data IsMarkedLast (number before k waits after n : ℕ) : Type 0 where
  settled' : before ≢ 0 → after ≡ before → n ≡ 0 → IsMarkedLast number before k waits after n
  ripe : before ≡ 0 → k ≢ 0 → waits ≡ 0 → after ≡ number → n ≡ 1 → IsMarkedLast number before k waits after n
  later : before ≡ 0 → (k ≡ 0) ⊎ (waits ≢ 0) → after ≡ 0 → n ≡ 0 → IsMarkedLast number before k waits after n

last-nil : (number before waits : ℕ) → IsMarkedLast number before 0 waits before 0
last-nil number before waits = elim (cases_Bool (eqb before 0)) [
  | inl e ↦ (let z = eqb-true before 0 e in later z (inl refl) z refl)
  | inr e ↦ settled' (eqb-false before 0 e) refl refl
]

-- this one was touched once more, and is not ripe with that
last-more : (number before k k' waits after n now : ℕ) → k' ≢ 0 → waits ≡ now - k → (before ≡ 0 → now ≢ 0) → IsMarkedLast number before k waits after n → IsMarkedLast number before k' waits after n
last-more number before k k' waits after n now touched is unripe (settled' some same none) = settled' some same none
last-more number before k k' waits after n now touched is unripe (ripe z _ none same one) = ripe z touched none same one
last-more number before k k' waits after n now touched is unripe (later z (inl e) same none) = later z (inr (let more = unripe z in omega (arith, is, e, more))) same none
last-more number before k k' waits after n now touched is unripe (later z (inr more) same none) = later z (inr more) same none

-- this one was ripe with that, and got the number
last-set : (number before k k' waits after n : ℕ) → number ≢ 0 → before ≡ 0 → k' ≢ 0 → waits ≡ 0 → IsMarkedLast number number k waits after n → IsMarkedLast number before k' waits after (1 + n)
last-set number before k k' waits after n some z touched none (settled' _ same zero_times) = ripe z touched none same (omega arith)
last-set number before k k' waits after n some z touched none (ripe z' _ _ _ _) = absurd (some z')
last-set number before k k' waits after n some z touched none (later z' _ _ _) = absurd (some z')

module _ (number : ℕ) (some : number ≢ 0) where
  pub marked_last-at : (touched waiting numbers : List ℕ) (i : ℕ) → All (λ t. t < length numbers) touched → ((j : ℕ) → times j touched ≤ slice_index waiting j)
      → IsMarkedLast number (slice_index numbers i) (times i touched) (slice_index (lowered touched waiting) i) (slice_index (marked_last number touched waiting numbers) i) (times i (newly_last number touched waiting numbers))
  unfolding lowered marked_last newly_last
  marked_last-at [] waiting numbers i inside enough = last-nil number (slice_index numbers i) (slice_index waiting i)
  marked_last-at (x ∷ touched) waiting numbers i inside enough =
      let below : x < length numbers = inside 0 x (omega arith) in
      let size = length-set numbers x number in
      let left = enough-left (x ∷ []) touched waiting enough in
      subst (λ k. IsMarkedLast number (slice_index numbers i) k (slice_index (lowered (x ∷ touched) waiting) i) (slice_index (marked_last number (x ∷ touched) waiting numbers) i) (times i (newly_last number (x ∷ touched) waiting numbers))) (sym (times-cons i x touched))
      (by (is_ripe waiting numbers x) below (enough x) refl
      (marked_last-at touched (lower waiting x) (slice_set numbers x number) i (λ k d l. let h = inside (suc k) d (omega arith) in omega (arith, h, size)) left)
      (marked_last-at touched (lower waiting x) numbers i (λ k d l. inside (suc k) d (omega arith)) left))
    where
      by : (t : Bool) → x < length numbers → times x (x ∷ touched) ≤ slice_index waiting x → is_ripe waiting numbers x ≡ t
          → IsMarkedLast number (slice_index (slice_set numbers x number) i) (times i touched) (slice_index (lowered touched (lower waiting x)) i) (slice_index (marked_last number touched (lower waiting x) (slice_set numbers x number)) i) (times i (newly_last number touched (lower waiting x) (slice_set numbers x number)))
          → IsMarkedLast number (slice_index numbers i) (times i touched) (slice_index (lowered touched (lower waiting x)) i) (slice_index (marked_last number touched (lower waiting x) numbers) i) (times i (newly_last number touched (lower waiting x) numbers))
          → IsMarkedLast number (slice_index numbers i) (one_if (eqb x i) + times i touched) (slice_index (lowered touched (lower waiting x)) i) (slice_index (marked_last number touched (lower waiting x) (cond t (slice_set numbers x number) numbers)) i) (times i (cond t (x ∷ newly_last number touched (lower waiting x) (slice_set numbers x number)) (newly_last number touched (lower waiting x) numbers)))
      by true below most e set left = elim (cases_Bool (eqb x i)) [
        | inl at ↦ (let same : x ≡ i = eqb-true x i at in
            let both = and_parts (eqb (slice_index waiting x - 1) 0) (eqb (slice_index numbers x) 0) e in
            let here : slice_index (slice_set numbers x number) i ≡ number = subst (λ j. slice_index (slice_set numbers x number) j ≡ number) same (get_or-set_same numbers x number 0 below) in
            let zero_before : slice_index numbers i ≡ 0 = subst (λ j. slice_index numbers j ≡ 0) same (eqb-true (slice_index numbers x) 0 both.1) in
            let one : one_if (eqb x i) ≡ 1 = ap (λ b. one_if b) at in
            let last : slice_index waiting i - 1 ≡ 0 = subst (λ j. slice_index waiting j - 1 ≡ 0) same (eqb-true (slice_index waiting x - 1) 0 both.0) in
            let none : slice_index (lowered touched (lower waiting x)) i ≡ 0 = omega (arith, lowered-at touched (lower waiting x) i, lower-at waiting x i, one, last) in
            let n = times-cons i x (newly_last number touched (lower waiting x) (slice_set numbers x number)) in
            subst (IsMarkedLast number (slice_index numbers i) (one_if (eqb x i) + times i touched) (slice_index (lowered touched (lower waiting x)) i) (slice_index (marked_last number touched (lower waiting x) (slice_set numbers x number)) i))
            (let z : 1 + times i (newly_last number touched (lower waiting x) (slice_set numbers x number)) ≡ times i (x ∷ newly_last number touched (lower waiting x) (slice_set numbers x number)) = omega (arith, n, one) in z)
            (last-set number (slice_index numbers i) (times i touched) (one_if (eqb x i) + times i touched) (slice_index (lowered touched (lower waiting x)) i) (slice_index (marked_last number touched (lower waiting x) (slice_set numbers x number)) i) (times i (newly_last number touched (lower waiting x) (slice_set numbers x number))) some zero_before (omega (arith, one)) none
            (subst (λ b. IsMarkedLast number b (times i touched) (slice_index (lowered touched (lower waiting x)) i) (slice_index (marked_last number touched (lower waiting x) (slice_set numbers x number)) i) (times i (newly_last number touched (lower waiting x) (slice_set numbers x number)))) here set)))
        | inr off ↦ (let other : x ≢ i = eqb-false x i off in
            let none : one_if (eqb x i) ≡ 0 = ap (λ b. one_if b) off in
            let n = times-cons i x (newly_last number touched (lower waiting x) (slice_set numbers x number)) in
            let k : times i touched ≡ one_if (eqb x i) + times i touched = omega (arith, none) in
            let m : times i (newly_last number touched (lower waiting x) (slice_set numbers x number)) ≡ times i (x ∷ newly_last number touched (lower waiting x) (slice_set numbers x number)) = omega (arith, n, none) in
            let before : slice_index (slice_set numbers x number) i ≡ slice_index numbers i = set-at numbers x i number other in
            subst (IsMarkedLast number (slice_index numbers i) (one_if (eqb x i) + times i touched) (slice_index (lowered touched (lower waiting x)) i) (slice_index (marked_last number touched (lower waiting x) (slice_set numbers x number)) i)) m
            (subst (λ j. IsMarkedLast number (slice_index numbers i) j (slice_index (lowered touched (lower waiting x)) i) (slice_index (marked_last number touched (lower waiting x) (slice_set numbers x number)) i) (times i (newly_last number touched (lower waiting x) (slice_set numbers x number)))) k
            (subst (λ b. IsMarkedLast number b (times i touched) (slice_index (lowered touched (lower waiting x)) i) (slice_index (marked_last number touched (lower waiting x) (slice_set numbers x number)) i) (times i (newly_last number touched (lower waiting x) (slice_set numbers x number)))) before set)))
      ]
      by false below most e set left = elim (cases_Bool (eqb x i)) [
        | inl at ↦ (let same : x ≡ i = eqb-true x i at in
            let one : one_if (eqb x i) ≡ 1 = ap (λ b. one_if b) at in
            let unripe : slice_index numbers i ≡ 0 → slice_index (lower waiting x) i ≢ 0 = λ z w. unripe_so e (subst (λ j. slice_index numbers j ≡ 0) (sym same) z) (subst (λ j. slice_index (lower waiting x) j ≡ 0) (sym same) w) in
            last-more number (slice_index numbers i) (times i touched) (one_if (eqb x i) + times i touched) (slice_index (lowered touched (lower waiting x)) i) (slice_index (marked_last number touched (lower waiting x) numbers) i) (times i (newly_last number touched (lower waiting x) numbers)) (slice_index (lower waiting x) i) (omega (arith, one)) (lowered-at touched (lower waiting x) i) unripe left)
        | inr off ↦ (let none : one_if (eqb x i) ≡ 0 = ap (λ b. one_if b) off in
            let k : times i touched ≡ one_if (eqb x i) + times i touched = omega (arith, none) in
            subst (λ j. IsMarkedLast number (slice_index numbers i) j (slice_index (lowered touched (lower waiting x)) i) (slice_index (marked_last number touched (lower waiting x) numbers) i) (times i (newly_last number touched (lower waiting x) numbers))) k left)
      ]
        where
          unripe_so : is_ripe waiting numbers x ≡ false → slice_index numbers x ≡ 0 → slice_index (lower waiting x) x ≢ 0
          unripe_so e z w = elim (and_cases (eqb (slice_index waiting x - 1) 0) (eqb (slice_index numbers x) 0) e) [
            | inl more ↦ eqb-false (slice_index waiting x - 1) 0 more (omega (arith, w, lower-at waiting x x, (let s : one_if (eqb x x) ≡ 1 = ap (λ b. one_if b) (eq-eqb x x refl) in s)))
            | inr done ↦ eqb-false (slice_index numbers x) 0 done z
          ]

-- ---- how many are undecided

pub undecided-marked_last : (number : ℕ) → number ≢ 0 → (touched waiting numbers : List ℕ) → All (λ t. t < length numbers) touched
    → undecided (marked_last number touched waiting numbers) + length (newly_last number touched waiting numbers) ≡ undecided numbers
unfolding marked_last newly_last
undecided-marked_last number some [] waiting numbers inside = omega arith
undecided-marked_last number some (x ∷ touched) waiting numbers inside =
    let below : x < length numbers = inside 0 x (omega arith) in
    let size = length-set numbers x number in
    by (is_ripe waiting numbers x) below refl
    (undecided-marked_last number some touched (lower waiting x) (slice_set numbers x number) (λ k d l. let h = inside (suc k) d (omega arith) in omega (arith, h, size)))
    (undecided-marked_last number some touched (lower waiting x) numbers (λ k d l. inside (suc k) d (omega arith)))
  where
    by : (t : Bool) → x < length numbers → is_ripe waiting numbers x ≡ t
        → undecided (marked_last number touched (lower waiting x) (slice_set numbers x number)) + length (newly_last number touched (lower waiting x) (slice_set numbers x number)) ≡ undecided (slice_set numbers x number)
        → undecided (marked_last number touched (lower waiting x) numbers) + length (newly_last number touched (lower waiting x) numbers) ≡ undecided numbers
        → undecided (marked_last number touched (lower waiting x) (cond t (slice_set numbers x number) numbers)) + length (cond t (x ∷ newly_last number touched (lower waiting x) (slice_set numbers x number)) (newly_last number touched (lower waiting x) numbers)) ≡ undecided numbers
    by true below e set left =
        let both = and_parts (eqb (slice_index waiting x - 1) 0) (eqb (slice_index numbers x) 0) e in
        omega (arith, set, undecided-set numbers x number below (eqb-true (slice_index numbers x) 0 both.1) some)
    by false below e set left = left

-- ---- what stays of the lists

pub length-marked_last : (number : ℕ) (touched waiting numbers : List ℕ) → length (marked_last number touched waiting numbers) ≡ length numbers
unfolding marked_last
length-marked_last number [] waiting numbers = refl
length-marked_last number (x ∷ touched) waiting numbers = by (is_ripe waiting numbers x)
    (length-marked_last number touched (lower waiting x) (slice_set numbers x number) ∙ length-set numbers x number)
    (length-marked_last number touched (lower waiting x) numbers)
  where
    by : (t : Bool) → length (marked_last number touched (lower waiting x) (slice_set numbers x number)) ≡ length numbers
        → length (marked_last number touched (lower waiting x) numbers) ≡ length numbers
        → length (marked_last number touched (lower waiting x) (cond t (slice_set numbers x number) numbers)) ≡ length numbers
    by true set left = set
    by false set left = left

pub newly_last-inside : (P : ℕ → Type 0) (number : ℕ) (touched waiting numbers : List ℕ) → All P touched → All P (newly_last number touched waiting numbers)
unfolding newly_last
newly_last-inside P number [] waiting numbers all = all
newly_last-inside P number (x ∷ touched) waiting numbers all = by (is_ripe waiting numbers x) (all 0 x (omega arith))
    (newly_last-inside P number touched (lower waiting x) (slice_set numbers x number) (λ k d l. all (suc k) d (omega arith)))
    (newly_last-inside P number touched (lower waiting x) numbers (λ k d l. all (suc k) d (omega arith)))
  where
    by : (t : Bool) → P x → All P (newly_last number touched (lower waiting x) (slice_set numbers x number)) → All P (newly_last number touched (lower waiting x) numbers)
        → All P (cond t (x ∷ newly_last number touched (lower waiting x) (slice_set numbers x number)) (newly_last number touched (lower waiting x) numbers))
    by true here set left = All-cons P x (newly_last number touched (lower waiting x) (slice_set numbers x number)) here set
    by false here set left = left
