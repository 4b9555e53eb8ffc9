-- The numbers of positions in a list.
use Rattle.std.proofs.Common.{◌≡◌, ℕ, zero, suc, ◌+◌, ◌<◌, ◌≤◌, ◌^◌, Bool, true, false, List, [], ◌∷◌, ◌++◌, length, refl, sym, ◌∙◌, ap, subst, arith, Some, None, cond, not, inl, inr, ◌⊎◌, append_assoc, Option, take, drop}
use Rattle.std.specs.Prelude.{Contains, slice_get, ◌||◌, position, nat_lt, IfSome, IfNone, is_some}
use Rattle.std.proofs.lemmas.List.Folds.{list_any-append}
use Rattle.std.specs.List.{list_any, position_or_len, IsDistinct, AllByRecursion}
use Rattle.std.proofs.lemmas.Bool.{false≢true}
use Rattle.std.proofs.lemmas.List.{length-append, take-append-drop, take-append-le}
use Rattle.std.proofs.Math.Seq.{take-length, take-append_seam}
use Rattle.std.proofs.lemmas.List.Elements.{All-push, Contains-append_right}
use Rattle.std.proofs.lemmas.Map.Keys.{IsDistinct-head, IsDistinct-tail}
use Rattle.draughts_board.specs.Board.{Board, IsLawful, same_board}
use Rattle.draughts_board.specs.Same.{same_board-Decides}
use Rattle.draughts_board.proofs.Members.{bool_cases, any_true, true_any}
use Rattle.bench_records.specs.Names.{Sheet, mark, name, IsNamed, with_name, named_by}
use Rattle.bench_records.specs.Woven.{GoesOn}
use Rattle.bench_records.proofs.Rows.{new_push}

-- ---- whether a list has a position

pub any_absent : (named : List Board) (p : Board) → list_any (same_board p) named ≡ false → ¬ Contains named p
any_absent named p none there = false≢true (sym none ∙ any_true (same_board p) named p there ((same_board-Decides p p).1 refl))

pub absent_any : (named : List Board) (p : Board) → ¬ Contains named p → list_any (same_board p) named ≡ false
absent_any named p new = by (bool_cases (list_any (same_board p) named))
  where
    by : (list_any (same_board p) named ≡ true) ⊎ (list_any (same_board p) named ≡ false) → list_any (same_board p) named ≡ false
    by (inr absent) = absent
    by (inl some) = let found = true_any (same_board p) named some in absurd (new (subst (Contains named) (sym ((same_board-Decides p found.0).0 found.1.1)) found.1.0))

-- ---- the number of a position

-- the first that passes is the position, where only it passes
first_is : (test : Board → Bool) (p : Board) → ((q : Board) → test q ≡ true → p ≡ q) → (named : List Board) → list_any test named ≡ true → slice_get named (position_or_len test named) ≡ Some p
first_is test p same [] some = absurd (false≢true some)
first_is test p same (q ∷ named) some = by (test q) (same q) some (first_is test p same named)
  where
    by : (b : Bool) → (b ≡ true → p ≡ q) → (b || list_any test named) ≡ true → (list_any test named ≡ true → slice_get named (position_or_len test named) ≡ Some p)
        → slice_get (q ∷ named) (cond (not b) (1 + position_or_len test named) 0) ≡ Some p
    by true own h rest = ap Some (sym (own refl))
    by false own h rest =
        let next : suc (position_or_len test named) ≡ 1 + position_or_len test named = omega arith in
        subst (λ k. slice_get (q ∷ named) k ≡ Some p) next (rest h)

none_first : (test : Board → Bool) (named : List Board) → list_any test named ≡ false → position_or_len test named ≡ length named
none_first test [] none = refl
none_first test (q ∷ named) none = by (test q) none (none_first test named)
  where
    by : (b : Bool) → (b || list_any test named) ≡ false → (list_any test named ≡ false → position_or_len test named ≡ length named) → cond (not b) (1 + position_or_len test named) 0 ≡ suc (length named)
    by true h rest = absurd (false≢true (sym h))
    by false h rest = let e = rest h in omega arith

pub number_there : (named : List Board) (p : Board) → list_any (same_board p) named ≡ true → slice_get named (position_or_len (same_board p) named) ≡ Some p
number_there named p some = first_is (same_board p) p (λ q. (same_board-Decides p q).0) named some

pub number_new : (named : List Board) (p : Board) → list_any (same_board p) named ≡ false → position_or_len (same_board p) named ≡ length named
number_new named p none = none_first (same_board p) named none

-- where positions stand once, a number is that of its position
pub record IsNumber (named : List Board) (p : Board) (n : ℕ) : Type 0 where
  pub there : list_any (same_board p) named ≡ true
  pub number : position_or_len (same_board p) named ≡ n

differs : (q p : Board) (named : List Board) (n : ℕ) → AllByRecursion (λ r. same_board q r ≡ false) named → slice_get named n ≡ Some p → same_board q p ≡ false
differs q p [] n all h = absurd (cc)
differs q p (r ∷ named) zero all h = let same : r ≡ p = cc in subst (λ s. same_board q s ≡ false) same all.0
differs q p (r ∷ named) (suc n) all h = differs q p named n all.1 h

other_way : (p q : Board) → same_board q p ≡ false → same_board p q ≡ false
other_way p q unlike = by (bool_cases (same_board p q))
  where
    by : (same_board p q ≡ true) ⊎ (same_board p q ≡ false) → same_board p q ≡ false
    by (inr e) = e
    by (inl e) = absurd (false≢true (sym unlike ∙ (same_board-Decides q p).1 (sym ((same_board-Decides p q).0 e))))

pub number_of_there : (named : List Board) (p : Board) (n : ℕ) → IsDistinct same_board named → slice_get named n ≡ Some p → IsNumber named p n
number_of_there [] p n distinct h = absurd (cc)
number_of_there (q ∷ named) p zero distinct h =
    let same : q ≡ p = cc in
    let own : same_board p q ≡ true = (same_board-Decides p q).1 (sym same) in
    record {
      there = ap (λ c. c || list_any (same_board p) named) own;
      number = ap (λ c. cond (not c) (1 + position_or_len (same_board p) named) 0) own;
    }
number_of_there (q ∷ named) p (suc n) distinct h =
    let rest = number_of_there named p n (IsDistinct-tail same_board q named distinct) h in
    let unlike : same_board p q ≡ false = other_way p q (differs q p named n (IsDistinct-head same_board q named distinct) h) in
    record {
      there = ap (λ c. c || list_any (same_board p) named) unlike ∙ rest.there;
      number = ap (λ c. cond (not c) (1 + position_or_len (same_board p) named) 0) unlike ∙ (let e = rest.number in omega arith);
    }

-- ---- lists grow

pub with_name-new : (named : List Board) (p : Board) → list_any (same_board p) named ≡ false → with_name named p ≡ named ++ p ∷ []
with_name-new named p none = ap (λ b. cond b named (named ++ p ∷ [])) none

pub with_name-there : (named : List Board) (p : Board) → list_any (same_board p) named ≡ true → with_name named p ≡ named
with_name-there named p some = ap (λ b. cond b named (named ++ p ∷ [])) some

pub name_grows : (named : List Board) (p : Board) → length named ≤ length (with_name named p)
name_grows named p = by (list_any (same_board p) named)
  where
    by : (b : Bool) → length named ≤ length (cond b named (named ++ p ∷ []))
    by true = omega arith
    by false = omega (arith, length-append named (p ∷ []))

pub names_grow : (named : List Board) (sheet : Sheet) → length named ≤ length (named_by named sheet)
names_grow named [] = omega arith
names_grow named (mark n ∷ sheet) = names_grow named sheet
names_grow named (name p ∷ sheet) = let one = name_grows named p in let more = names_grow (with_name named p) sheet in omega arith

pub named_push : (named : List Board) (p : Board) → IsNamed named → IsLawful p → ¬ Contains named p → length named + 1 < 2 ^ 32 → IsNamed (named ++ p ∷ [])
named_push named p is lawful new few = record {
  distinct = new_push named p is.distinct new;
  lawful = All-push IsLawful named p is.lawful lawful;
  few = omega (arith, length-append named (p ∷ []));
}

-- ---- one list behind another

left_is : (test : Board → Bool) (xs ys : List Board) → list_any test xs ≡ true → position_or_len test (xs ++ ys) ≡ position_or_len test xs
left_is test [] ys some = absurd (false≢true some)
left_is test (x ∷ xs) ys some = by (test x) some (left_is test xs ys)
  where
    by : (b : Bool) → (b || list_any test xs) ≡ true → (list_any test xs ≡ true → position_or_len test (xs ++ ys) ≡ position_or_len test xs)
        → cond (not b) (1 + position_or_len test (xs ++ ys)) 0 ≡ cond (not b) (1 + position_or_len test xs) 0
    by true h rest = refl
    by false h rest = ap (λ n. 1 + n) (rest h)

right_is : (test : Board → Bool) (xs ys : List Board) → list_any test xs ≡ false → position_or_len test (xs ++ ys) ≡ length xs + position_or_len test ys
right_is test [] ys none = omega arith
right_is test (x ∷ xs) ys none = by (test x) none (right_is test xs ys)
  where
    by : (b : Bool) → (b || list_any test xs) ≡ false → (list_any test xs ≡ false → position_or_len test (xs ++ ys) ≡ length xs + position_or_len test ys)
        → cond (not b) (1 + position_or_len test (xs ++ ys)) 0 ≡ suc (length xs) + position_or_len test ys
    by true h rest = absurd (false≢true (sym h))
    by false h rest = let e = rest h in omega arith

pub found_first : (xs ys : List Board) (p : Board) (n : ℕ) → list_any (same_board p) xs ≡ true → n ≡ position_or_len (same_board p) xs → (list_any (same_board p) (xs ++ ys) ≡ true) × (n ≡ position_or_len (same_board p) (xs ++ ys))
found_first xs ys p n some is = (list_any-append (same_board p) xs ys ∙ ap (λ b. b || list_any (same_board p) ys) some, is ∙ sym (left_is (same_board p) xs ys some))

pub position_some : (test : Board → Bool) (xs : List Board) (n : ℕ) → Some n ≡ position test xs → position_or_len test xs ≡ n
position_some test xs n e = by (nat_lt (position_or_len test xs) (length xs)) e
  where
    by : (b : Bool) → Some n ≡ cond b (Some (position_or_len test xs)) None → position_or_len test xs ≡ n
    by true h = cc
    by false h = absurd (cc)

pub found_second : (xs ys : List Board) (p : Board) (n : ℕ) → list_any (same_board p) xs ≡ false → true ≡ list_any (same_board p) ys → Some n ≡ position (same_board p) ys
    → (list_any (same_board p) (xs ++ ys) ≡ true) × (length xs + n ≡ position_or_len (same_board p) (xs ++ ys))
found_second xs ys p n none some at = (
  list_any-append (same_board p) xs ys ∙ ap (λ b. b || list_any (same_board p) ys) none ∙ sym some,
  let k = position_some (same_board p) ys n at in let e = right_is (same_board p) xs ys none in omega arith,
)

-- a position goes last in the second list
pub named_behind : (xs ys more : List Board) (p : Board) → IsNamed (xs ++ ys) → IsLawful p → list_any (same_board p) (xs ++ ys) ≡ false → length (xs ++ ys) + 1 < 2 ^ 32 → more ≡ with_name ys p
    → (xs ++ more ≡ (xs ++ ys) ++ p ∷ []) × IsNamed (xs ++ more)
named_behind xs ys more p is lawful none few keys =
    let absent : list_any (same_board p) ys ≡ false = absent_any ys p (λ there. any_absent (xs ++ ys) p none (Contains-append_right xs ys p there)) in
    let last : more ≡ ys ++ p ∷ [] = keys ∙ ap (λ b. cond b ys (ys ++ p ∷ [])) absent in
    let whole : xs ++ more ≡ (xs ++ ys) ++ p ∷ [] = ap (λ l. xs ++ l) last ∙ sym (append_assoc xs ys (p ∷ [])) in
    (whole, subst IsNamed (sym whole) (named_push (xs ++ ys) p is lawful (any_absent (xs ++ ys) p none) few))

-- what a look-up says
pub look_there : (r : Option ℕ) (A B : ℕ → Type 0) → IfSome r (λ n. A n × B n) → is_some r ≡ true → (n : ℕ) × A n
look_there (Some n) A B h some = (n, h.0)
look_there None A B h some = absurd (false≢true some)

pub look_absent : (r : Option ℕ) (A : Type 0) → IfNone r A → is_some r ≡ false → A
look_absent None A h none = h
look_absent (Some n) A h none = absurd (false≢true (sym none))

pub any_contains : (named : List Board) (p : Board) → list_any (same_board p) named ≡ true → Contains named p
any_contains named p some =
    let found = true_any (same_board p) named some in
    subst (Contains named) (sym ((same_board-Decides p found.0).0 found.1.1)) found.1.0

pub named_with : (named : List Board) (p : Board) → IsNamed named → IsLawful p → length named + 1 < 2 ^ 32 → IsNamed (with_name named p)
named_with named p is lawful few = by (bool_cases (list_any (same_board p) named))
  where
    by : (list_any (same_board p) named ≡ true) ⊎ (list_any (same_board p) named ≡ false) → IsNamed (with_name named p)
    by (inl some) = subst IsNamed (sym (with_name-there named p some)) is
    by (inr none) = subst IsNamed (sym (with_name-new named p none)) (named_push named p is lawful (any_absent named p none) few)

-- ---- a list grows at its end

pub name_front : (named : List Board) (p : Board) → take (length named) (with_name named p) ≡ named
name_front named p = by (list_any (same_board p) named)
  where
    by : (b : Bool) → take (length named) (cond b named (named ++ p ∷ [])) ≡ named
    by true = take-length named
    by false = take-append_seam named (p ∷ [])

-- what a list has kept, a longer one has kept
pub front_on : (named middle later : List Board) → length named ≤ length middle → take (length named) middle ≡ named → take (length middle) later ≡ middle → take (length named) later ≡ named
front_on named middle later few one two =
    let split : later ≡ middle ++ drop (length middle) later = sym (take-append-drop (length middle) later) ∙ ap (λ l. l ++ drop (length middle) later) two in
    ap (take (length named)) split ∙ take-append-le (length named) middle (drop (length middle) later) few ∙ one

-- so it can be cut back to what it was
pub named_front : (named : List Board) (sheet : Sheet) → take (length named) (named_by named sheet) ≡ named
named_front named [] = take-length named
named_front named (mark n ∷ sheet) = named_front named sheet
named_front named (name p ∷ sheet) = front_on named (with_name named p) (named_by (with_name named p) sheet) (name_grows named p) (name_front named p) (named_front (with_name named p) sheet)

pub goes_on_name : (named : List Board) (p : Board) → GoesOn named (with_name named p)
goes_on_name named p = (name_grows named p, name_front named p)

pub goes_on_same : (named : List Board) → GoesOn named named
goes_on_same named = (omega arith, take-length named)

pub goes_on_then : (one two three : List Board) → GoesOn one two → GoesOn two three → GoesOn one three
goes_on_then one two three first second =
    let a = first.0 in
    let b = second.0 in
    (omega arith, front_on one two three first.0 first.1 second.1)
