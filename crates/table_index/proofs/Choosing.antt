-- The choices of squares: how many there are, and what stands where in their order.
use Rattle.std.proofs.Common.{◌≡◌, ℕ, zero, suc, ◌+◌, ◌<◌, ◌≤◌, Bool, true, false, ◌&&◌, cond, not, eqb, leb, List, [], ◌∷◌, ◌++◌, map, length, slice_get, Some, refl, sym, ap, ap₂, ◌∙◌, arith, length-append}
use Rattle.std.specs.List.{position_or_len}
use Rattle.std.specs.Cmp.Lexicographic.{pointwise}
use Rattle.std.proofs.lemmas.List.{length-map}
use Rattle.std.proofs.lemmas.Bool.{eq-eqb, eqb-true, leb-true, agree_below, agree_below_at}
use Rattle.table_index.specs.Counting.{choose}
use Rattle.table_index.specs.Order.{choices}

pub length-choices : (n : ℕ) (all : List ℕ) → length (choices n all) ≡ choose n (length all)
unfolding choices choose
length-choices zero all = refl
length-choices (suc n) [] = refl
length-choices (suc n) (x ∷ all) =
    length-append (map (λ rest. x ∷ rest) (choices n all)) (choices (suc n) all)
    ∙ ap₂ (λ a b. a + b) (length-map (choices n all) (λ rest. x ∷ rest) ∙ length-choices n all) (length-choices (suc n) all)

-- a test that computes to true at each number below 33
at_each : (test : ℕ → Bool) → agree_below test (λ _. true) 33 ≡ true → (m : ℕ) → m ≤ 32 → test m ≡ true
at_each test all m h = agree_below_at test (λ _. true) 33 m all (omega arith)

-- how many choices of up to three out of at most 32 squares
pub choose-none : (m : ℕ) → choose 0 m ≡ 1
unfolding choose
choose-none m = refl

pub choose-one : (m : ℕ) → m ≤ 32 → choose 1 m ≡ m
unfolding choose
choose-one m h = eqb-true (choose 1 m) m (at_each (λ k. eqb (choose 1 k) k) refl m h)

-- there are at most 4,960
pub choose-most : (n m : ℕ) → n ≤ 3 → m ≤ 32 → choose n m ≤ 4960
unfolding choose
choose-most zero m h l = omega arith
choose-most (suc zero) m h l = leb-true (choose 1 m) 4960 (at_each (λ k. leb (choose 1 k) 4960) refl m l)
choose-most (suc (suc zero)) m h l = leb-true (choose 2 m) 4960 (at_each (λ k. leb (choose 2 k) 4960) refl m l)
choose-most (suc (suc (suc zero))) m h l = leb-true (choose 3 m) 4960 (at_each (λ k. leb (choose 3 k) 4960) refl m l)
choose-most (suc (suc (suc (suc n)))) m h l = absurd (omega arith)

-- ---- the first place of a list at which a test passes

first-same : {X : Type 0} (f g : X → Bool) (xs : List X) → ((x : X) → f x ≡ g x) → position_or_len f xs ≡ position_or_len g xs
first-same f g [] e = refl
first-same f g (x ∷ xs) e = ap₂ (λ b n. cond (not b) (1 + n) 0) (e x) (first-same f g xs e)

first-map : {X Y : Type 0} (p : Y → Bool) (f : X → Y) (xs : List X) → position_or_len p (map f xs) ≡ position_or_len (λ x. p (f x)) xs
first-map p f [] = refl
first-map p f (x ∷ xs) = ap (λ n. cond (not (p (f x))) (1 + n) 0) (first-map p f xs)

first-never : {X : Type 0} (xs : List X) → position_or_len (λ x. false) xs ≡ length xs
first-never [] = refl
first-never (x ∷ xs) = ap (λ n. 1 + n) (first-never xs) ∙ omega arith

-- the place lies in the first of two lists, or behind all of it
first-left : {X : Type 0} (p : X → Bool) (xs ys : List X) → position_or_len p xs < length xs → position_or_len p (xs ++ ys) ≡ position_or_len p xs
first-left p [] ys h = absurd (omega arith)
first-left p (x ∷ xs) ys h =
    let step : (b : Bool) → cond (not b) (1 + position_or_len p xs) 0 < suc (length xs)
    → cond (not b) (1 + position_or_len p (xs ++ ys)) 0 ≡ cond (not b) (1 + position_or_len p xs) 0 =
    λ b. elim b as (λ v. cond (not v) (1 + position_or_len p xs) 0 < suc (length xs)
    → cond (not v) (1 + position_or_len p (xs ++ ys)) 0 ≡ cond (not v) (1 + position_or_len p xs) 0) [ true ↦ λ _. refl | false ↦ λ l. ap (λ n. 1 + n) (first-left p xs ys (omega arith)) ] in
    step (p x) h

first-right : {X : Type 0} (p : X → Bool) (xs ys : List X) → position_or_len p xs ≡ length xs → position_or_len p (xs ++ ys) ≡ length xs + position_or_len p ys
first-right p [] ys h = omega arith
first-right p (x ∷ xs) ys h =
    let step : (b : Bool) → cond (not b) (1 + position_or_len p xs) 0 ≡ suc (length xs)
    → cond (not b) (1 + position_or_len p (xs ++ ys)) 0 ≡ suc (length xs) + position_or_len p ys =
    λ b. elim b as (λ v. cond (not v) (1 + position_or_len p xs) 0 ≡ suc (length xs)
    → cond (not v) (1 + position_or_len p (xs ++ ys)) 0 ≡ suc (length xs) + position_or_len p ys) [
      | true ↦ λ l. absurd (omega arith)
      | false ↦ λ l. let rest = first-right p xs ys (omega arith) in omega arith
    ] in
    step (p x) h

-- ---- the place of a choice among the choices out of a list

abbrev pub place_in : List ℕ → List ℕ → ℕ
place_in all choice = position_or_len (λ other. pointwise eqb other choice) (choices (length choice) all)

-- a choice that begins with the first square
pub place-with : (n : ℕ) (all choice : List ℕ) → place_in all choice < length (choices (length choice) all) → place_in (n ∷ all) (n ∷ choice) ≡ place_in all choice
unfolding choices
place-with n all choice l =
    let those = map (λ rest. n ∷ rest) (choices (length choice) all) in
    let test : List ℕ → Bool = λ other. pointwise eqb other (n ∷ choice) in
    let here : position_or_len test those ≡ place_in all choice =
    first-map test (λ rest. n ∷ rest) (choices (length choice) all)
    ∙ first-same (λ rest. test (n ∷ rest)) (λ other. pointwise eqb other choice) (choices (length choice) all)
    (λ rest. ap (λ b. b && pointwise eqb rest choice) (eq-eqb n n refl)) in
    let long : length those ≡ length (choices (length choice) all) = length-map (choices (length choice) all) (λ rest. n ∷ rest) in
    first-left test those (choices (suc (length choice)) all) (omega (arith, here, long, l)) ∙ here

-- a choice without the first square
pub place-without : (n x : ℕ) (all choice : List ℕ) → eqb n x ≡ false → place_in (n ∷ all) (x ∷ choice) ≡ length (choices (length choice) all) + place_in all (x ∷ choice)
unfolding choices
place-without n x all choice e =
    let those = map (λ rest. n ∷ rest) (choices (length choice) all) in
    let test : List ℕ → Bool = λ other. pointwise eqb other (x ∷ choice) in
    let long : length those ≡ length (choices (length choice) all) = length-map (choices (length choice) all) (λ rest. n ∷ rest) in
    let none : position_or_len test those ≡ length those =
    first-map test (λ rest. n ∷ rest) (choices (length choice) all)
    ∙ first-same (λ rest. test (n ∷ rest)) (λ _. false) (choices (length choice) all)
    (λ rest. ap (λ b. b && pointwise eqb rest choice) e)
    ∙ first-never (choices (length choice) all) ∙ sym long in
    first-right test those (choices (suc (length choice)) all) none ∙ ap (λ m. m + place_in all (x ∷ choice)) long

-- ---- what stands at a place

pub get-left : {X Y : Type 0} (f : X → Y) (xs : List X) (ys : List Y) (i : ℕ) (x : X) → slice_get xs i ≡ Some x → slice_get (map f xs ++ ys) i ≡ Some (f x)
get-left f [] ys i x e = absurd (cc)
get-left f (y ∷ xs) ys zero x e = let h : y ≡ x = cc in ap (λ z. Some (f z)) h
get-left f (y ∷ xs) ys (suc i) x e = get-left f xs ys i x e

pub get-right : {X Y : Type 0} (f : X → Y) (xs : List X) (ys : List Y) (i : ℕ) → slice_get (map f xs ++ ys) (length xs + i) ≡ slice_get ys i
get-right f [] ys i = ap (slice_get ys) (omega arith)
get-right f (y ∷ xs) ys i = let e : suc (length xs) + i ≡ suc (length xs + i) = omega arith in ap (slice_get (map f (y ∷ xs) ++ ys)) e ∙ get-right f xs ys i
