-- Known bytes that grow or are consumed in two steps.
use Rattle.std.proofs.Common.{◌≡◌, ℕ, ◌+◌, ◌-◌, ◌≤◌, zero, suc, List, [], ◌∷◌, Option, None, Some, ◌++◌, length, take, drop, ap, sym, arith, rules, suc-add, drop-drop, OnErr, Result, Ok, Err}
use Rattle.std.proofs.lemmas.Grind.{common_steps}
use Rattle.std.proofs.lemmas.List.{take-append-drop}
use Rattle.std.specs.Io.KnownBytes.{Appends, Consumes}

-- what grows by xs and then by ys has grown by both
pub Appends-append : (old mid new : Option (List ℕ)) (xs ys : List ℕ) → Appends old mid xs → Appends mid new ys → Appends old new (xs ++ ys)
Appends-append None mid new xs ys first second = search rules
Appends-append (Some a) None new xs ys first second = absurd first
Appends-append (Some a) (Some b) None xs ys first second = absurd second
Appends-append (Some a) (Some b) (Some c) xs ys first second = grind (arith, common_steps)

-- what loses xs and then ys has lost both
pub Consumes-append : (old mid new : Option (List ℕ)) (xs ys : List ℕ) → Consumes old mid xs → Consumes mid new ys → Consumes old new (xs ++ ys)
Consumes-append None mid new xs ys first second = search rules
Consumes-append (Some a) None new xs ys first second = absurd first
Consumes-append (Some a) (Some b) None xs ys first second = absurd second
Consumes-append (Some a) (Some b) (Some c) xs ys first second = grind (arith, common_steps)

-- the first i bytes, and then n bytes of what stands from there on
pub take-add : (xs : List ℕ) (i n : ℕ) → take i xs ++ take n (drop i xs) ≡ take (i + n) xs
take-add [] i n = grind (arith, common_steps)
take-add (x ∷ xs) zero n = grind (arith, common_steps)
take-add (x ∷ xs) (suc i) n = rw suc-add (ap (λ ys. x ∷ ys) (take-add xs i n))

-- the same where what stands there was cut at the end, as a slice is
pub take-add_slice : (xs : List ℕ) (i n : ℕ) → i ≤ length xs → take i xs ++ take n (take (length xs - i) (drop i xs)) ≡ take (i + n) xs
take-add_slice xs i n within =
    let whole : take (length xs - i) (drop i xs) ≡ drop i xs = grind (arith, common_steps) in
    rw whole (take-add xs i n)

-- What is left from a place on is what was copied from there over the front of a buffer, and what stands behind.
pub front-and-rest : (xs left copied into : List ℕ) (i n : ℕ) → drop i xs ≡ left → copied ≡ take n (take (length xs - i) (drop i xs)) → i ≤ length xs → n ≤ length xs - i → left ≡ take n (copied ++ into) ++ drop (i + n) xs
front-and-rest xs left copied into i n from same within fits =
    let whole : take (length xs - i) (drop i xs) ≡ drop i xs = grind (arith, common_steps) in
    let long : n ≤ length (drop i xs) = grind (arith, common_steps) in
    let front : take n (take n (drop i xs) ++ into) ≡ take n (drop i xs) = grind (arith, common_steps) in
    rw (← from, same, whole, front, ← drop-drop n i xs) (sym (take-append-drop n (drop i xs)))

-- a fact that holds in any case holds on an error
pub OnErr-always : {T E : Type 0} (r : Result T E) (P : Type 0) → P → OnErr r P
OnErr-always (Ok _) P p = tt
OnErr-always (Err _) P p = p
