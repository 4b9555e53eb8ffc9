-- The choices are all rising lists of one length, each once, in lexicographic order.
use Rattle.std.proofs.Common.{◌≡◌, ℕ, zero, suc, ◌+◌, ◌<◌, ◌≤◌, List, [], ◌∷◌, ◌++◌, map, length, get_or, Contains, AllPairs, nat_cmp, Less, Equal, is_lt, refl, sym, ap, subst, ◌∙◌, ⊎_elim, arith}
use Rattle.std.specs.Ordering.{ordering_then}
use Rattle.std.specs.Cmp.Lexicographic.{slice_cmp}
use Rattle.std.proofs.lemmas.Bool.{cases_eq}
use Rattle.std.proofs.lemmas.List.{get_or_default}
use Rattle.std.proofs.lemmas.List.Elements.{Contains-append_left, Contains-append_right, Contains-append_cases}
use Rattle.std.specs.Cmp.{nat_cmp_is}
use Rattle.draughts_board.specs.Rules.{IsBefore}
use Rattle.draughts_board.proofs.Members.{Contains-nil, Contains-head, Contains-tail, Contains-map, Contains-from_map, only_one}
use Rattle.table_index.specs.Order.{choices}
use Rattle.table_index.specs.Laws.{IsChoice, ChoicesAreInOrder}
use Rattle.table_index.proofs.CellsFrom.{from}
use Rattle.table_index.proofs.OrderLemmas.{squares-from}

-- rising, from a on and below e
abbrev Rises : ℕ → ℕ → List ℕ → Type 0
Rises a e [] = Unit {0}
Rises a e (x ∷ rest) = (a ≤ x) × (x < e) × Rises (suc x) e rest

rises-sooner : (a b e : ℕ) (c : List ℕ) → b ≤ a → Rises a e c → Rises b e c
rises-sooner a b e [] l h = tt
rises-sooner a b e (x ∷ c) l h = let least = h.0 in (omega arith, h.1, h.2)

-- ---- sound and complete

sound : (m n a e : ℕ) (c : List ℕ) → a + m ≡ e → Contains (choices n (from a m)) c → (length c ≡ n) × Rises a e c
unfolding choices
sound zero zero a e c end h = let f = only_one [] c h in (ap length (sym f), subst (Rises a e) f tt)
sound (suc m) zero a e c end h = let f = only_one [] c h in (ap length (sym f), subst (Rises a e) f tt)
sound zero (suc n) a e c end h = absurd (Contains-nil c h)
sound (suc m) (suc n) a e c end h =
    ⊎_elim
    (λ (k : Contains (map (λ rest. a ∷ rest) (choices n (from (suc a) m))) c).
    let r = Contains-from_map (λ (rest : List ℕ). a ∷ rest) (choices n (from (suc a) m)) c k in
    let s = sound m n (suc a) e r.0 (omega arith) r.1.0 in
    let less : a < e = omega arith in
    let whole : Rises a e (a ∷ r.0) = (omega arith, less, s.1) in
    (ap length (sym r.1.1) ∙ ap suc s.0, subst (Rises a e) r.1.1 whole))
    (λ (k : Contains (choices (suc n) (from (suc a) m)) c).
    let s = sound m (suc n) (suc a) e c (omega arith) k in
    (s.0, rises-sooner (suc a) a e c (omega arith) s.1))
    (Contains-append_cases (map (λ rest. a ∷ rest) (choices n (from (suc a) m))) (choices (suc n) (from (suc a) m)) c h)

complete : (m n a e : ℕ) (c : List ℕ) → a + m ≡ e → length c ≡ n → Rises a e c → Contains (choices n (from a m)) c
unfolding choices
complete zero zero a e [] end l h = Contains-head [] []
complete (suc m) zero a e [] end l h = Contains-head [] []
complete zero zero a e (x ∷ c) end l h = absurd (omega arith)
complete (suc m) zero a e (x ∷ c) end l h = absurd (omega arith)
complete zero (suc n) a e [] end l h = absurd (omega arith)
complete (suc m) (suc n) a e [] end l h = absurd (omega arith)
complete zero (suc n) a e (x ∷ c) end l h = let least = h.0 in let most = h.1 in absurd (omega arith)
complete (suc m) (suc n) a e (x ∷ c) end l h =
    ⊎_elim
    (λ (f : x ≡ a).
    Contains-append_left (map (λ rest. a ∷ rest) (choices n (from (suc a) m))) (choices (suc n) (from (suc a) m)) (x ∷ c)
    (subst (λ y. Contains (map (λ rest. a ∷ rest) (choices n (from (suc a) m))) (y ∷ c)) (sym f)
    (Contains-map (λ (rest : List ℕ). a ∷ rest) (choices n (from (suc a) m)) c
    (complete m n (suc a) e c (omega arith) (omega arith) (subst (λ y. Rises (suc y) e c) f h.2)))))
    (λ (f : x ≡ a → ⊥).
    let least = h.0 in
    Contains-append_right (map (λ rest. a ∷ rest) (choices n (from (suc a) m))) (choices (suc n) (from (suc a) m)) (x ∷ c)
    (complete m (suc n) (suc a) e (x ∷ c) (omega arith) l (omega arith, h.1, h.2)))
    (cases_eq x a)

-- ---- in order

abbrev InOrder : List (List ℕ) → Type 0
InOrder [] = Unit {0}
InOrder (c ∷ rest) = ((d : List ℕ) → Contains rest d → IsBefore c d) × InOrder rest

order-append : (xs ys : List (List ℕ)) → InOrder xs → InOrder ys → ((c d : List ℕ) → Contains xs c → Contains ys d → IsBefore c d) → InOrder (xs ++ ys)
order-append [] ys h k across = k
order-append (x ∷ xs) ys h k across = (
  λ d there. ⊎_elim (λ (l : Contains xs d). h.0 d l) (λ (l : Contains ys d). across x d (Contains-head x xs) l) (Contains-append_cases xs ys d there),
  order-append xs ys h.1 k (λ c d l. across c d (Contains-tail x c xs l)),
)

before-same : (a : ℕ) (c d : List ℕ) → IsBefore c d → IsBefore (a ∷ c) (a ∷ d)
before-same a c d h = ap (λ o. is_lt (ordering_then o (slice_cmp nat_cmp c d))) (sym (nat_cmp_is a a Equal refl)) ∙ h

before-first : (a x : ℕ) (c d : List ℕ) → a < x → IsBefore (a ∷ c) (x ∷ d)
before-first a x c d h = ap (λ o. is_lt (ordering_then o (slice_cmp nat_cmp c d))) (sym (nat_cmp_is a x Less h))

order-with : (a : ℕ) (xs : List (List ℕ)) → InOrder xs → InOrder (map (λ rest. a ∷ rest) xs)
order-with a [] h = tt
order-with a (c ∷ xs) h = (
  λ d there. let r = Contains-from_map (λ (rest : List ℕ). a ∷ rest) xs d there in subst (IsBefore (a ∷ c)) r.1.1 (before-same a c r.0 (h.0 r.0 r.1.0)),
  order-with a xs h.1,
)

-- a longer choice that rises from beyond a comes behind each that begins with a
behind : (a n e : ℕ) (c d : List ℕ) → length d ≡ suc n → Rises (suc a) e d → IsBefore (a ∷ c) d
behind a n e c [] l h = absurd (omega arith)
behind a n e c (x ∷ d) l h = let least = h.0 in before-first a x c d (omega arith)

in-order : (m n a : ℕ) → InOrder (choices n (from a m))
unfolding choices
in-order zero zero a = (λ d h. absurd (Contains-nil d h), tt)
in-order (suc m) zero a = (λ d h. absurd (Contains-nil d h), tt)
in-order zero (suc n) a = tt
in-order (suc m) (suc n) a =
    order-append (map (λ rest. a ∷ rest) (choices n (from (suc a) m))) (choices (suc n) (from (suc a) m))
    (order-with a (choices n (from (suc a) m)) (in-order m n (suc a))) (in-order m (suc n) (suc a))
    (λ c d first rest.
    let r = Contains-from_map (λ (others : List ℕ). a ∷ others) (choices n (from (suc a) m)) c first in
    let s = sound m (suc n) (suc a) (suc a + m) d refl rest in
    subst (λ x. IsBefore x d) r.1.1 (behind a n (suc a + m) r.0 d s.0 s.1))

order-pairs : (cs : List (List ℕ)) → InOrder cs → AllPairs IsBefore cs
order-pairs [] h i j d l k = absurd (omega arith)
order-pairs (c ∷ cs) h i zero d l k = absurd (omega arith)
order-pairs (c ∷ cs) h zero (suc j) d l k = h.0 (get_or cs j d) (j, omega arith, get_or_default cs j (get_or cs j d) d (omega arith))
order-pairs (c ∷ cs) h (suc i) (suc j) d l k = order-pairs cs h.1 i j d (omega arith) (omega arith)

-- ---- in std's words

rises-each : (a e : ℕ) (c : List ℕ) → Rises a e c → (k d : ℕ) → k < length c → (a ≤ get_or c k d) × (get_or c k d < e)
rises-each a e [] h k d l = absurd (omega arith)
rises-each a e (x ∷ c) h zero d l = (h.0, h.1)
rises-each a e (x ∷ c) h (suc k) d l = let r = rises-each (suc x) e c h.2 k d (omega arith) in let low = r.0 in let least = h.0 in (omega arith, r.1)

rises-next : (a e : ℕ) (c : List ℕ) → Rises a e c → (k : ℕ) → suc k < length c → get_or c k 0 < get_or c (suc k) 0
rises-next a e [] h k l = absurd (omega arith)
rises-next a e (x ∷ c) h zero l = let r = rises-each (suc x) e c h.2 0 0 (omega arith) in let low = r.0 in omega arith
rises-next a e (x ∷ c) h (suc k) l = rises-next (suc x) e c h.2 k (omega arith)

rises-from : (a e : ℕ) (c : List ℕ) → ((k : ℕ) → k < length c → get_or c k 0 < e) → ((k : ℕ) → suc k < length c → get_or c k 0 < get_or c (suc k) 0) → (0 < length c → a ≤ get_or c 0 0) → Rises a e c
rises-from a e [] most next least = tt
rises-from a e (x ∷ c) most next least = (
  least (omega arith),
  most 0 (omega arith),
  rises-from (suc x) e c (λ k l. most (suc k) (omega arith)) (λ k l. next (suc k) (omega arith))
      (λ l. let n = next 0 (omega arith) in omega arith),
)

choice-rises : (n : ℕ) (c : List ℕ) → IsChoice n c → Rises 1 33 c
choice-rises n c h =
    rises-from 1 33 c (λ k l. let s = h.each k 0 l in let most = s.1 in omega arith)
    (λ k l. let e : k + 1 ≡ suc k = omega arith in subst (λ m. get_or c k 0 < get_or c m 0) e (h.rising k (omega arith)))
    (λ l. (h.each 0 0 l).0)

rises-choice : (n : ℕ) (c : List ℕ) → length c ≡ n → Rises 1 33 c → IsChoice n c
rises-choice n c long h = record {
  many = long;
  each = λ k d l. let r = rises-each 1 33 c h k d l in let most = r.1 in (r.0, omega arith);
  rising = λ k l. let e : suc k ≡ k + 1 = omega arith in subst (λ m. get_or c k 0 < get_or c m 0) e (rises-next 1 33 c h k (omega arith));
}

pub choices_are_in_order : ChoicesAreInOrder
choices_are_in_order n = record {
  sound = λ c h. let s = sound 32 n 1 33 c refl (subst (λ all. Contains (choices n all) c) squares-from h) in rises-choice n c s.0 s.1;
  complete = λ c h. subst (λ all. Contains (choices n all) c) (sym squares-from) (complete 32 n 1 33 c refl h.many (choice-rises n c h));
  in_order = subst (λ all. AllPairs IsBefore (choices n all)) (sym squares-from) (order-pairs (choices n (from 1 32)) (in-order 32 n 1));
}
