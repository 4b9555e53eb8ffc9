-- Where a byte stands in a text, and where it does not.
use Rattle.std.proofs.Common.{◌≡◌, ◌≢◌, ℕ, zero, suc, ◌+◌, ◌-◌, ◌<◌, ◌≤◌, Bool, true, false, ◌||◌, List, [], ◌∷◌, ◌++◌, length, get_or, take, drop, refl, sym, ◌∙◌, ap, arith, drop-cons, length-drop, ◌==◌}
use Rattle.std.specs.List.{list_any, AllByRecursion}
use Rattle.std.proofs.lemmas.Bool.{true≢false}
use Rattle.std.proofs.lemmas.List.{take-append-drop, take_all}
use Rattle.shared_words.specs.Bytes.{Lacks}

or_first : (a b : Bool) → (a || b) ≡ false → a ≡ false
or_first true b h = h
or_first false b h = refl

or_second : (a b : Bool) → (a || b) ≡ false → b ≡ false
or_second true b h = absurd (true≢false h)
or_second false b h = h

same_is : (n : ℕ) → (n == n) ≡ true
same_is n = grind arith

differs : (a b : ℕ) → a ≢ b → (a == b) ≡ false
differs a b h = grind arith

-- ---- a byte in front of a text

pub Lacks-cons : (byte x : ℕ) (text : List ℕ) → x ≢ byte → Lacks byte text → Lacks byte (x ∷ text)
Lacks-cons byte x text h g = ap (λ t. t || list_any (λ b. b == byte) text) (differs x byte h) ∙ g

pub Lacks-first : (byte x : ℕ) (text : List ℕ) → Lacks byte (x ∷ text) → x ≢ byte
Lacks-first byte x text h e = true≢false (sym (same_is byte) ∙ ap (λ n. n == byte) (sym e) ∙ or_first (x == byte) _ h)

pub Lacks-rest : (byte x : ℕ) (text : List ℕ) → Lacks byte (x ∷ text) → Lacks byte text
Lacks-rest byte x text h = or_second (x == byte) _ h

-- ---- texts one behind the other

pub Lacks-append : (byte : ℕ) (x y : List ℕ) → Lacks byte x → Lacks byte y → Lacks byte (x ++ y)
Lacks-append byte [] y h g = g
Lacks-append byte (c ∷ x) y h g =
    Lacks-cons byte c (x ++ y) (Lacks-first byte c x h) (Lacks-append byte x y (Lacks-rest byte c x h) g)

-- a text without the byte is none with it
pub Lacks-split : (byte : ℕ) (x r : List ℕ) → Lacks byte (x ++ byte ∷ r) → ⊥
Lacks-split byte [] r h = Lacks-first byte byte r h refl
Lacks-split byte (c ∷ x) r h = Lacks-split byte x r (Lacks-rest byte c (x ++ byte ∷ r) h)

-- before the first such byte two texts agree, and behind it too
pub halves_agree : (byte : ℕ) (x y r s : List ℕ) → Lacks byte x → Lacks byte y → x ++ byte ∷ r ≡ y ++ byte ∷ s → (x ≡ y) × (r ≡ s)
halves_agree byte [] [] r s h g e = (refl, tail e)
  where
    tail : {x y : ℕ} {xs ys : List ℕ} → x ∷ xs ≡ y ∷ ys → xs ≡ ys
    tail e = cc
halves_agree byte [] (c ∷ y) r s h g e = absurd (Lacks-first byte c y g (let f : c ≡ byte = cc in f))
halves_agree byte (c ∷ x) [] r s h g e = absurd (Lacks-first byte c x h (let f : c ≡ byte = cc in f))
halves_agree byte (c ∷ x) (d ∷ y) r s h g e =
    let heads : c ≡ d = cc in
    let tails : x ++ byte ∷ r ≡ y ++ byte ∷ s = cc in
    let rest = halves_agree byte x y r s (Lacks-rest byte c x h) (Lacks-rest byte d y g) tails in
    (λ i. heads i ∷ rest.0 i, rest.1)

-- ---- a text of bytes of a class, of which the byte is none

pub Lacks-class : (p : ℕ → Bool) (byte : ℕ) (text : List ℕ) → p byte ≡ false → AllByRecursion (λ b. p b ≡ true) text → Lacks byte text
Lacks-class p byte [] other each = refl
Lacks-class p byte (x ∷ text) other each =
    Lacks-cons byte x text (λ same. true≢false (sym each.0 ∙ ap p same ∙ other)) (Lacks-class p byte text other each.1)

-- ---- places in a text

pub Lacks-take : (byte : ℕ) (text : List ℕ) (n : ℕ) → n ≤ length text → ((k : ℕ) → k < n → get_or text k 0 ≢ byte) → Lacks byte (take n text)
Lacks-take byte text zero h each = refl
Lacks-take byte [] (suc n) h each = refl
Lacks-take byte (x ∷ text) (suc n) h each =
    Lacks-cons byte x (take n text) (each 0 (omega arith)) (Lacks-take byte text n (omega arith) (λ k lt. each (suc k) (omega arith)))

pub Lacks-each : (byte : ℕ) (text : List ℕ) → ((k : ℕ) → k < length text → get_or text k 0 ≢ byte) → Lacks byte text
Lacks-each byte [] each = refl
Lacks-each byte (x ∷ text) each = Lacks-cons byte x text (each 0 (omega arith)) (Lacks-each byte text (λ k lt. each (suc k) (omega arith)))

-- what stands before a place, the byte there, and what stands behind it
pub split_at_place : (text : List ℕ) (place byte : ℕ) → place < length text → get_or text place 0 ≡ byte
    → text ≡ take place text ++ byte ∷ take (length text - (place + 1)) (drop (place + 1) text)
split_at_place text place byte lt e =
    let next : suc place ≡ place + 1 = omega arith in
    sym (take-append-drop place text)
    ∙ ap (λ t. take place text ++ t) (drop-cons text place 0 lt ∙ (λ i. e i ∷ drop (next i) text))
    ∙ ap (λ t. take place text ++ byte ∷ t) (sym (take_all (length text - (place + 1)) (drop (place + 1) text) (omega (arith, length-drop (place + 1) text))))
