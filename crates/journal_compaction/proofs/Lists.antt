-- Names, and some more behind them.
use Rattle.std.proofs.Common.{◌≡◌, ℕ, zero, suc, ◌+◌, ◌<◌, ◌⊎◌, inl, inr, ⊎_elim, List, [], ◌∷◌, ◌++◌, length, Option, Some, None, refl, ap, ◌∙◌, subst, arith}
use Rattle.std.specs.Prelude.{slice_get}
use Rattle.std.proofs.lemmas.Option.{slice_get_within}
use Rattle.journal_compaction.specs.Names.{Names, IsNamed, IsUnnamed, AreExtended, named_from, unnamed_for}

pub got_left : {X : Type 0} (xs ys : List X) (i : ℕ) (x : X) → slice_get xs i ≡ Some x → slice_get (xs ++ ys) i ≡ Some x
got_left [] ys i x e = absurd cc
got_left (y ∷ xs) ys zero x e = e
got_left (y ∷ xs) ys (suc i) x e = got_left xs ys i x e

pub got_right : {X : Type 0} (xs ys : List X) (j : ℕ) (x : X) → slice_get ys j ≡ Some x → slice_get (xs ++ ys) (length xs + j) ≡ Some x
got_right [] ys j x e = subst (λ i. slice_get ys i ≡ Some x) (let z : j ≡ 0 + j = omega arith in z) e
got_right (y ∷ xs) ys j x e =
    subst (λ i. slice_get (y ∷ (xs ++ ys)) i ≡ Some x) (let z : suc (length xs + j) ≡ suc (length xs) + j = omega arith in z) (got_right xs ys j x e)

pub got_cases : {X : Type 0} (xs ys : List X) (i : ℕ) (x : X) → slice_get (xs ++ ys) i ≡ Some x
    → (slice_get xs i ≡ Some x) ⊎ ((j : ℕ) × ((i ≡ length xs + j) × (slice_get ys j ≡ Some x)))
got_cases [] ys i x e = inr (i, (omega arith, e))
got_cases (y ∷ xs) ys zero x e = inl e
got_cases (y ∷ xs) ys (suc i) x e =
    ⊎_elim (λ a. inl a) (λ b. inr (b.0, ((let z = b.1.0 in omega (arith, z)), b.1.1))) (got_cases xs ys i x e)

-- ---- the two kinds of more names

pub named_at : (c m j : ℕ) → j < c → slice_get (named_from m c) j ≡ Some (Some (m + j))
named_at zero m j l = absurd (omega arith)
named_at (suc c) m zero l = ap (λ (i : ℕ). Some (Some i)) (let z : m ≡ m + 0 = omega arith in z)
named_at (suc c) m (suc j) l = named_at c (suc m) j (omega arith) ∙ ap (λ (i : ℕ). Some (Some i)) (let z : suc m + j ≡ m + suc j = omega arith in z)

named_is : (c m j x : ℕ) → slice_get (named_from m c) j ≡ Some (Some x) → x ≡ m + j
named_is zero m j x e = absurd cc
named_is (suc c) m zero x e = (let z : m ≡ x = cc in omega (arith, z))
named_is (suc c) m (suc j) x e = (let z = named_is c (suc m) j x e in omega (arith, z))

pub unnamed_at : (c j : ℕ) → j < c → slice_get (unnamed_for c) j ≡ Some None
unnamed_at zero j l = absurd (omega arith)
unnamed_at (suc c) zero l = refl
unnamed_at (suc c) (suc j) l = unnamed_at c j (omega arith)

unnamed_is : (c j x : ℕ) → slice_get (unnamed_for c) j ≡ Some (Some x) → ⊥
unnamed_is zero j x e = cc
unnamed_is (suc c) zero x e = cc
unnamed_is (suc c) (suc j) x e = unnamed_is c j x e

pub length_named : (c m : ℕ) → length (named_from m c) ≡ c
length_named zero m = refl
length_named (suc c) m = ap suc (length_named c (suc m))

pub length_unnamed : (c : ℕ) → length (unnamed_for c) ≡ c
length_unnamed zero = refl
length_unnamed (suc c) = ap suc (length_unnamed c)

-- ---- as names

pub extended_named : (names : Names) (top count c : ℕ) → length names ≡ top → AreExtended names (names ++ named_from count c) top count
extended_named names top count c long = record {
  keeps = λ n x e. got_left names (named_from count c) n x e;
  fresh = λ n m e. ⊎_elim (λ a. inl a)
      (λ b. let place = b.1.0 in let is = named_is c count b.0 m b.1.1 in inr (b.0, (omega (arith, place, long), is)))
      (got_cases names (named_from count c) n (Some m) e);
}

pub extended_unnamed : (names : Names) (top count c : ℕ) → AreExtended names (names ++ unnamed_for c) top count
extended_unnamed names top count c = record {
  keeps = λ n x e. got_left names (unnamed_for c) n x e;
  fresh = λ n m e. ⊎_elim (λ a. inl a) (λ b. absurd (unnamed_is c b.0 m b.1.1)) (got_cases names (unnamed_for c) n (Some m) e);
}

pub new_named : (names : Names) (top count c j : ℕ) → length names ≡ top → j < c → IsNamed (names ++ named_from count c) (top + j) (count + j)
new_named names top count c j long l =
    subst (λ n. slice_get (names ++ named_from count c) n ≡ Some (Some (count + j))) (let z : length names + j ≡ top + j = omega (arith, long) in z)
    (got_right names (named_from count c) j (Some (count + j)) (named_at c count j l))

pub new_unnamed : (names : Names) (top c j : ℕ) → length names ≡ top → j < c → IsUnnamed (names ++ unnamed_for c) (top + j)
new_unnamed names top c j long l =
    subst (λ n. slice_get (names ++ unnamed_for c) n ≡ Some None) (let z : length names + j ≡ top + j = omega (arith, long) in z)
    (got_right names (unnamed_for c) j None (unnamed_at c j l))

pub below_length : (names : Names) (n : ℕ) (x : Option ℕ) → slice_get names n ≡ Some x → n < length names
below_length names n x e = slice_get_within names n x e

-- names stay apart, where those from `count` on were free
pub apart_extended : (names more : Names) (top count : ℕ) → AreExtended names more top count → ((n m : ℕ) → IsNamed names n m → m < count)
    → ((n o m : ℕ) → IsNamed names n m → IsNamed names o m → n ≡ o) → (n o m : ℕ) → IsNamed more n m → IsNamed more o m → n ≡ o
apart_extended names more top count ext low apart n o m p q =
    ⊎_elim
    (λ a. ⊎_elim (λ b. apart n o m a b) (λ b. let l = low n m a in let is = b.1.1 in absurd (omega (arith, l, is))) (ext.fresh o m q))
    (λ a. ⊎_elim (λ b. let l = low o m b in let is = a.1.1 in absurd (omega (arith, l, is)))
    (λ b. let x = a.1.0 in let y = a.1.1 in let z = b.1.0 in let w = b.1.1 in omega (arith, x, y, z, w)) (ext.fresh o m q))
    (ext.fresh n m p)

-- names for none name nothing
pub named_old : (names : Names) (c n m : ℕ) → IsNamed (names ++ unnamed_for c) n m → IsNamed names n m
named_old names c n m e = ⊎_elim (λ a. a) (λ b. absurd (unnamed_is c b.0 m b.1.1)) (got_cases names (unnamed_for c) n (Some m) e)
