-- The least of two ranks.
use Rattle.std.proofs.Common.{◌≡◌, ◌⊎◌, ◌↔◌, inl, inr, ℕ, min, Option, None, Some, refl, ap, ◌∙◌, subst, arith}
use Rattle.std.specs.Prelude.{IsTrue, is_some}
use Rattle.std.proofs.lemmas.Bool.{cases_lt}
use Rattle.certificate_checker.specs.Ranks.{IsLeast, lesser_of}

-- what is known exactly where an option has a value
abbrev pub Knows : {A : Type 0} → Option A → (A → Type 0) → Type 0
Knows {A} o P = (x : A) → (o ≡ Some x) ↔ P x

pub Knows-map : {A B : Type 0} (f : A → B) (P : A → Type 0) (x : A) → Knows (Some x) P → Knows (Some (f x)) (λ b. (a : A) × (P a × (f a ≡ b)))
Knows-map f P x iff b = (
  λ is. let e : f x ≡ b = cc in (x, ((iff x).0 refl, e)),
  λ h. let e : x ≡ h.0 = (let some = (iff h.0).1 h.1.0 in cc) in ap Some (ap f e) ∙ ap Some h.1.1,
)

module _ (A B : ℕ → Type 0) where
  pub IsLeast-either : (a b : Option ℕ) → Knows a A → Knows b B → IsLeast (λ r. A r ⊎ B r) (lesser_of a b)
  IsLeast-either None None f g = λ r h. elim h [ inl h ↦ (let e = (f r).1 h in cc) | inr h ↦ (let e = (g r).1 h in cc) ]
  IsLeast-either None (Some y) f g = (inr ((g y).0 refl), λ m h. elim h [ inl h ↦ (let e = (f m).1 h in cc) | inr h ↦ (let e = (g m).1 h in let e' : y ≡ m = cc in omega arith) ])
  IsLeast-either (Some x) None f g = (inl ((f x).0 refl), λ m h. elim h [ inl h ↦ (let e = (f m).1 h in let e' : x ≡ m = cc in omega arith) | inr h ↦ (let e = (g m).1 h in cc) ])
  IsLeast-either (Some x) (Some y) f g = (
    elim (cases_lt x y) [
      | inl lt ↦ (let e : x ≡ min x y = omega arith in inl (subst A e ((f x).0 refl)))
      | inr ge ↦ (let e : y ≡ min x y = omega arith in inr (subst B e ((g y).0 refl)))
    ],
    λ m h. elim h [
      | inl h ↦ (let e = (f m).1 h in let e' : x ≡ m = cc in omega arith)
      | inr h ↦ (let e = (g m).1 h in let e' : y ≡ m = cc in omega arith)
    ],
  )

-- a least number is found exactly where some number meets R
pub found_iff_some : (R : ℕ → Type 0) (least : Option ℕ) → IsLeast R least → IsTrue (is_some least) ↔ ((r : ℕ) × R r)
found_iff_some R None none = (λ never. cc, λ some. absurd (none some.0 some.1))
found_iff_some R (Some r) found = (λ _. (r, found.0), λ _. refl)
