-- What threads found of parts of the leases is what was found of all.
use Rattle.std.proofs.Common.{◌≡◌, ◌≤◌, ◌<◌, ◌+◌, ◌*◌, ◌/◌, ◌%◌, min, ℕ, zero, suc, List, [], ◌∷◌, ◌++◌, length, map, get_or, take, drop, refl, ap, sym, ◌∙◌, subst, arith, length-drop, append_assoc, append-nil}
use Rattle.std.specs.Prelude.{All, Result, Ok, Err, IfOk}
use Rattle.std.proofs.Math.Nat.{suc-mul, zero-mul}
use Rattle.std.proofs.lemmas.Nat.{div-add-mod', mod_below}
use Rattle.std.proofs.lemmas.List.{drop-drop, map-append, take-append-drop}
use Rattle.std.proofs.lemmas.List.Elements.{All-append, All-cons, All-nil}
use Rattle.lease_table.specs.declared.leases.Lease.{Lease}
use Rattle.bench_core.specs.Cores.{IsOutcomeOf}
use Rattle.worker_gate.specs.declared.found.LeafFound.{LeafFound}
use Rattle.worker_gate.specs.Found.{AreFoundOf}

abbrev its_lease : LeafFound → Lease
its_lease leaf = leaf.result.lease

abbrev IsOwn : LeafFound → Type 0
IsOwn leaf = IsOutcomeOf leaf.result.lease leaf.result.outcome

pub none_found : (found : List LeafFound) → found ≡ [] → AreFoundOf [] found
none_found found none = subst (AreFoundOf []) (sym none) (record { each = refl; own = All-nil IsOwn })

pub both_found : (mine others : List Lease) (front back : List LeafFound) → AreFoundOf mine front → AreFoundOf others back → AreFoundOf (mine ++ others) (front ++ back)
both_found mine others front back a b = record {
  each = map-append its_lease front back ∙ (λ i. a.each i ++ b.each i);
  own = All-append IsOwn front back a.own b.own;
}

pub one_found : (lease : Lease) (leaf : LeafFound) → leaf.result.lease ≡ lease → IsOutcomeOf lease leaf.result.outcome → AreFoundOf (lease ∷ []) (leaf ∷ [])
one_found lease leaf is own = record {
  each = ap (λ (l : Lease). l ∷ []) is;
  own = All-cons IsOwn leaf [] (subst (λ l. IsOutcomeOf l leaf.result.outcome) (sym is) own) (All-nil IsOwn);
}

none_of : (leases : List Lease) → length leases ≤ 0 → leases ≡ []
none_of [] none = refl
none_of (l ∷ leases) none = absurd (omega (arith, none))

-- this number of parts of this size is all of a list
pub covers : (count len size : ℕ) → 0 < size → count ≡ len / size + min 1 (len % size) → len ≤ count * size
covers count len size some is = by (len % size) refl
  where
    whole : len / size * size + len % size ≡ len
    whole = div-add-mod' len size

    by : (r : ℕ) → len % size ≡ r → len ≤ count * size
    by zero e =
        let even : count ≡ len / size = is ∙ (ap (λ k. len / size + min 1 k) e ∙ omega arith) in
        subst (λ k. len ≤ k * size) (sym even) (omega (arith, whole, e))
    by (suc r) e =
        let odd : count ≡ suc (len / size) = is ∙ (ap (λ k. len / size + min 1 k) e ∙ omega arith) in
        let rest = mod_below len size some in
        let more = suc-mul (len / size) size in
        subst (λ k. len ≤ k * size) (sym odd) (omega (arith, whole, rest, more))

module _ {V E : Type 0} (items : V → List LeafFound) where
  -- the results are of parts of these leases, one behind the other; of one that failed, nothing is known
  abbrev pub AreParts : List Lease → List (Result V E) → Type 0
  AreParts leases [] = leases ≡ []
  AreParts leases (Err e ∷ rs) = Unit {0}
  AreParts leases (Ok v ∷ rs) = (mine : List Lease) × ((others : List Lease) × ((leases ≡ mine ++ others) × (AreFoundOf mine (items v) × AreParts others rs)))

  one_part : (r : Result V E) (rs : List (Result V E)) (size : ℕ) (leases : List Lease) → IfOk r (λ v. AreFoundOf (take size leases) (items v)) → AreParts (drop size leases) rs → AreParts leases (r ∷ rs)
  one_part (Err e) rs size leases h rest = tt
  one_part (Ok v) rs size leases h rest = (take size leases, (drop size leases, (sym (take-append-drop size leases), (h, rest))))

  pub parts_from : (rs : List (Result V E)) (size : ℕ) (leases : List Lease) → length leases ≤ length rs * size
      → ((n : ℕ) (d : Result V E) → n < length rs → IfOk (get_or rs n d) (λ v. AreFoundOf (take size (drop (n * size) leases)) (items v))) → AreParts leases rs
  parts_from [] size leases covers each = none_of leases (subst (λ k. length leases ≤ k) (zero-mul size) covers)
  parts_from (r ∷ rs) size leases covers each =
      let first : IfOk r (λ v. AreFoundOf (take size leases) (items v)) = subst (λ k. IfOk r (λ v. AreFoundOf (take size (drop k leases)) (items v))) (zero-mul size) (each 0 r (omega arith)) in
      let more = suc-mul (length rs) size in
      let fewer = length-drop size leases in
      one_part r rs size leases first (parts_from rs size (drop size leases) (omega (arith, covers, more, fewer))
      (λ n d within.
      let at : suc n * size ≡ size + n * size = suc-mul n size ∙ omega arith in
      subst (λ (ls : List Lease). IfOk (get_or rs n d) (λ v. AreFoundOf (take size ls) (items v))) (ap (λ k. drop k leases) at ∙ sym (drop-drop (n * size) size leases)) (each (suc n) d (omega (arith, within)))))

  -- ---- one part after the other

  -- so much was found of the first of the leases, and these results are left
  pub record IsFoundSoFar (leases : List Lease) (found : List LeafFound) (rest : List (Result V E)) : Type 0 where
    pub mine : List Lease
    pub others : List Lease
    pub both : leases ≡ mine ++ others
    pub here : AreFoundOf mine found
    pub parts : AreParts others rest

  pub found_none : (leases : List Lease) (found : List LeafFound) (rest : List (Result V E)) → found ≡ [] → AreParts leases rest → IsFoundSoFar leases found rest
  found_none leases found rest none parts = record { mine = []; others = leases; both = refl; here = none_found found none; parts = parts }

  pub found_more : (leases : List Lease) (found new : List LeafFound) (rest left : List (Result V E)) (v : V) → IsFoundSoFar leases found rest → rest ≡ Ok v ∷ left → new ≡ found ++ items v → IsFoundSoFar leases new left
  found_more leases found new rest left v h is appended =
      let part : AreParts h.others (Ok v ∷ left) = subst (AreParts h.others) is h.parts in
      record {
        mine = h.mine ++ part.0;
        others = part.1.0;
        both = h.both ∙ (ap (λ (ls : List Lease). h.mine ++ ls) part.1.1.0 ∙ sym (append_assoc h.mine part.0 part.1.0));
        here = subst (AreFoundOf (h.mine ++ part.0)) (sym appended) (both_found h.mine part.0 found (items v) h.here part.1.1.1.0);
        parts = part.1.1.1.1;
      }

  pub found_all : (leases : List Lease) (found : List LeafFound) (rest : List (Result V E)) → IsFoundSoFar leases found rest → rest ≡ [] → AreFoundOf leases found
  found_all leases found rest h none =
      let nothing : h.others ≡ [] = subst (AreParts h.others) none h.parts in
      subst (λ (ls : List Lease). AreFoundOf ls found) (sym (h.both ∙ (ap (λ (ls : List Lease). h.mine ++ ls) nothing ∙ append-nil h.mine))) h.here
