-- Lists of entries that grow. Crates above the lock cite these too.
use Rattle.std.proofs.Common.{◌≡◌, ◌≤◌, List, [], ◌∷◌, ◌++◌, length, refl, ap, sym, ◌∙◌, arith, append_assoc, length-append, append-nil}
use Rattle.std.specs.Prelude.{All}
use Rattle.std.proofs.lemmas.List.Elements.{All-nil, All-cons, All-head, All-tail, All-append, All-same}
use Rattle.turn_lock.specs.Growth.{GrowsTo}

module _ {E : Type 0} (may_add : E → Type 0) where
  pub GrowsTo-same : (xs : List E) → GrowsTo may_add xs xs
  GrowsTo-same xs = record { added = []; whole = append-nil xs; allowed = All-nil may_add }

  pub GrowsTo-trans : (xs ys zs : List E) → GrowsTo may_add xs ys → GrowsTo may_add ys zs → GrowsTo may_add xs zs
  GrowsTo-trans xs ys zs first then = record {
    added = first.added ++ then.added;
    whole = sym (append_assoc xs first.added then.added) ∙ (ap (λ front. front ++ then.added) first.whole ∙ then.whole);
    allowed = All-append may_add first.added then.added first.allowed then.allowed;
  }

  -- one entry more
  pub GrowsTo-push : (xs : List E) (x : E) → may_add x → GrowsTo may_add xs (xs ++ x ∷ [])
  GrowsTo-push xs x allowed = record { added = x ∷ []; whole = refl; allowed = All-cons may_add x [] allowed (All-nil may_add) }

  pub GrowsTo-length : (xs ys : List E) → GrowsTo may_add xs ys → length xs ≤ length ys
  GrowsTo-length xs ys grows = omega (arith, sym (ap length grows.whole) ∙ length-append xs grows.added)

  All-front : (xs ys : List E) → All may_add (xs ++ ys) → All may_add xs
  All-front [] ys all = All-nil may_add
  All-front (x ∷ xs) ys all = All-cons may_add x xs (All-head may_add x (xs ++ ys) all) (All-front xs ys (All-tail may_add x (xs ++ ys) all))

  -- of two beginnings of one list the shorter is a beginning of the longer
  pub GrowsTo-longer : (xs ys zs : List E) → GrowsTo may_add xs zs → GrowsTo may_add ys zs → length xs ≤ length ys → GrowsTo may_add xs ys
  GrowsTo-longer [] ys zs p q shorter = record {
    added = ys;
    whole = refl;
    allowed = All-front ys q.added (All-same may_add (ys ++ q.added) p.added (q.whole ∙ sym p.whole) p.allowed);
  }
  GrowsTo-longer (x ∷ xs) [] zs p q shorter = absurd (omega arith)
  GrowsTo-longer (x ∷ xs) (y ∷ ys) [] p q shorter = absurd (cc (p.whole))
  GrowsTo-longer (x ∷ xs) (y ∷ ys) (z ∷ zs) p q shorter =
      let heads : x ≡ y = cc (p.whole, q.whole) in
      let tails : GrowsTo may_add xs ys =
      GrowsTo-longer xs ys zs record { added = p.added; whole = cc (p.whole); allowed = p.allowed } record { added = q.added; whole = cc (q.whole); allowed = q.allowed } (omega arith) in
      record { added = tails.added; whole = cc (heads, tails.whole); allowed = tails.allowed }
