-- Loops over a list that is read by places.
use Rattle.std.proofs.Common.{◌≡◌, ℕ, suc, ◌+◌, ◌≤◌, List, [], ◌∷◌, ◌++◌, sym, ◌∙◌, ap, subst, Some, take, drop, length, inl, inr, arith}
use Rattle.std.specs.Prelude.{Contains, All, slice_get}
use Rattle.std.proofs.lemmas.List.{append_assoc, map-append, take_more, take_all, take-append-drop}
use Rattle.std.proofs.Math.Seq.{drop-cons}
use Rattle.std.specs.List.{flat_map}
use Rattle.std.proofs.lemmas.List.Concat.{flat_map-cons}
use Rattle.std.proofs.lemmas.List.Elements.{All-more, All-push, All-same, All-nil, All-append, All-head, All-tail, Contains-append_left, Contains-append_right}
use Rattle.draughts_board.proofs.Members.{Contains-nil, Contains-cons_cases}
use Rattle.proof_tree.specs.Forest.{Node}
use Rattle.certificate_joiner.specs.Strategy.{Added}
use Rattle.std.proofs.lemmas.Option.{get_or_from_slice_get, slice_get_within}

module _ {A : Type 0} (xs : List A) (i : ℕ) (x : A) (at : slice_get xs i ≡ Some x) where
  pub read_there : Contains xs x
  read_there = (i, slice_get_within xs i x at, get_or_from_slice_get xs i x x at)

  pub read_more : (P : A → Type 0) → All P (take i xs) → P x → All P (take (i + 1) xs)
  read_more P before here = All-more P xs i x (slice_get_within xs i x at) before (subst P (sym (get_or_from_slice_get xs i x x at)) here)

  pub read_take : take (i + 1) xs ≡ take i xs ++ x ∷ []
  read_take = take_more xs i x (slice_get_within xs i x at) ∙ ap (λ (y : A). take i xs ++ y ∷ []) (get_or_from_slice_get xs i x x at)

  pub read_split : xs ≡ take i xs ++ x ∷ drop (i + 1) xs
  read_split =
      let next : suc i ≡ i + 1 = omega arith in
      sym (take-append-drop i xs) ∙ ap (λ l. take i xs ++ l)
      (drop-cons xs i x (slice_get_within xs i x at) ∙ (ap (λ (y : A). y ∷ drop (suc i) xs) (get_or_from_slice_get xs i x x at) ∙ ap (λ (m : ℕ). x ∷ drop m xs) next))

pub read_all : {A : Type 0} (P : A → Type 0) (xs : List A) (i : ℕ) → length xs ≤ i → All P (take i xs) → All P xs
read_all P xs i past all = All-same P xs (take i xs) (sym (take_all i xs past)) all

-- ---- numbers that were added, and what they name

pub added_more : (f : ℕ → Node) (P : ℕ → Type 0) (old now new : List ℕ) (n i : ℕ) (xs : List Node)
    → Added f P old now (take i xs) → new ≡ now ++ n ∷ [] → P n → slice_get xs i ≡ Some (f n) → Added f P old new (take (i + 1) xs)
added_more f P old now new n i xs (ids, (is, (all, names))) more here at = (
  ids ++ n ∷ [],
  (
    more ∙ (ap (λ l. l ++ n ∷ []) is ∙ append_assoc old ids (n ∷ [])),
    (All-push P ids n all here, map-append f ids (n ∷ []) ∙ (ap (λ l. l ++ f n ∷ []) names ∙ sym (read_take xs i (f n) at))),
  ),
)

-- ---- lists of lists

pub All-flat : {A : Type 0} (P : A → Type 0) (xss : List (List A)) → All (All P) xss → All P (flat_map (λ xs. xs) xss)
All-flat P [] all = All-nil P
All-flat P (xs ∷ xss) all =
    subst (All P) (sym (flat_map-cons (λ l. l) xs xss))
    (All-append P xs (flat_map (λ l. l) xss) (All-head (All P) xs xss all) (All-flat P xss (All-tail (All P) xs xss all)))

pub Contains-flat : {A : Type 0} (xss : List (List A)) (xs : List A) (x : A) → Contains xss xs → Contains xs x → Contains (flat_map (λ l. l) xss) x
Contains-flat [] xs x among there = absurd (Contains-nil xs among)
Contains-flat (ys ∷ xss) xs x among there =
    subst (λ l. Contains l x) (sym (flat_map-cons (λ l. l) ys xss))
    (elim (Contains-cons_cases ys xss xs among) [
      | inl is ↦ Contains-append_left ys (flat_map (λ l. l) xss) x (subst (λ l. Contains l x) (sym is) there)
      | inr rest ↦ Contains-append_right ys (flat_map (λ l. l) xss) x (Contains-flat xss xs x rest there)
    ])
