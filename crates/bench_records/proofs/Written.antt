-- How a text grows, row by row.
use Rattle.std.proofs.Common.{◌≡◌, ℕ, suc, ◌+◌, ◌<◌, List, [], ◌∷◌, ◌++◌, length, get_or, take, drop, sym, ◌∙◌, ap, subst, arith, append_assoc, drop-cons, Some}
use Rattle.std.specs.Prelude.{All, slice_get, unwrap_or}
use Rattle.std.specs.List.{flat_map}
use Rattle.std.proofs.Math.Seq.{take-suc}
use Rattle.std.proofs.lemmas.List.Elements.{All-push}
use Rattle.std.proofs.lemmas.Option.{unwrap_or-slice_get, slice_get_within}

module _ {X I : Type 0} (text : X → List I) (xs : List X) (i : ℕ) (x : X) where
  -- behind the row at i stand those behind it
  pub at_next : (before done : List I) → i < length xs → x ≡ get_or xs i x → before ++ flat_map text (drop i xs) ≡ done → (before ++ text x) ++ flat_map text (drop (i + 1) xs) ≡ done
  at_next before done lt h e =
      let next : suc i ≡ i + 1 = omega arith in
      let cut : drop i xs ≡ x ∷ drop (i + 1) xs = drop-cons xs i x lt ∙ (λ j. sym h j ∷ drop (next j) xs) in
      append_assoc before (text x) (flat_map text (drop (i + 1) xs)) ∙ ap (λ rows. before ++ flat_map text rows) (sym cut) ∙ e

  pub row_next : (before done : List I) → slice_get xs i ≡ Some x → before ++ flat_map text (drop i xs) ≡ done → (before ++ text x) ++ flat_map text (drop (i + 1) xs) ≡ done
  row_next before done h e =
      let here : get_or xs i x ≡ x = sym (unwrap_or-slice_get xs i x) ∙ ap (λ o. unwrap_or o x) h in
      at_next before done (slice_get_within xs i x h) (sym here) e

pub All_next : {X : Type 0} (P : X → Type 0) (xs : List X) (i : ℕ) (x : X) → i < length xs → x ≡ get_or xs i x → All P (take i xs) → P x → All P (take (i + 1) xs)
All_next P xs i x lt h all one =
    let next : suc i ≡ i + 1 = omega arith in
    let cut : take (i + 1) xs ≡ take i xs ++ x ∷ [] = ap (λ j. take j xs) (sym next) ∙ take-suc xs i x lt ∙ ap (λ y. take i xs ++ y ∷ []) (sym h) in
    subst (All P) (sym cut) (All-push P (take i xs) x all one)
