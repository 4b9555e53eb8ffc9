-- A number is put in among those of a map.
use Rattle.std.proofs.Common.{◌≡◌, ◌∙◌, ◌∷◌, [], List, ℕ, Option, None, Some, ap, cond, map, refl, sym}
use Rattle.std.specs.BTreeMap.{insert_entry, is_at}
use Rattle.std.specs.Map.{lookup}
use Rattle.std.specs.Ordering.{is_eq, match_ordering}
use Rattle.std.specs.declared.cmp.Ordering.{Ordering}
use Rattle.std.specs.declared.cmp.Ordering.TheVariants.{Less, Equal, Greater}
use Rattle.game_reader.specs.Seen.{IsPutIn}

module _ {K : Type 0} (cmp : K → K → Ordering) (key : K) (number : ℕ) where
  abbrev second : K × ℕ → ℕ
  second entry = entry.1

  -- a key that the map has not yet
  pub put_in : (entries : List (K × ℕ)) → lookup (is_at (cmp key)) entries ≡ None → IsPutIn number (map second entries) (map second (insert_entry cmp entries key number))
  put_in [] none = record {
    before = [];
    behind = [];
    was = refl;
    is = refl;
  }
  put_in (entry ∷ entries) none = by (cmp key entry.0) refl (put_in entries)
    where
      found : Ordering → Option ℕ
      found o = cond (is_eq o) (Some entry.1) (lookup (is_at (cmp key)) entries)

      made : Ordering → List ℕ
      made o = map second (match_ordering o ((key, number) ∷ entry ∷ entries) ((entry.0, number) ∷ entries) (entry ∷ insert_entry cmp entries key number))

      by : (o : Ordering) → cmp key entry.0 ≡ o
          → (lookup (is_at (cmp key)) entries ≡ None → IsPutIn number (map second entries) (map second (insert_entry cmp entries key number)))
          → IsPutIn number (map second (entry ∷ entries)) (map second (insert_entry cmp (entry ∷ entries) key number))
      by Less e more = record {
        before = [];
        behind = map second (entry ∷ entries);
        was = refl;
        is = ap made e;
      }
      by Equal e more = let both : Some entry.1 ≡ None = sym (ap found e) ∙ none in absurd (cc)
      by Greater e more =
          let rest = more (sym (ap found e) ∙ none) in
          record {
            before = entry.1 ∷ rest.before;
            behind = rest.behind;
            was = ap (λ (numbers : List ℕ). entry.1 ∷ numbers) rest.was;
            is = ap made e ∙ ap (λ (numbers : List ℕ). entry.1 ∷ numbers) rest.is;
          }
