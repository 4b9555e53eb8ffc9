-- What a node at the end changes.
use Rattle.std.proofs.Common.{◌≡◌, ℕ, ◌+◌, ◌<◌, ◌≢◌, inl, inr, List, [], ◌∷◌, ◌++◌, ◌-◌, Bool, true, false, length, set, length-append, refl, sym, ◌∙◌, subst, ap, arith}
use Rattle.std.proofs.lemmas.Bool.{cases_lt, cases_eq}
use Rattle.std.proofs.lemmas.List.{get_or_past, get_or_append_left, get_or-append_right, get_or-set_same, get_or-set_other, length-set}
use Rattle.position_rows.specs.declared.tree.Node.{Node}
use Rattle.position_rows.specs.Walks.{LinksTo, IsHung, node_at, no_node, named, with_link}

-- the number of a node stays where it names one more
number_stays : (node : Node) (d : Bool) (k : ℕ) → (with_link node d k).number ≡ node.number
number_stays node true k = refl
number_stays node false k = refl

named_now : (node : Node) (d : Bool) (k : ℕ) → named (with_link node d k) d ≡ k
named_now node true k = refl
named_now node false k = refl

named_as_before : (old : List Node) (node : Node) (i last : ℕ) (d c : Bool) (k : ℕ) → ((j : ℕ) → ¬ LinksTo old i d j)
    → node ≡ with_link (node_at old i) d last → LinksTo old i c k → named node c ≡ k
named_as_before old node i last true true k none is link = absurd (none k link)
named_as_before old node i last true false k none is link = ap (λ (x : Node). named x false) is ∙ link.named
named_as_before old node i last false true k none is link = ap (λ (x : Node). named x true) is ∙ link.named
named_as_before old node i last false false k none is link = absurd (none k link)

module _ (old new : List Node) (i : ℕ) (d : Bool) (number : ℕ) (inside : i < length old) (none : (k : ℕ) → ¬ LinksTo old i d k)
    (long : length new ≡ length old + 1)
    (others : (k : ℕ) → k < length old → k ≢ i → node_at new k ≡ node_at old k)
    (here : node_at new i ≡ with_link (node_at old i) d (length old))
    (last : (node_at new (length old)).number ≡ number) where
  kept : (j : ℕ) (c : Bool) (k : ℕ) → LinksTo old j c k → LinksTo new j c k
  kept j c k link =
      let within : k < length old = link.inside in
      let later : j < k = link.later in
      elim (cases_eq j i) [
        | inl same ↦ record {
          named = named_as_before old (node_at new j) i (length old) d c k none (ap (λ (x : ℕ). node_at new x) same ∙ here)
              (subst (λ (x : ℕ). LinksTo old x c k) same link);
          later = later;
          inside = omega (arith, within, long);
        }
        | inr ne ↦ record {
          named = ap (λ (x : Node). named x c) (others j (omega (arith, later, within)) ne) ∙ link.named;
          later = later;
          inside = omega (arith, within, long);
        }
      ]

  numbers : (k s : ℕ) → (node_at old k).number ≡ s + 1 → (node_at new k).number ≡ s + 1
  numbers k s is =
      elim (cases_lt k (length old)) [
        | inl within ↦ elim (cases_eq k i) [
          | inl same ↦ ap (λ (x : ℕ). (node_at new x).number) same ∙ (ap (λ (x : Node). x.number) here
              ∙ (number_stays (node_at old i) d (length old) ∙ (ap (λ (x : ℕ). (node_at old x).number) (sym same) ∙ is)))
          | inr ne ↦ ap (λ (x : Node). x.number) (others k within ne) ∙ is
        ]
        | inr past ↦ (
            let zero : (node_at old k).number ≡ 0 = ap (λ (x : Node). x.number) (get_or_past old k no_node past) in
            absurd (omega (arith, zero, is)))
      ]

  pub is_hung : IsHung old new i d number
  is_hung = record {
    kept = kept;
    numbers = numbers;
    linked = record {
      named = ap (λ (x : Node). named x d) here ∙ named_now (node_at old i) d (length old);
      later = inside;
      inside = omega (arith, long);
    };
    number = last;
  }

module _ (old : List Node) (i : ℕ) (d : Bool) (number : ℕ) (inside : i < length old) (none : (k : ℕ) → ¬ LinksTo old i d k) where
  abbrev linked : List Node
  linked = set old i (with_link (node_at old i) d (length old))

  abbrev fresh : List Node
  fresh = record { number = number; zero = 0; one = 0 } ∷ []

  as_long : length (set old i (with_link (node_at old i) d (length old))) ≡ length old
  as_long = length-set old i (with_link (node_at old i) d (length old))

  longer : length (linked ++ fresh) ≡ length old + 1
  longer = length-append linked fresh ∙ ap (λ (n : ℕ). n + 1) as_long

  others_stay : (k : ℕ) → k < length old → k ≢ i → node_at (linked ++ fresh) k ≡ node_at old k
  others_stay k within ne =
      get_or_append_left linked fresh no_node k (subst (λ (n : ℕ). k < n) (sym as_long) within)
      ∙ get_or-set_other old i k (with_link (node_at old i) d (length old)) no_node ne

  here_now : node_at (linked ++ fresh) i ≡ with_link (node_at old i) d (length old)
  here_now =
      get_or_append_left linked fresh no_node i (subst (λ (n : ℕ). i < n) (sym as_long) inside)
      ∙ get_or-set_same old i (with_link (node_at old i) d (length old)) no_node inside

  last_now : (node_at (linked ++ fresh) (length old)).number ≡ number
  last_now =
      let zero : length old - length old ≡ 0 = omega arith in
      ap (λ (x : Node). x.number) (get_or-append_right linked fresh (length old) (length old) no_node as_long (omega arith))
      ∙ ap (λ (k : ℕ). (node_at fresh k).number) zero

  pub hung_at_end : IsHung old (set old i (with_link (node_at old i) d (length old)) ++ record { number = number; zero = 0; one = 0 } ∷ []) i d number
  hung_at_end = is_hung old (linked ++ fresh) i d number inside none longer others_stay here_now last_now
