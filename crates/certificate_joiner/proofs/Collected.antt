-- The nodes collected so far.
use Rattle.std.proofs.Common.{◌≡◌, ℕ, suc, ◌+◌, ◌<◌, ◌⊎◌, inl, inr, List, [], ◌∷◌, ◌++◌, refl, sym, ◌∙◌, ap, subst, map, take, drop, length, get_or, arith}
use Rattle.std.specs.Prelude.{Contains, All}
use Rattle.std.proofs.Math.Seq.{drop-cons}
use Rattle.std.proofs.lemmas.Bool.{cases_lt}
use Rattle.std.proofs.lemmas.List.{map-append, take-append-drop, drop-append-le, length-append}
use Rattle.std.proofs.Math.ListN.{get_or-append}
use Rattle.std.proofs.lemmas.Grind.{get_or_default_zero}
use Rattle.std.proofs.lemmas.List.Sums.{sum_by-append, sum_by-cons}
use Rattle.std.proofs.lemmas.List.Elements.{All-append, All-cons, All-nil, Contains-append_left, Contains-append_right}
use Rattle.draughts_board.specs.Board.{Board}
use Rattle.draughts_board.specs.declared.pieces.Side.{Side}
use Rattle.draughts_board.proofs.Members.{Contains-head, Contains-nil, Contains-cons_cases, Contains-map}
use Rattle.certificate_joiner.specs.declared.steps.Aim.{Aim}
use Rattle.proof_tree.specs.Forest.{Node}
use Rattle.certificate_joiner.specs.Shelf.{Put}
use Rattle.certificate_joiner.proofs.Nodes.{position_of}
use Rattle.certificate_joiner.specs.Strategy.{IsDueNode, IsDueAfter, weight, weights, due_nodes, Added, Collected}
use Rattle.certificate_joiner.proofs.DueLemmas.{due_nodes-due, due_nodes-lighter}

-- ---- a list that is split in two ways

abbrev SplitsLeft : List ℕ → List ℕ → ℕ → Type 0
SplitsLeft xs before x = (rest : List ℕ) × (xs ≡ before ++ x ∷ rest)

abbrev SplitsRight : List ℕ → List ℕ → List ℕ → ℕ → Type 0
SplitsRight xs ys before x = (more : List ℕ) × ((before ≡ xs ++ more) × Contains ys x)

split_cases : (xs ys before : List ℕ) (x : ℕ) (after : List ℕ) → xs ++ ys ≡ before ++ x ∷ after → SplitsLeft xs before x ⊎ SplitsRight xs ys before x
split_cases [] ys before x after is = inr (before, (refl, subst (λ l. Contains l x) (sym is) (Contains-append_right before (x ∷ after) x (Contains-head x after))))
split_cases (y ∷ xs) ys [] x after is =
    let same : y ≡ x = cc in
    inl (xs, ap (λ z. z ∷ xs) same)
split_cases (y ∷ xs) ys (z ∷ before) x after is =
    let same : y ≡ z = cc in
    let rest : xs ++ ys ≡ before ++ x ∷ after = cc in
    elim (split_cases xs ys before x after rest) [
      | inl left ↦ inl (left.0, ap (λ w. w ∷ xs) same ∙ ap (λ l. z ∷ l) left.1)
      | inr right ↦ inr (right.0, (ap (λ w. w ∷ before) (sym same) ∙ ap (λ l. y ∷ l) right.1.0, right.1.1))
    ]

module _ (aim : Aim) (s : Side) (f : ℕ → Node) (Has : ℕ → Type 0) (root : ℕ) where
  abbrev pub place : ℕ → Board
  place n = position_of (f n)

  weights-append : (xs ys : List ℕ) → weights (map f (xs ++ ys)) ≡ weights (map f xs) + weights (map f ys)
  weights-append xs ys = ap weights (map-append f xs ys) ∙ sum_by-append weight (map f xs) (map f ys)

  -- ---- the root alone

  only_root : (before : List ℕ) (n : ℕ) (after : List ℕ) → root ∷ [] ≡ before ++ n ∷ after → (before ≡ []) × (root ≡ n)
  only_root [] n after is = (refl, cc)
  only_root (x ∷ []) n after is = absurd (cc)
  only_root (x ∷ (y ∷ before)) n after is = absurd (cc)

  pub collected_root : Has root → Collected aim s f Has root (root ∷ []) 0
  collected_root has = record {
    within = omega arith;
    begins = ([], refl);
    there = All-cons Has root [] has (All-nil Has);
    due = λ k puts due before n after is.
        let only = only_root before n after is in
        ([], (λ q none. absurd (Contains-nil q none), subst (λ m. IsDueNode k puts aim s [] (f m)) only.1 due));
    closed = λ j d lt. absurd (omega arith);
    lighter = omega arith;
  }

  -- ---- one node more

  module _ (nodes : List ℕ) (i : ℕ) (all : Collected aim s f Has root nodes i) (n : ℕ) (more : i < length nodes) (is : n ≡ get_or nodes i n) where
    behind : drop i nodes ≡ n ∷ drop (i + 1) nodes
    behind =
        let next : suc i ≡ i + 1 = omega arith in
        drop-cons nodes i n more ∙ (ap (λ (m : ℕ). m ∷ drop (suc i) nodes) (sym is) ∙ ap (λ (m : ℕ). n ∷ drop m nodes) next)

    split : nodes ≡ take i nodes ++ n ∷ drop (i + 1) nodes
    split = sym (take-append-drop i nodes) ∙ ap (λ l. take i nodes ++ l) behind

    module _ (new : List ℕ) (added : Added f Has nodes new (due_nodes aim s (f n))) where
      abbrev ids : List ℕ
      ids = added.0

      names : map f ids ≡ due_nodes aim s (f n)
      names = added.1.1.1

      front : (q : Board) → Contains (map place (take i nodes)) q → Contains (map place nodes) q
      front q inside =
          subst (λ l. Contains (map place l) q) (sym split)
          (subst (λ l. Contains l q) (sym (map-append place (take i nodes) (n ∷ drop (i + 1) nodes))) (Contains-append_left (map place (take i nodes)) (map place (n ∷ drop (i + 1) nodes)) q inside))

      here : Contains (map place nodes) (place n)
      here = Contains-map place nodes n (subst (λ l. Contains l n) (sym split) (Contains-append_right (take i nodes) (n ∷ drop (i + 1) nodes) n (Contains-head n (drop (i + 1) nodes))))

      module _ (k : ℕ) (puts : List Put) (root_due : IsDueNode k puts aim s [] (f root)) where
        now : IsDueAfter k puts aim s f (take i nodes) n
        now = all.due k puts root_due (take i nodes) n (drop (i + 1) nodes) split

        above : (q : Board) → Contains (place n ∷ now.0) q → Contains (map place nodes) q
        above q inside = elim (Contains-cons_cases (place n) now.0 q inside) [ inl same ↦ subst (Contains (map place nodes)) same here | inr up ↦ front q (now.1.0 q up) ]

        due_new : (before : List ℕ) (m : ℕ) → SplitsRight nodes ids before m → IsDueAfter k puts aim s f before m
        due_new before m (extra, (right, there)) = (
          place n ∷ now.0,
          (
            λ q inside. subst (λ l. Contains (map place l) q) (sym right) (subst (λ l. Contains l q) (sym (map-append place nodes extra)) (Contains-append_left (map place nodes) (map place extra) q (above q inside))),
            due_nodes-due aim s k puts now.0 (f n) now.1.1 (f m) (subst (λ l. Contains l (f m)) names (Contains-map f ids m there)),
          ),
        )

        due_more : (before : List ℕ) (m : ℕ) (after : List ℕ) → new ≡ before ++ m ∷ after → IsDueAfter k puts aim s f before m
        due_more before m after cut =
            elim (split_cases nodes ids before m after (sym added.1.0 ∙ cut)) [ inl left ↦ all.due k puts root_due before m left.0 left.1 | inr right ↦ due_new before m right ]

      closed_old : (j d : ℕ) → j < i → (x : Node) → Contains (due_nodes aim s (f (get_or (nodes ++ ids) j d))) x → Contains (map f (drop (j + 1) (nodes ++ ids))) x
      closed_old j d lt x there =
          subst (λ l. Contains (map f l) x) (sym (drop-append-le (j + 1) nodes ids (omega arith)))
          (subst (λ l. Contains l x) (sym (map-append f (drop (j + 1) nodes) ids)) (Contains-append_left (map f (drop (j + 1) nodes)) (map f ids) x
          (all.closed j d lt x (subst (λ m. Contains (due_nodes aim s (f m)) x) (get_or-append nodes ids d j (omega arith)) there))))

      closed_now : (d : ℕ) (x : Node) → Contains (due_nodes aim s (f (get_or (nodes ++ ids) i d))) x → Contains (map f (drop (i + 1) (nodes ++ ids))) x
      closed_now d x there =
          let at : get_or (nodes ++ ids) i d ≡ n = get_or-append nodes ids d i more ∙ (get_or_default_zero nodes i d more ∙ (sym (get_or_default_zero nodes i n more) ∙ sym is)) in
          subst (λ l. Contains (map f l) x) (sym (drop-append-le (i + 1) nodes ids (omega arith)))
          (subst (λ l. Contains l x) (sym (map-append f (drop (i + 1) nodes) ids)) (Contains-append_right (map f (drop (i + 1) nodes)) (map f ids) x
          (subst (λ l. Contains l x) (sym names) (subst (λ m. Contains (due_nodes aim s (f m)) x) at there))))

      closed_more : (j d : ℕ) → j < i + 1 → (x : Node) → Contains (due_nodes aim s (f (get_or (nodes ++ ids) j d))) x → Contains (map f (drop (j + 1) (nodes ++ ids))) x
      closed_more j d lt x there =
          elim (cases_lt j i) [
            | inl old ↦ closed_old j d old x there
            | inr ge ↦ (let same : i ≡ j = omega arith in
                subst (λ m. Contains (map f (drop (m + 1) (nodes ++ ids))) x) same (closed_now d x (subst (λ m. Contains (due_nodes aim s (f (get_or (nodes ++ ids) m d))) x) (sym same) there)))
          ]

      abbrev Load : List ℕ → ℕ
      Load l = weights (map f l)

      lighter_ids : Load ids < weight (f n)
      lighter_ids = subst (λ l. weights l < weight (f n)) (sym names) (due_nodes-lighter aim s (f n))

      load_now : Load (drop i nodes) ≡ weight (f n) + Load (drop (i + 1) nodes)
      load_now = ap Load behind ∙ sum_by-cons weight (f n) (map f (drop (i + 1) nodes))

      load_new : Load (drop (i + 1) new) ≡ Load (drop (i + 1) nodes) + Load ids
      load_new = ap (λ l. Load (drop (i + 1) l)) added.1.0 ∙ (ap Load (drop-append-le (i + 1) nodes ids (omega arith)) ∙ weights-append (drop (i + 1) nodes) ids)

      pub lighter_more : Load (drop (i + 1) new) < Load (drop i nodes)
      lighter_more = let a = lighter_ids in let b = load_now in let c = load_new in omega arith

      pub collected_more : Collected aim s f Has root new (i + 1)
      collected_more = record {
        within = (let e = ap length added.1.0 ∙ length-append nodes ids in omega arith);
        begins = (all.begins.0 ++ ids, added.1.0 ∙ ap (λ l. l ++ ids) all.begins.1);
        there = subst (All Has) (sym added.1.0) (All-append Has nodes ids all.there added.1.1.0);
        due = due_more;
        closed = subst (λ l. (j d : ℕ) → j < i + 1 → (x : Node) → Contains (due_nodes aim s (f (get_or l j d))) x → Contains (map f (drop (j + 1) l)) x) (sym added.1.0) closed_more;
        lighter = (let less = lighter_more in let le = all.lighter in omega arith);
      }
