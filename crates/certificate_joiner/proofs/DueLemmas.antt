-- How a strategy goes on from a node.
use Rattle.std.proofs.Common.{◌≡◌, ℕ, ◌+◌, ◌≤◌, ◌<◌, ◌⊎◌, inl, inr, List, [], ◌∷◌, ◌++◌, refl, sym, ◌∙◌, ap, subst, Bool, true, false, cond, Option, Some, None, map, arith}
use Rattle.std.specs.Prelude.{Contains, All}
use Rattle.std.proofs.lemmas.List.Sums.{sum_by-cons}
use Rattle.std.proofs.lemmas.Bool.{false≢true}
use Rattle.std.proofs.lemmas.List.Elements.{All-contains, All-head, All-tail, All-contains_itself, All-cons, All-nil}
use Rattle.draughts_board.specs.Board.{Board, other, same_side}
use Rattle.draughts_board.specs.Same.{same_side-Decides}
use Rattle.draughts_board.specs.Rules.{IsLegal, after}
use Rattle.draughts_board.specs.Play.{successors_of}
use Rattle.draughts_board.specs.declared.pieces.Side.{Side}
use Rattle.draughts_board.proofs.Truth.{other-other, one_side, not_both_sides}
use Rattle.draughts_board.proofs.Members.{bool_cases, only_one, Contains-head, Contains-tail, Contains-nil, Contains-map}
use Rattle.strategy_certificate.specs.declared.certificates.Certificate.{Certificate}
use Rattle.proof_numbers.specs.Known.{knows_hold}
use Rattle.proof_numbers.specs.Numbers.{least_of, total_of}
use Rattle.proof_tree.specs.declared.rows.Mark.TheVariants.{Expanded, Repeats}
use Rattle.proof_tree.specs.Forest.{Forest, no_node, node, Node, nodes, numbers, numbers_at, size}
use Rattle.proof_tree.specs.Sound.{IsSoundNode}
use Rattle.certificate_joiner.specs.declared.steps.Aim.{Aim}
use Rattle.certificate_joiner.specs.declared.steps.Aim.TheVariants.{Win, Hold}
use Rattle.certificate_joiner.specs.declared.steps.Step.{Step}
use Rattle.certificate_joiner.specs.declared.steps.Reason.{Reason}
use Rattle.certificate_joiner.specs.declared.steps.Reason.TheVariants as reason
use Rattle.certificate_joiner.specs.Shelf.{Put, certificates_of}
use Rattle.certificate_joiner.specs.Certified.{IsCertified}
use Rattle.certificate_joiner.specs.Steps.{IsUsable, PlaysTo}
use Rattle.certificate_joiner.specs.Strategy.{is_due, knows, is_repeating, ShowsBy, Tells, StandsAtSight, IsDueNode, IsKnown, weight, weights, first_due, due_nodes, StrategyGoesOn}
use Rattle.certificate_joiner.proofs.Nodes.{position_of, facts_of, mark_of, children_of}
use Rattle.certificate_joiner.proofs.Named.{EachNode-contains}
use Rattle.certificate_joiner.proofs.Numbers.{least_zero, total_zero, some_proved, all_proved, some_disproved, all_disproved, proved_by, disproved_by}

-- ---- among the children

abbrev pub SomeDue : Aim → Side → List Node → Type 0
SomeDue aim s xs = (x : Node) × (Contains xs x × (is_due aim s x ≡ true))

abbrev pub AllDue : Aim → Side → List Node → Type 0
AllDue aim s xs = All (λ x. is_due aim s x ≡ true) xs

some_more : (aim : Aim) (s : Side) (x : Node) (xs : List Node) → SomeDue aim s xs → SomeDue aim s (x ∷ xs)
some_more aim s x xs (y, (there, due)) = (y, (Contains-tail x y xs there, due))

some_from_proved : (s : Side) (xs : Forest) → some_proved s xs ≡ true → SomeDue Win s (nodes xs)
some_from_proved s no_node t = absurd (false≢true t)
some_from_proved s (node own children xs) t =
    let x : Node = record { own = own; children = children } in
    elim (least_zero (numbers_at s own (numbers s children)).proof (least_of (map (λ n. n.proof) (numbers s xs))) t) [
      | inl here ↦ (x, (Contains-head x (nodes xs), here))
      | inr rest ↦ some_more Win s x (nodes xs) (some_from_proved s xs rest)
    ]

all_from_proved : (s : Side) (xs : Forest) → all_proved s xs ≡ true → AllDue Win s (nodes xs)
all_from_proved s no_node t = All-nil (λ x. is_due Win s x ≡ true)
all_from_proved s (node own children xs) t =
    let both = total_zero (numbers_at s own (numbers s children)).proof (total_of (map (λ n. n.proof) (numbers s xs))) t in
    All-cons (λ x. is_due Win s x ≡ true) (record { own = own; children = children }) (nodes xs) both.0 (all_from_proved s xs both.1)

some_from_disproved : (s : Side) (xs : Forest) → some_disproved (other s) xs ≡ true → SomeDue Hold s (nodes xs)
some_from_disproved s no_node t = absurd (false≢true t)
some_from_disproved s (node own children xs) t =
    let x : Node = record { own = own; children = children } in
    elim (least_zero (numbers_at (other s) own (numbers (other s) children)).disproof (least_of (map (λ n. n.disproof) (numbers (other s) xs))) t) [
      | inl here ↦ (x, (Contains-head x (nodes xs), here))
      | inr rest ↦ some_more Hold s x (nodes xs) (some_from_disproved s xs rest)
    ]

all_from_disproved : (s : Side) (xs : Forest) → all_disproved (other s) xs ≡ true → AllDue Hold s (nodes xs)
all_from_disproved s no_node t = All-nil (λ x. is_due Hold s x ≡ true)
all_from_disproved s (node own children xs) t =
    let both = total_zero (numbers_at (other s) own (numbers (other s) children)).disproof (total_of (map (λ n. n.disproof) (numbers (other s) xs))) t in
    All-cons (λ x. is_due Hold s x ≡ true) (record { own = own; children = children }) (nodes xs) both.0 (all_from_disproved s xs both.1)

-- ---- why a node is due

abbrev pub DueBy : Aim → Side → Node → Type 0
DueBy aim s x =
    (knows aim s x.own.facts ≡ true)
    ⊎ (((aim ≡ Hold) × (x.own.mark ≡ Repeats))
    ⊎ ((x.own.mark ≡ Expanded) × (((x.own.position.to_move ≡ s) × SomeDue aim s (nodes x.children)) ⊎ ((x.own.position.to_move ≡ other s) × AllDue aim s (nodes x.children)))))

due_by : (aim : Aim) (s : Side) (x : Node) → is_due aim s x ≡ true → DueBy aim s x
due_by Win s x t =
    elim (proved_by s x.own x.children t) [
      | inl known ↦ inl known
      | inr (is, inl (mine, some)) ↦ inr (inr (is, inl (mine, some_from_proved s x.children some)))
      | inr (is, inr (theirs, all)) ↦ inr (inr (is, inr (theirs, all_from_proved s x.children all)))
    ]
due_by Hold s x t =
    elim (disproved_by (other s) x.own x.children t) [
      | inl known ↦ inl (subst (λ r. knows_hold r x.own.facts ≡ true) (other-other s) known)
      | inr (inl is) ↦ inr (inl (refl, is))
      | inr (inr (is, inl (theirs, all))) ↦ inr (inr (is, inr (theirs, all_from_disproved s x.children all)))
      | inr (inr (is, inr (mine, some))) ↦ inr (inr (is, inl (mine ∙ other-other s, some_from_disproved s x.children some)))
    ]

-- ---- the children's weights

pub weights-children : (xs : Forest) → weights (nodes xs) ≡ size xs
weights-children no_node = refl
weights-children (node own children xs) =
    sum_by-cons weight (record { own = own; children = children }) (nodes xs) ∙ ap (λ n. 1 + size children + n) (weights-children xs)

module _ (k : ℕ) (puts : List Put) (aim : Aim) (s : Side) where
  pub known_from : (path : List Board) (x : Node) → IsDueNode k puts aim s path x → knows aim s (facts_of x) ≡ true
      → IsKnown k aim s (position_of x) (certificates_of x.own.number puts)
  known_from path x due t = record { lawful = due.sound.0.lawful; shelved = due.certified.0.shelved; fact = by aim t }
    where
      by : (a : Aim) → knows a s (facts_of x) ≡ true
          → StandsAtSight a k s (position_of x) ⊎ ((c : Certificate) × (Contains (certificates_of x.own.number puts) c × Tells a s c.claim))
      by Win t = due.certified.0.wins s t
      by Hold t = due.certified.0.holds s t

  child_due : (path : List Board) (x : Node) → IsDueNode k puts aim s path x → (y : Node) → Contains (children_of x) y → is_due aim s y ≡ true
      → IsDueNode k puts aim s (position_of x ∷ path) y
  child_due path x due y there t = record {
    sound = EachNode-contains IsSoundNode (position_of x ∷ path) x.children due.sound.1 y there;
    certified = EachNode-contains (λ path. IsCertified k puts) (position_of x ∷ path) x.children due.certified.1 y there;
    due = t;
  }

  abbrev step_at : Node → Reason → Step
  step_at x r = record { position = position_of x; reason = r }

  -- ---- nothing goes on

  pub goes_on_known : (x : Node) (r : Reason) → IsUsable s r
      → ((path : List Board) → IsDueNode k puts aim s path x → (before later : List Board) → ShowsBy aim k s before later (position_of x) r)
      → StrategyGoesOn k puts aim s x (step_at x r) []
  goes_on_known x r usable shows = record {
    position = refl;
    usable = usable;
    shows = λ path before due above. shows path due before [];
  }

  repeats_above : (a : Aim) (path : List Board) (x : Node) → is_repeating (mark_of x) ≡ true → IsSoundNode path x
      → DueBy a s x → knows a s (facts_of x) ≡ false → (before : List Board) → ((q : Board) → Contains path q → Contains before q)
      → ShowsBy a k s before [] (position_of x) reason.Repeats
  repeats_above a path x is sound (inl known) unknown before above = absurd (false≢true (sym unknown ∙ known))
  repeats_above Win path x is sound (inr (inl (hold, repeats))) unknown before above = absurd (cc)
  repeats_above Hold path x is sound (inr (inl (hold, repeats))) unknown before above = above (position_of x) (sound.repeats.0 repeats)
  repeats_above a path x is sound (inr (inr (expanded, rest))) unknown before above =
      absurd (false≢true (subst (λ m. is_repeating m ≡ true) expanded is))

  pub goes_on_repeats : (x : Node) → is_repeating (mark_of x) ≡ true → knows aim s (facts_of x) ≡ false → StrategyGoesOn k puts aim s x (step_at x reason.Repeats) []
  goes_on_repeats x is unknown = record {
    position = refl;
    usable = tt;
    shows = λ path before due above. repeats_above aim path x is due.sound.0 (due_by aim s x due.due) unknown before above;
  }

  -- ---- play goes on

  -- an expanded node, its children and who is due among them
  abbrev pub Expands : Node → Type 0
  Expands x =
      (mark_of x ≡ Expanded)
      × ((((position_of x).to_move ≡ s) × SomeDue aim s (children_of x)) ⊎ (((position_of x).to_move ≡ other s) × AllDue aim s (children_of x)))

  pub expands : (path : List Board) (x : Node) → IsDueNode k puts aim s path x → knows aim s (facts_of x) ≡ false → is_repeating (mark_of x) ≡ false → Expands x
  expands path x due unknown once =
      elim (due_by aim s x due.due) [
        | inl known ↦ absurd (false≢true (sym unknown ∙ known))
        | inr (inl (hold, repeats)) ↦ absurd (false≢true (sym (subst (λ m. is_repeating m ≡ false) repeats once)))
        | inr (inr by) ↦ by
      ]

  plays : (a : Aim) (before later : List Board) (p : Board) (chosen : Option (List ℕ)) → PlaysTo s later p chosen → ShowsBy a k s before later p (reason.Play chosen)
  plays Win before later p chosen to = to
  plays Hold before later p chosen to = to

  pub goes_on_one : (x c : Node) (move : List ℕ) → (position_of x).to_move ≡ s
      → IsLegal (position_of x) move → after (position_of x) move ≡ position_of c → StrategyGoesOn k puts aim s x (step_at x (reason.Play (Some move))) (c ∷ [])
  goes_on_one x c move mine legal leads = record {
    position = refl;
    usable = tt;
    shows = λ path before due above. plays aim before (position_of c ∷ []) (position_of x) (Some move)
        (record {
          lawful = due.sound.0.lawful;
          move = (mine, legal);
          leads = All-cons (Contains (position_of c ∷ [])) (after (position_of x) move) []
              (subst (Contains (position_of c ∷ [])) (sym leads) (Contains-head (position_of c) [])) (All-nil (Contains (position_of c ∷ [])));
        });
  }

  pub goes_on_all : (x : Node) → (position_of x).to_move ≡ other s → knows aim s (facts_of x) ≡ false → is_repeating (mark_of x) ≡ false
      → StrategyGoesOn k puts aim s x (step_at x (reason.Play None)) (children_of x)
  goes_on_all x theirs unknown once = record {
    position = refl;
    usable = tt;
    shows = λ path before due above.
        (let is = (expands path x due unknown once).0 in
        plays aim before (map position_of (children_of x)) (position_of x) None
        (record {
          lawful = due.sound.0.lawful;
          move = theirs;
          leads = subst (All (Contains (map position_of (children_of x)))) (due.sound.0.expanded is) (All-contains_itself (map position_of (children_of x)));
        }));
  }

  -- ---- the same, of a position that is the node's

  module _ (x : Node) (p : Board) (is : p ≡ position_of x) where
    of_position : (r : Reason) (added : List Node) → StrategyGoesOn k puts aim s x (step_at x r) added → StrategyGoesOn k puts aim s x (record { position = p; reason = r }) added
    of_position r added goes = subst (λ q. StrategyGoesOn k puts aim s x (record { position = q; reason = r }) added) (sym is) goes

    pub at_known : (n : ℕ) (r : Reason) → n ≡ x.own.number → knows aim s (facts_of x) ≡ true → IsUsable s r
        → (IsKnown k aim s p (certificates_of n puts) → (before later : List Board) → ShowsBy aim k s before later p r)
        → StrategyGoesOn k puts aim s x (record { position = p; reason = r }) []
    at_known n r named t usable shows =
        of_position r [] (goes_on_known x r usable (λ path due before later. subst (λ q. ShowsBy aim k s before later q r) is
        (shows (subst (λ q. IsKnown k aim s q (certificates_of n puts)) (sym is)
        (subst (λ m. IsKnown k aim s (position_of x) (certificates_of m puts)) (sym named) (known_from path x due t))) before later)))

    pub at_repeats : is_repeating (mark_of x) ≡ true → knows aim s (facts_of x) ≡ false → StrategyGoesOn k puts aim s x (record { position = p; reason = reason.Repeats }) []
    at_repeats repeats unknown = of_position reason.Repeats [] (goes_on_repeats x repeats unknown)

    pub at_all : p.to_move ≡ other s → knows aim s (facts_of x) ≡ false → is_repeating (mark_of x) ≡ false
        → StrategyGoesOn k puts aim s x (record { position = p; reason = reason.Play None }) (children_of x)
    at_all theirs unknown once =
        of_position (reason.Play None) (children_of x) (goes_on_all x (subst (λ (q : Board). q.to_move ≡ other s) is theirs) unknown once)

    pub at_one : (c : Node) (next : Board) (move : List ℕ) → p.to_move ≡ s → next ≡ position_of c → IsLegal p move → after p move ≡ next
        → StrategyGoesOn k puts aim s x (record { position = p; reason = reason.Play (Some move) }) (c ∷ [])
    at_one c next move mine same legal leads =
        of_position (reason.Play (Some move)) (c ∷ []) (goes_on_one x c move (subst (λ (q : Board). q.to_move ≡ s) is mine)
        (subst (λ q. IsLegal q move) is legal) (subst (λ q. after q move ≡ position_of c) is (leads ∙ same)))

    -- a child of an expanded node stands at a successor
    pub at_next : (c : Node) (next : Board) → mark_of x ≡ Expanded → (path : List Board) → IsDueNode k puts aim s path x → Contains (children_of x) c → next ≡ position_of c
        → Contains (successors_of p) next
    at_next c next expanded path due there same =
        subst (Contains (successors_of p)) (sym same)
        (subst (λ q. Contains (successors_of q) (position_of c)) (sym is)
        (subst (λ ps. Contains ps (position_of c)) (due.sound.0.expanded expanded) (Contains-map position_of (children_of x) c there)))

    pub some_child : (path : List Board) → IsDueNode k puts aim s path x → knows aim s (facts_of x) ≡ false → is_repeating (mark_of x) ≡ false → p.to_move ≡ s
        → All (λ y. is_due aim s y ≡ false) (children_of x) → ⊥
    some_child path due unknown once mine none =
        elim (expands path x due unknown once).1 [
          | inl (mine', found) ↦ false≢true (sym (All-contains (λ y. is_due aim s y ≡ false) (children_of x) found.0 none found.1.0) ∙ found.1.1)
          | inr (theirs, all) ↦ not_both_sides s p.to_move mine (subst (λ (q : Board). q.to_move ≡ other s) (sym is) theirs)
        ]

-- ---- the nodes at which it goes on

module _ (aim : Aim) (s : Side) where
  pub due_nodes-known : (x : Node) → knows aim s (facts_of x) ≡ true → due_nodes aim s x ≡ []
  due_nodes-known x t =
      ap (λ b. cond b [] (cond (is_repeating (mark_of x)) [] (cond (same_side (position_of x).to_move s) (first_due aim s (children_of x)) (children_of x)))) t

  unknown_as : (x : Node) → knows aim s (facts_of x) ≡ false
      → due_nodes aim s x ≡ cond (is_repeating (mark_of x)) [] (cond (same_side (position_of x).to_move s) (first_due aim s (children_of x)) (children_of x))
  unknown_as x t =
      ap (λ b. cond b [] (cond (is_repeating (mark_of x)) [] (cond (same_side (position_of x).to_move s) (first_due aim s (children_of x)) (children_of x)))) t

  pub due_nodes-repeats : (x : Node) → knows aim s (facts_of x) ≡ false → is_repeating (mark_of x) ≡ true → due_nodes aim s x ≡ []
  due_nodes-repeats x t r =
      unknown_as x t ∙ ap (λ b. cond b [] (cond (same_side (position_of x).to_move s) (first_due aim s (children_of x)) (children_of x))) r

  once_as : (x : Node) → knows aim s (facts_of x) ≡ false → is_repeating (mark_of x) ≡ false
      → due_nodes aim s x ≡ cond (same_side (position_of x).to_move s) (first_due aim s (children_of x)) (children_of x)
  once_as x t r =
      unknown_as x t ∙ ap (λ b. cond b [] (cond (same_side (position_of x).to_move s) (first_due aim s (children_of x)) (children_of x))) r

  pub due_nodes-mine : (x : Node) → knows aim s (facts_of x) ≡ false → is_repeating (mark_of x) ≡ false → (position_of x).to_move ≡ s
      → due_nodes aim s x ≡ first_due aim s (children_of x)
  due_nodes-mine x t r mine =
      once_as x t r ∙ ap (λ b. cond b (first_due aim s (children_of x)) (children_of x)) ((same_side-Decides (position_of x).to_move s).1 mine)

  theirs_differ : (t : Side) → t ≡ other s → same_side t s ≡ false
  theirs_differ t theirs =
      elim (bool_cases (same_side t s)) [ inl same ↦ absurd (not_both_sides s t ((same_side-Decides t s).0 same) theirs) | inr differs ↦ differs ]

  pub due_nodes-theirs : (x : Node) → knows aim s (facts_of x) ≡ false → is_repeating (mark_of x) ≡ false → (position_of x).to_move ≡ other s
      → due_nodes aim s x ≡ children_of x
  due_nodes-theirs x t r theirs =
      once_as x t r ∙ ap (λ b. cond b (first_due aim s (children_of x)) (children_of x)) (theirs_differ (position_of x).to_move theirs)

  -- ---- the first that is due

  pub first_due-none : (xs : List Node) → All (λ x. is_due aim s x ≡ false) xs → first_due aim s xs ≡ []
  first_due-none [] none = refl
  first_due-none (x ∷ xs) none =
      ap (λ b. cond b (x ∷ []) (first_due aim s xs)) (All-head (λ x. is_due aim s x ≡ false) x xs none) ∙ first_due-none xs (All-tail (λ x. is_due aim s x ≡ false) x xs none)

  pub first_due-at : (before : List Node) (x : Node) (after : List Node) → All (λ x. is_due aim s x ≡ false) before → is_due aim s x ≡ true → first_due aim s (before ++ x ∷ after) ≡ x ∷ []
  first_due-at [] x after none t = ap (λ b. cond b (x ∷ []) (first_due aim s after)) t
  first_due-at (y ∷ before) x after none t =
      ap (λ b. cond b (y ∷ []) (first_due aim s (before ++ x ∷ after))) (All-head (λ x. is_due aim s x ≡ false) y before none)
      ∙ first_due-at before x after (All-tail (λ x. is_due aim s x ≡ false) y before none) t

  first_due-light : (xs : Forest) → weights (first_due aim s (nodes xs)) ≤ size xs
  first_due-light no_node = omega arith
  first_due-light (node own children xs) = by (is_due aim s x) (first_due-light xs)
    where
      x : Node
      x = record { own = own; children = children }

      by : (b : Bool) → weights (first_due aim s (nodes xs)) ≤ size xs → weights (cond b (x ∷ []) (first_due aim s (nodes xs))) ≤ 1 + size children + size xs
      by true rest = omega arith
      by false rest = omega arith

  pub due_nodes-lighter : (x : Node) → weights (due_nodes aim s x) < weight x
  due_nodes-lighter x = known (knows aim s (facts_of x))
    where
      mine : (b : Bool) → weights (cond b (first_due aim s (children_of x)) (children_of x)) < 1 + size x.children
      mine true = let le = first_due-light x.children in omega arith
      mine false = let same = weights-children x.children in omega arith

      once : (b : Bool) → weights (cond b [] (cond (same_side (position_of x).to_move s) (first_due aim s (children_of x)) (children_of x))) < 1 + size x.children
      once true = omega arith
      once false = mine (same_side (position_of x).to_move s)

      known : (b : Bool) → weights (cond b [] (cond (is_repeating (mark_of x)) [] (cond (same_side (position_of x).to_move s) (first_due aim s (children_of x)) (children_of x)))) < 1 + size x.children
      known true = omega arith
      known false = once (is_repeating (mark_of x))

  pub some_first : (xs : List Node) (x : Node) → Contains (first_due aim s xs) x → Contains xs x × (is_due aim s x ≡ true)
  some_first [] x there = absurd (Contains-nil x there)
  some_first (y ∷ xs) x there = by (is_due aim s y) refl (some_first xs x) there
    where
      by : (b : Bool) → is_due aim s y ≡ b → (Contains (first_due aim s xs) x → Contains xs x × (is_due aim s x ≡ true)) → Contains (cond b (y ∷ []) (first_due aim s xs)) x → Contains (y ∷ xs) x × (is_due aim s x ≡ true)
      by true t later here =
          let same = only_one y x here in
          (subst (λ z. Contains (y ∷ xs) z) same (Contains-head y xs), subst (λ z. is_due aim s z ≡ true) same t)
      by false t later rest = let found = later rest in (Contains-tail y x xs found.0, found.1)

  module _ (k : ℕ) (puts : List Put) where
    -- the nodes at which it goes on are due, below the node's position
    pub due_nodes-due : (path : List Board) (x : Node) → IsDueNode k puts aim s path x → (y : Node) → Contains (due_nodes aim s x) y → IsDueNode k puts aim s (position_of x ∷ path) y
    due_nodes-due path x due y there = known (knows aim s (facts_of x)) refl there
      where
        child : Contains (children_of x) y → is_due aim s y ≡ true → IsDueNode k puts aim s (position_of x ∷ path) y
        child inside t = child_due k puts aim s path x due y inside t

        all_due : knows aim s (facts_of x) ≡ false → is_repeating (mark_of x) ≡ false → (position_of x).to_move ≡ other s → All (λ x. is_due aim s x ≡ true) (children_of x)
        all_due unknown once theirs =
            elim (expands k puts aim s path x due unknown once).1 [
              | inl (mine, some) ↦ absurd (not_both_sides s (position_of x).to_move mine theirs)
              | inr (them, all) ↦ all
            ]

        mover : (b : Bool) → same_side (position_of x).to_move s ≡ b → knows aim s (facts_of x) ≡ false → is_repeating (mark_of x) ≡ false → Contains (cond b (first_due aim s (children_of x)) (children_of x)) y → IsDueNode k puts aim s (position_of x ∷ path) y
        mover true same unknown once there = let found = some_first (children_of x) y there in child found.0 found.1
        mover false differs unknown once there =
            let theirs : (position_of x).to_move ≡ other s = elim (one_side s (position_of x).to_move) [ inl mine ↦ absurd (false≢true (sym differs ∙ (same_side-Decides (position_of x).to_move s).1 mine)) | inr them ↦ them ] in
            child there (All-contains (λ x. is_due aim s x ≡ true) (children_of x) y (all_due unknown once theirs) there)

        once : (b : Bool) → is_repeating (mark_of x) ≡ b → knows aim s (facts_of x) ≡ false → Contains (cond b [] (cond (same_side (position_of x).to_move s) (first_due aim s (children_of x)) (children_of x))) y → IsDueNode k puts aim s (position_of x ∷ path) y
        once true r unknown there = absurd (Contains-nil y there)
        once false r unknown there = mover (same_side (position_of x).to_move s) refl unknown r there

        known : (b : Bool) → knows aim s (facts_of x) ≡ b → Contains (cond b [] (cond (is_repeating (mark_of x)) [] (cond (same_side (position_of x).to_move s) (first_due aim s (children_of x)) (children_of x)))) y → IsDueNode k puts aim s (position_of x ∷ path) y
        known true t there = absurd (Contains-nil y there)
        known false t there = once (is_repeating (mark_of x)) refl t there
