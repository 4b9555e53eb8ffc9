-- A change elsewhere in a forest leaves a leaf as it is.
use Rattle.std.proofs.Common.{◌≡◌, ℕ, suc, ◌<◌, Bool, true, false, cond, eqb, List, [], ◌∷◌, Option, Some, None, refl, sym, ap, ◌∙◌, subst, arith}
use Rattle.std.proofs.lemmas.Bool.{eqb-true, ne_eqb}
use Rattle.draughts_board.specs.Board.{Board}
use Rattle.proof_numbers.specs.declared.leaves.Child.{Child}
use Rattle.proof_numbers.specs.Known.{Known, joined}
use Rattle.proof_tree.specs.declared.rows.Mark.TheVariants.{Unexpanded, Expanded}
use Rattle.proof_tree.specs.Forest.{Own, Forest, no_node, node, Node, node_at, or_else, forest}
use Rattle.proof_tree.specs.Changes.{appended, changed, learn, with_facts, new_nodes, expand_own, expanded}
use Rattle.proof_tree.specs.Sound.{EachNode, IsSoundNode, IsSoundForest}
use Rattle.proof_tree.proofs.EachNode.{EachNode-at}

-- ---- one more root

in_more : (b : Bool) (a x : Node) (below others more : Option Node) → cond b (Some a) (or_else below others) ≡ Some x → (others ≡ Some x → more ≡ Some x)
    → cond b (Some a) (or_else below more) ≡ Some x
in_more true a x below others more is rest = is
in_more false a x (Some y) others more is rest = is
in_more false a x None others more is rest = rest is

pub leaf-appended : (n : ℕ) (f t : Forest) (x : Node) → node_at n f ≡ Some x → node_at n (appended f t) ≡ Some x
leaf-appended n no_node t x is = absurd (cc)
leaf-appended n (node own children others) t x is =
    in_more (eqb own.number n) (record { own = own; children = children }) x (node_at n children) (node_at n others) (node_at n (appended others t)) is
    (λ h. leaf-appended n others t x h)

-- ---- own facts

module _ (g : Own → Own) (keeps : (own : Own) → (g own).number ≡ own.number) where
  abbrev changed_node : Node → Node
  changed_node x = record { own = g x.own; children = changed g x.children }

  in_changed : (b : Bool) (a x : Node) (below others below' others' : Option Node) → cond b (Some a) (or_else below others) ≡ Some x
      → ((y : Node) → below ≡ Some y → below' ≡ Some (changed_node y)) → (below ≡ None → below' ≡ None) → (others ≡ Some x → others' ≡ Some (changed_node x))
      → cond b (Some (changed_node a)) (or_else below' others') ≡ Some (changed_node x)
  in_changed true a x below others below' others' is p q r = let same : a ≡ x = cc in ap (λ z. Some (changed_node z)) same
  in_changed false a x (Some y) others below' others' is p q r = let same : y ≡ x = cc in rw (p y refl) (ap (λ z. Some (changed_node z)) same)
  in_changed false a x None others below' others' is p q r = rw (q refl) (r is)

  none_changed : (b : Bool) (a a' : Node) (below others below' others' : Option Node) → cond b (Some a) (or_else below others) ≡ None → (below ≡ None → below' ≡ None) → (others ≡ None → others' ≡ None)
      → cond b (Some a') (or_else below' others') ≡ None
  none_changed true a a' below others below' others' is p q = absurd (cc)
  none_changed false a a' (Some y) others below' others' is p q = absurd (cc)
  none_changed false a a' None others below' others' is p q = rw (p refl) (q is)

  missing-changed : (n : ℕ) (f : Forest) → node_at n f ≡ None → node_at n (changed g f) ≡ None
  missing-changed n no_node is = refl
  missing-changed n (node own children others) is =
      subst (λ m. cond (eqb m n) (Some (record { own = g own; children = changed g children })) (or_else (node_at n (changed g children)) (node_at n (changed g others))) ≡ None) (sym (keeps own))
      (none_changed (eqb own.number n) (record { own = own; children = children }) (record { own = g own; children = changed g children }) (node_at n children) (node_at n others) (node_at n (changed g children)) (node_at n (changed g others)) is
      (λ h. missing-changed n children h) (λ h. missing-changed n others h))

  found-changed : (n : ℕ) (f : Forest) (x : Node) → node_at n f ≡ Some x → node_at n (changed g f) ≡ Some (changed_node x)
  found-changed n no_node x is = absurd (cc)
  found-changed n (node own children others) x is =
      subst (λ m. cond (eqb m n) (Some (record { own = g own; children = changed g children })) (or_else (node_at n (changed g children)) (node_at n (changed g others))) ≡ Some (changed_node x)) (sym (keeps own))
      (in_changed (eqb own.number n) (record { own = own; children = children }) x (node_at n children) (node_at n others) (node_at n (changed g children)) (node_at n (changed g others)) is
      (λ y h. found-changed n children y h) (λ h. missing-changed n children h) (λ h. found-changed n others x h))

learn_number : (m : ℕ) (facts : Known) (own : Own) → (learn m facts own).number ≡ own.number
learn_number m facts own = by (eqb own.number m)
  where
    by : (b : Bool) → (cond b (record own { facts = joined own.facts facts }) own).number ≡ own.number
    by true = refl
    by false = refl

-- an unexpanded node of a sound forest has no children
pub leaf_childless : (n : ℕ) (f : Forest) (x : Node) → IsSoundForest f → node_at n f ≡ Some x → x.own.mark ≡ Unexpanded → x.children ≡ no_node
leaf_childless n f x sound there leaf =
    let at = EachNode-at IsSoundNode n [] f x sound.each there in
    let s = at.1 in
    s.childless (λ m. absurd (let no : Unexpanded ≡ Expanded = sym leaf ∙ m in cc))

pub leaf-learnt : (n m : ℕ) (facts : Known) (f : Forest) (x : Node) → (m ≡ n → ⊥) → node_at n f ≡ Some x → x.own.number ≡ n → x.children ≡ no_node
    → node_at n (with_facts m facts f) ≡ Some x
leaf-learnt n m facts f x differs there number childless =
    let other : eqb x.own.number m ≡ false = ne_eqb x.own.number m (λ e. differs (sym e ∙ number)) in
    let same : learn m facts x.own ≡ x.own = ap (λ b. cond b (record x.own { facts = joined x.own.facts facts }) x.own) other in
    let none : changed (learn m facts) x.children ≡ x.children = rw childless refl in
    found-changed (learn m facts) (learn_number m facts) n f x there ∙ (λ i. Some (record { own = same i; children = none i }))

-- ---- children

expand_number : (m : ℕ) (own : Own) → (expand_own m own).number ≡ own.number
expand_number m own = by (eqb own.number m)
  where
    by : (b : Bool) → (cond b (record own { mark = Expanded }) own).number ≡ own.number
    by true = refl
    by false = refl

none-new : (n next : ℕ) (path : List Board) (children : List Child) → n < next → node_at n (forest (new_nodes path next children)) ≡ None
none-new n next path [] low = refl
none-new n next path (child ∷ more) low =
    let other : eqb next n ≡ false = ne_eqb next n (λ e. omega (arith, low, e)) in
    rw other (none-new n (suc next) path more (omega (arith, low)))

abbrev Childless : ℕ → List Board → Forest → Type 0
Childless n path f = EachNode (λ above y. y.own.number ≡ n → y.children ≡ no_node) path f

module _ (n m : ℕ) (children : List Child) (next : ℕ) (differs : m ≡ n → ⊥) (low : n < next) where
  at_own : (b c : Bool) (own : Own) (below rest new : Forest) (under over others' : Option Node) → eqb own.number n ≡ b → eqb own.number m ≡ c
      → (b ≡ true → below ≡ no_node) → (c ≡ true → below ≡ no_node) → node_at n new ≡ None → node_at n rest ≡ under → under ≡ node_at n below → others' ≡ over → (below ≡ no_node → rest ≡ no_node)
      → cond b (Some (record { own = cond c (record own { mark = Expanded }) own; children = cond c new rest })) (or_else (node_at n (cond c new rest)) others')
      ≡ cond b (Some (record { own = own; children = below })) (or_else (node_at n below) over)
  at_own true true own below rest new under over others' is_n is_m p q fresh r s t u = absurd (differs (sym (eqb-true own.number m is_m) ∙ eqb-true own.number n is_n))
  at_own true false own below rest new under over others' is_n is_m p q fresh r s t u =
      let none = p refl in λ i. Some (record { own = own; children = (u none ∙ sym none) i })
  at_own false true own below rest new under over others' is_n is_m p q fresh r s t u =
      let none : node_at n below ≡ None = ap (node_at n) (q refl) in rw (fresh, none) t
  at_own false false own below rest new under over others' is_n is_m p q fresh r s t u = λ i. or_else ((r ∙ s) i) (t i)

  none_expanded : (path : List Board) (f : Forest) → f ≡ no_node → expanded m children next path f ≡ no_node
  none_expanded path f is = rw is refl

  pub stays-expanded : (path : List Board) (f : Forest) → Childless n path f → Childless m path f → node_at n (expanded m children next path f) ≡ node_at n f
  stays-expanded path no_node one two = refl
  stays-expanded path (node own below others) one two =
      let rest = expanded m children next (own.position ∷ path) below in
      let new = forest (new_nodes (own.position ∷ path) next children) in
      ap (λ k. cond (eqb k n) (Some (record { own = expand_own m own; children = cond (eqb own.number m) new rest })) (or_else (node_at n (cond (eqb own.number m) new rest)) (node_at n (expanded m children next path others)))) (expand_number m own)
      ∙ at_own (eqb own.number n) (eqb own.number m) own below rest new (node_at n below) (node_at n others) (node_at n (expanded m children next path others)) refl refl
      (λ t. one.0 (eqb-true own.number n t)) (λ t. two.0 (eqb-true own.number m t)) (none-new n next (own.position ∷ path) children low)
      (stays-expanded (own.position ∷ path) below one.1.0 two.1.0) refl (stays-expanded path others one.1.1 two.1.1) (none_expanded (own.position ∷ path) below)
