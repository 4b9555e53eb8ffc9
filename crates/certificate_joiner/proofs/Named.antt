-- Nodes of a forest by their numbers, and what holds of each.
use Rattle.std.proofs.Common.{◌≡◌, ℕ, ◌≤◌, ◌<◌, List, [], ◌∷◌, Bool, true, false, cond, eqb, length, get_or, slice_get, Option, Some, None, refl, sym, ◌∙◌, ap, subst, arith, inl, inr}
use Rattle.std.specs.Prelude.{All, Contains, IfSome, IsSome, IsSomeAnd, nat_lt}
use Rattle.std.proofs.lemmas.Bool.{false≢true, eqb-true}
use Rattle.std.proofs.lemmas.List.Elements.{All-cons, All-nil}
use Rattle.draughts_board.specs.Board.{Board}
use Rattle.draughts_board.proofs.Members.{Contains-nil, Contains-cons_cases}
use Rattle.proof_tree.specs.Forest.{Forest, no_node, node, Node, nodes, node_at, size}
use Rattle.proof_tree.specs.Sound.{EachNode, IsSoundForest, occurrences}
use Rattle.std.proofs.lemmas.Option.{slice_get-get_or, get_or_from_slice_get}
use Rattle.proof_tree.specs.Rows.{blank_node}
use Rattle.proof_tree.proofs.EachNode.{EachNode-at, found_where, missing_occurs, no_node-with, only_node}
use Rattle.certificate_joiner.specs.Strategy.{or_blank, named, IsNamed, FromNode, weight}

-- of each node of a list
pub All-both-nodes : (P Q : List Board → Node → Type 0) (path : List Board) (xs : Forest) → EachNode P path xs → EachNode Q path xs
    → All (λ x. FromNode P path x × FromNode Q path x) (nodes xs)
All-both-nodes P Q path no_node p q = All-nil (λ x. FromNode P path x × FromNode Q path x)
All-both-nodes P Q path (node own children others) p q =
    All-cons (λ x. FromNode P path x × FromNode Q path x) (record { own = own; children = children }) (nodes others)
    ((p.0, p.1.0), (q.0, q.1.0)) (All-both-nodes P Q path others p.1.1 q.1.1)

-- ---- by their numbers

-- what a call says of the node with a number, where there is one
pub said_of : (roots : Forest) (n : ℕ) (P : Node → Type 0) → IsNamed roots n → IfSome (node_at n roots) P → P (named roots n)
said_of roots n P some said = by (node_at n roots) some said
  where
    by : (o : Option Node) → IsSome o → IfSome o P → P (or_blank o)
    by None some said = absurd (false≢true some)
    by (Some x) some said = said

pub named_at : (roots : Forest) (n : ℕ) → IsNamed roots n → node_at n roots ≡ Some (named roots n)
named_at roots n some = by (node_at n roots) some
  where
    by : (o : Option Node) → IsSome o → o ≡ Some (or_blank o)
    by None some = absurd (false≢true some)
    by (Some x) some = refl

pub named_is : (roots : Forest) (n : ℕ) (x : Node) → node_at n roots ≡ Some x → IsNamed roots n × (named roots n ≡ x)
named_is roots n x is = (subst IsSome (sym is) refl, ap or_blank is)

-- the node that is found has the number
pub number_at : (n : ℕ) (t : Forest) (x : Node) → node_at n t ≡ Some x → x.own.number ≡ n
number_at n no_node x is = absurd cc
number_at n (node own children others) x is =
    elim (found_where (eqb own.number n) (record { own = own; children = children }) x (node_at n children) (node_at n others) is) [
      | inl (t, same) ↦ ap (λ (y : Node). y.own.number) (sym same) ∙ eqb-true own.number n t
      | inr (t, inl below) ↦ number_at n children x below
      | inr (t, inr (none, rest)) ↦ number_at n others x rest
    ]

pub number_named : (roots : Forest) (n : ℕ) → IsNamed roots n → (named roots n).own.number ≡ n
number_named roots n some = number_at n roots (named roots n) (named_at roots n some)

-- ---- each node is found by its number

one_at_most : (b : Bool) → cond b 1 0 ≤ 1
one_at_most true = omega arith
one_at_most false = omega arith

pub at_one_place : (roots : Forest) → IsSoundForest roots → (n : ℕ) → occurrences n roots ≤ 1
at_one_place roots sound n = subst (λ m. m ≤ 1) (sym (sound.numbered n)) (one_at_most (nat_lt n (size roots)))

-- what holds of each node holds from each node on
EachNode-from : (P : List Board → Node → Type 0) (path : List Board) (t : Forest) → EachNode P path t → EachNode (FromNode P) path t
EachNode-from P path no_node e = tt
EachNode-from P path (node own children others) e =
    ((e.0, e.1.0), (EachNode-from P (own.position ∷ path) children e.1.0, EachNode-from P path others e.1.1))

pub EachNode-contains : (P : List Board → Node → Type 0) (path : List Board) (xs : Forest) → EachNode P path xs → (x : Node) → Contains (nodes xs) x → FromNode P path x
EachNode-contains P path no_node each x there = absurd (Contains-nil x there)
EachNode-contains P path (node own children xs) each x there =
    elim (Contains-cons_cases (record { own = own; children = children }) (nodes xs) x there) [
      | inl is ↦ subst (FromNode P path) is (each.0, each.1.0)
      | inr rest ↦ EachNode-contains P path xs each.1.1 x rest
    ]

child_holds : (P : List Board → Node → Type 0) (roots : Forest) → EachNode P [] roots → (n : ℕ) (x c : Node) → node_at n roots ≡ Some x → Contains (nodes x.children) c
    → (above : List Board) × P above c
child_holds P roots each n x c is there =
    let here = EachNode-at (FromNode P) n [] roots x (EachNode-from P [] roots each) is in
    (x.own.position ∷ here.0, (EachNode-contains P (x.own.position ∷ here.0) x.children here.1.1 c there).0)

-- a child of a node that is found is found
pub child_found : (roots : Forest) → IsSoundForest roots → (n : ℕ) (x c : Node) → node_at n roots ≡ Some x → Contains (nodes x.children) c
    → node_at c.own.number roots ≡ Some c
child_found roots sound n x c is there = by (node_at c.own.number roots) refl
  where
    m : ℕ
    m = c.own.number

    by : (o : Option Node) → node_at m roots ≡ o → node_at m roots ≡ Some c
    by None none =
        absurd ((child_holds (λ above y. y.own.number ≡ m → ⊥) roots (no_node-with m [] roots (missing_occurs m roots none)) n x c is there).1 refl)
    by (Some z) found =
        found ∙ ap Some (sym ((child_holds (λ above y. y.own.number ≡ m → y ≡ z) roots (only_node m [] roots z found (at_one_place roots sound m)) n x c is there).1 refl))

-- and so is a root
pub root_found : (roots : Forest) → IsSoundForest roots → (x : Node) → Contains (nodes roots) x → node_at x.own.number roots ≡ Some x
root_found roots sound x there = by (node_at x.own.number roots) refl
  where
    m : ℕ
    m = x.own.number

    by : (o : Option Node) → node_at m roots ≡ o → node_at m roots ≡ Some x
    by None none =
        absurd ((EachNode-contains (λ above y. y.own.number ≡ m → ⊥) [] roots (no_node-with m [] roots (missing_occurs m roots none)) x there).0 refl)
    by (Some z) found =
        found ∙ ap Some (sym ((EachNode-contains (λ above y. y.own.number ≡ m → y ≡ z) [] roots (only_node m [] roots z found (at_one_place roots sound m)) x there).0 refl))

-- ---- children by their places

get_or_same : (xs : List Node) (place : ℕ) → place < length xs → get_or xs place (get_or xs place blank_node) ≡ get_or xs place blank_node
get_or_same xs place within = get_or_from_slice_get xs place (get_or xs place blank_node) (get_or xs place blank_node) (slice_get-get_or xs place blank_node within)

-- what a call says of the child of a node at a place, where there is one
pub child_there : (roots : Forest) (n place : ℕ) → IsNamed roots n → place < length (nodes (named roots n).children)
    → IsSomeAnd (node_at n roots) (λ x. place < length (nodes x.children))
child_there roots n place some within = by (node_at n roots) some within
  where
    by : (o : Option Node) → IsSome o → place < length (nodes (or_blank o).children) → IsSomeAnd o (λ x. place < length (nodes x.children))
    by None some within = absurd (false≢true some)
    by (Some x) some within = within

pub child_is : (roots : Forest) → IsSoundForest roots → (n place c : ℕ) → IsNamed roots n → place < length (nodes (named roots n).children)
    → IfSome (node_at n roots) (λ x. IfSome (slice_get (nodes x.children) place) (λ child. c ≡ child.own.number))
    → IsNamed roots c × (slice_get (nodes (named roots n).children) place ≡ Some (named roots c))
child_is roots sound n place c some within said =
    let xs = nodes (named roots n).children in
    let x = get_or xs place blank_node in
    let here : slice_get xs place ≡ Some x = slice_get-get_or xs place blank_node within in
    let numbered : c ≡ x.own.number =
    subst (λ (o : Option Node). IfSome o (λ child. c ≡ child.own.number)) here
    (said_of roots n (λ y. IfSome (slice_get (nodes y.children) place) (λ child. c ≡ child.own.number)) some said) in
    let found : node_at c roots ≡ Some x =
    ap (λ m. node_at m roots) numbered ∙ child_found roots sound n (named roots n) x (named_at roots n some) (place, within, get_or_same xs place within) in
    let is = named_is roots c x found in
    (is.0, here ∙ ap Some (sym is.1))

-- a root by its place
pub root_is : (roots : Forest) → IsSoundForest roots → (place n : ℕ) → place < length (nodes roots)
    → IfSome (slice_get (nodes roots) place) (λ x. n ≡ x.own.number)
    → IsNamed roots n × ((slice_get (nodes roots) place ≡ Some (named roots n)) × Contains (nodes roots) (named roots n))
root_is roots sound place n within said =
    let xs = nodes roots in
    let x = get_or xs place blank_node in
    let here : slice_get xs place ≡ Some x = slice_get-get_or xs place blank_node within in
    let there : Contains xs x = (place, within, get_or_same xs place within) in
    let numbered : n ≡ x.own.number = subst (λ (o : Option Node). IfSome o (λ child. n ≡ child.own.number)) here said in
    let found : node_at n roots ≡ Some x = ap (λ m. node_at m roots) numbered ∙ root_found roots sound x there in
    let is = named_is roots n x found in
    (is.0, (here ∙ ap Some (sym is.1), subst (Contains xs) (sym is.1) there))

-- ---- how many nodes there are

-- no more stand from a node down than in the forest
pub weight_at : (n : ℕ) (t : Forest) (x : Node) → node_at n t ≡ Some x → weight x ≤ size t
weight_at n no_node x is = absurd cc
weight_at n (node own children others) x is =
    elim (found_where (eqb own.number n) (record { own = own; children = children }) x (node_at n children) (node_at n others) is) [
      | inl (t, same) ↦ (let e : size children ≡ size x.children = ap (λ (y : Node). size y.children) same in omega arith)
      | inr (t, inl below) ↦ (let le = weight_at n children x below in omega arith)
      | inr (t, inr (none, rest)) ↦ (let le = weight_at n others x rest in omega arith)
    ]
