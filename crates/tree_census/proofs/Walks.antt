-- What the stops of a walk still have below them.
use Rattle.std.proofs.Common.{◌≡◌, ℕ, ◌+◌, ◌≤◌, List, [], ◌∷◌, ◌++◌, Bool, true, false, map, length, take, get_or, slice_get, Option, Some, None, ◌<◌, append_assoc, refl, sym, ◌∙◌, ap, subst, arith}
use Rattle.std.specs.declared.alloc.AllocError.{AllocError}
use Rattle.std.specs.Prelude.{Result, Ok, Err, IfOk, ◌&&◌, not, All, Contains, IfSome, IsSome, sum_by, if◌then◌else◌}
use Rattle.std.proofs.lemmas.List.Sums.{sum_by-append, sum_by-cons, sum_by_push}
use Rattle.std.proofs.lemmas.List.Elements.{All-nil, All-cons, All-append, All-head, All-tail, Contains-append_right}
use Rattle.draughts_board.specs.declared.pieces.Side.{Side}
use Rattle.proof_numbers.specs.Numbers.{is_resolved}
use Rattle.proof_tree.specs.Forest.{goal_of, Forest, no_node, node, Node, nodes, node_at, node_numbers, numbers, numbers_at, size}
use Rattle.proof_tree.specs.Sound.{IsSoundForest}
use Rattle.certificate_joiner.specs.Strategy.{IsNamed, named}
use Rattle.certificate_joiner.proofs.Named.{child_found, named_at, named_is, weight_at}
use Rattle.proof_tree.specs.declared.rows.Mark.{Mark}
use Rattle.proof_tree.specs.declared.rows.Mark.TheVariants.{Unexpanded, Expanded, Repeats}
use Rattle.std.proofs.lemmas.List.{map-append, take_more}
use Rattle.std.proofs.lemmas.Option.{get_or_from_slice_get}
use Rattle.tree_census.specs.Censuses.{IsCensus, is_open_at, open_leaves, own_leaf, stops, tree_census, tree_of}
use Rattle.tree_census.specs.declared.counting.Census.{Census}
use Rattle.tree_census.specs.declared.counting.Stop.{Stop}

-- how many nodes stand below a stop, and how many open leaves
abbrev pub nodes_at : Forest → Stop → ℕ
nodes_at roots stop = size (tree_of (named roots stop.node))

abbrev pub leaves_at : Side → Forest → Stop → ℕ
leaves_at goal roots stop = if stop.is_open then open_leaves goal (tree_of (named roots stop.node)) else 0

abbrev pub AreFound : Forest → List Stop → Type 0
AreFound roots waiting = All (λ (stop : Stop). IsNamed roots stop.node) waiting

-- ---- the children of a node

module _ (roots : Forest) where
  -- each node of the list is found by its number
  abbrev Found : Forest → Type 0
  Found no_node = Unit {0}
  Found (node own children others) = (node_at own.number roots ≡ Some (record { own = own; children = children })) × Found others

  found_all : (xs : Forest) → ((x : Node) → Contains (nodes xs) x → node_at x.own.number roots ≡ Some x) → Found xs
  found_all no_node each = tt
  found_all (node own children others) each = (
    each (record { own = own; children = children }) (0, omega arith, refl),
    found_all others (λ x there. each x (later x there)),
  )
    where
      later : (x : Node) → Contains (nodes others) x → Contains (record { own = own; children = children } ∷ nodes others) x
      later x there = Contains-append_right (record { own = own; children = children } ∷ []) (nodes others) x there

  named_here : (x : Node) → node_at x.own.number roots ≡ Some x → IsNamed roots x.own.number × (named roots x.own.number ≡ x)
  named_here x is = named_is roots x.own.number x is

  sizes : (b : Bool) (xs : Forest) → Found xs → sum_by (nodes_at roots) (stops b (nodes xs)) ≡ size xs
  sizes b no_node found = refl
  sizes b (node own children others) (here, found) =
      let x : Node = record { own = own; children = children } in
      let e : nodes_at roots (record { node = own.number; is_open = b }) ≡ 1 + size children + 0 = ap (λ (y : Node). size (tree_of y)) (named_here x here).1 in
      let rest = sizes b others found in
      let split = sum_by-cons (nodes_at roots) (record { node = own.number; is_open = b }) (stops b (nodes others)) in
      omega (arith, e, rest, split)

  closed : (goal : Side) (xs : Forest) → sum_by (leaves_at goal roots) (stops false (nodes xs)) ≡ 0
  closed goal no_node = refl
  closed goal (node own children others) =
      let rest = closed goal others in
      let split = sum_by-cons (leaves_at goal roots) (record { node = own.number; is_open = false }) (stops false (nodes others)) in
      omega (arith, rest, split)

  open_ones : (goal : Side) (xs : Forest) → Found xs → sum_by (leaves_at goal roots) (stops true (nodes xs)) ≡ open_leaves goal xs
  open_ones goal no_node found = refl
  open_ones goal (node own children others) (here, found) =
      let x : Node = record { own = own; children = children } in
      let e : leaves_at goal roots (record { node = own.number; is_open = true }) ≡ open_leaves goal (tree_of x) = ap (λ (y : Node). open_leaves goal (tree_of y)) (named_here x here).1 in
      let rest = open_ones goal others found in
      let split = sum_by-cons (leaves_at goal roots) (record { node = own.number; is_open = true }) (stops true (nodes others)) in
      omega (arith, e, rest, split)

  all_found : (b : Bool) (xs : Forest) → Found xs → AreFound roots (stops b (nodes xs))
  all_found b no_node found = All-nil (λ (stop : Stop). IsNamed roots stop.node)
  all_found b (node own children others) (here, found) =
      All-cons (λ (stop : Stop). IsNamed roots stop.node) (record { node = own.number; is_open = b }) (stops b (nodes others)) (named_here (record { own = own; children = children }) here).0 (all_found b others found)

  children_found : IsSoundForest roots → (n : ℕ) → IsNamed roots n → Found (named roots n).children
  children_found sound n some = found_all (named roots n).children (λ x there. child_found roots sound n (named roots n) x (named_at roots n some) there)

-- the stops of the first children, and of one more
pub stops_more : (b : Bool) (w ys : List Stop) (xs : List Node) (i c : ℕ) (x : Node) → i < length xs → slice_get xs i ≡ Some x → x.own.number ≡ c → ys ≡ w ++ stops b (take i xs)
    → ys ++ record { node = c; is_open = b } ∷ [] ≡ w ++ stops b (take (i + 1) xs)
stops_more b w ys xs i c x within is number front =
    let stop_of : Node → Stop = λ (y : Node). record { node = y.own.number; is_open = b } in
    let here : get_or xs i x ≡ x = get_or_from_slice_get xs i x x is in
    let more : take (i + 1) xs ≡ take i xs ++ x ∷ [] = take_more xs i x within ∙ ap (λ (y : Node). take i xs ++ y ∷ []) here in
    let split : stops b (take (i + 1) xs) ≡ stops b (take i xs) ++ record { node = c; is_open = b } ∷ [] =
    ap (λ (l : List Node). map stop_of l) more ∙ (map-append stop_of (take i xs) (x ∷ []) ∙ ap (λ n. stops b (take i xs) ++ record { node = n; is_open = b } ∷ []) number) in
    ap (λ (l : List Stop). l ++ record { node = c; is_open = b } ∷ []) front ∙ (append_assoc w (stops b (take i xs)) (record { node = c; is_open = b } ∷ []) ∙ ap (λ (l : List Stop). w ++ l) (sym split))

-- ---- no more leaves than nodes

leaf_or_none : (mark : Mark) → own_leaf mark ≤ 1
leaf_or_none Unexpanded = omega arith
leaf_or_none Expanded = omega arith
leaf_or_none Repeats = omega arith

one_leaf : (r : Bool) (m k n : ℕ) → m ≤ 1 → k ≤ n → (if r then 0 else m + k) ≤ 1 + n
one_leaf true m k n a b = omega arith
one_leaf false m k n a b = omega (arith, a, b)

leaves_in_nodes : (goal : Side) (t : Forest) → open_leaves goal t ≤ size t
leaves_in_nodes goal no_node = omega arith
leaves_in_nodes goal (node own children others) =
    let below = leaves_in_nodes goal children in
    let beside = leaves_in_nodes goal others in
    let here = one_leaf (is_resolved (numbers_at goal own (numbers goal children))) (own_leaf own.mark) (open_leaves goal children) (size children) (leaf_or_none own.mark) below in
    omega (arith, here, beside)

-- ---- a step of the walk

-- What is counted and what is still to be counted are together the whole.
pub record Counts (goal : Side) (roots : Forest) (top : ℕ) (waiting : List Stop) (nodes_counted leaves_counted : ℕ) : Type 0 where
  pub found : AreFound roots waiting
  pub nodes_are : nodes_counted + sum_by (nodes_at roots) waiting ≡ (tree_census goal (named roots top)).nodes
  pub leaves_are : leaves_counted + sum_by (leaves_at goal roots) waiting ≡ (tree_census goal (named roots top)).open_leaves

pub counts_first : (goal : Side) (roots : Forest) (top : ℕ) → IsNamed roots top → Counts goal roots top (record { node = top; is_open = true } ∷ []) 0 0
counts_first goal roots top some = record {
  found = All-cons (λ (stop : Stop). IsNamed roots stop.node) (record { node = top; is_open = true }) [] some (All-nil (λ (stop : Stop). IsNamed roots stop.node));
  nodes_are =
      (let e : sum_by (nodes_at roots) (record { node = top; is_open = true } ∷ []) ≡ 0 + nodes_at roots (record { node = top; is_open = true }) = refl in
      let s : nodes_at roots (record { node = top; is_open = true }) ≡ (tree_census goal (named roots top)).nodes = refl in
      omega (arith, e, s));
  leaves_are =
      (let e : sum_by (leaves_at goal roots) (record { node = top; is_open = true } ∷ []) ≡ 0 + leaves_at goal roots (record { node = top; is_open = true }) = refl in
      let s : leaves_at goal roots (record { node = top; is_open = true }) ≡ (tree_census goal (named roots top)).open_leaves = refl in
      omega (arith, e, s));
}

pub counts_last : (goal : Side) (roots : Forest) (top : ℕ) (n l : ℕ) → Counts goal roots top [] n l → record { nodes = n; open_leaves = l } ≡ tree_census goal (named roots top)
counts_last goal roots top n l counts =
    let a : n ≡ (tree_census goal (named roots top)).nodes = (let h = counts.nodes_are in omega (arith, h)) in
    let b : l ≡ (tree_census goal (named roots top)).open_leaves = (let h = counts.leaves_are in omega (arith, h)) in
    λ i. record { nodes = a i; open_leaves = b i }

-- the leaves of a stop, by whether it is open
leaves_of : (goal : Side) (roots : Forest) (stop : Stop) (here : Bool) → here ≡ is_open_at goal roots stop
    → leaves_at goal roots stop ≡ (if here then own_leaf (named roots stop.node).own.mark + open_leaves goal (named roots stop.node).children else 0)
leaves_of goal roots stop here is = by stop.is_open (is_resolved (node_numbers goal (named roots stop.node))) refl refl
  where
    x : Node
    x = named roots stop.node

    by : (o r : Bool) → stop.is_open ≡ o → is_resolved (node_numbers goal x) ≡ r
        → leaves_at goal roots stop ≡ (if here then own_leaf x.own.mark + open_leaves goal x.children else 0)
    by true true eo er = rw (is, eo, er) refl
    by true false eo er = rw (is, eo, er) (omega arith)
    by false r eo er = rw (is, eo) refl

-- in front of the last, and the last
front_found : (roots : Forest) (front : List Stop) (stop : Stop) → AreFound roots (front ++ stop ∷ []) → AreFound roots front × IsNamed roots stop.node
front_found roots [] stop found = (All-nil (λ (s : Stop). IsNamed roots s.node), All-head (λ (s : Stop). IsNamed roots s.node) stop [] found)
front_found roots (first ∷ front) stop found =
    let rest = front_found roots front stop (All-tail (λ (s : Stop). IsNamed roots s.node) first (front ++ stop ∷ []) found) in
    (All-cons (λ (s : Stop). IsNamed roots s.node) first front (All-head (λ (s : Stop). IsNamed roots s.node) first (front ++ stop ∷ []) found) rest.0, rest.1)

pub stop_named : (goal : Side) (roots : Forest) (top : ℕ) (front : List Stop) (stop : Stop) (n l : ℕ) → Counts goal roots top (front ++ stop ∷ []) n l → IsNamed roots stop.node
stop_named goal roots top front stop n l counts = (front_found roots front stop counts.found).1

-- a stop is taken, and its children stand behind those that still wait
module _ (goal : Side) (roots : Forest) (sound : IsSoundForest roots) (top : ℕ) (front : List Stop) (stop : Stop) (n l : ℕ) (counts : Counts goal roots top (front ++ stop ∷ []) n l) where
  some : IsNamed roots stop.node
  some = (front_found roots front stop counts.found).1

  below : Found roots (named roots stop.node).children
  below = children_found roots sound stop.node some

  leaves_below : (here : Bool)
      → sum_by (leaves_at goal roots) (stops here (nodes (named roots stop.node).children)) ≡ (if here then open_leaves goal (named roots stop.node).children else 0)
  leaves_below true = open_ones roots goal (named roots stop.node).children below
  leaves_below false = closed roots goal (named roots stop.node).children

  added : (here : Bool) (m : ℕ)
      → (if here then m + open_leaves goal (named roots stop.node).children else 0) ≡ (if here then m else 0) + (if here then open_leaves goal (named roots stop.node).children else 0)
  added true m = refl
  added false m = refl

  pub counts_next : (here : Bool) → here ≡ is_open_at goal roots stop
      → Counts goal roots top (front ++ stops here (nodes (named roots stop.node).children)) (n + 1) (l + (if here then own_leaf (named roots stop.node).own.mark else 0))
  counts_next here is =
      let old = sum_by_push (nodes_at roots) front stop in
      let new = sum_by-append (nodes_at roots) front (stops here (nodes (named roots stop.node).children)) in
      let below_sizes = sizes roots here (named roots stop.node).children below in
      let was = counts.nodes_are in
      let old_leaves = sum_by_push (leaves_at goal roots) front stop in
      let new_leaves = sum_by-append (leaves_at goal roots) front (stops here (nodes (named roots stop.node).children)) in
      let own = leaves_of goal roots stop here is ∙ added here (own_leaf (named roots stop.node).own.mark) in
      let rest = leaves_below here in
      let had = counts.leaves_are in
      record {
        found = All-append (λ (s : Stop). IsNamed roots s.node) front (stops here (nodes (named roots stop.node).children)) (front_found roots front stop counts.found).0
            (all_found roots here (named roots stop.node).children below);
        nodes_are = omega (arith, old, new, below_sizes, was);
        leaves_are = omega (arith, old_leaves, new_leaves, own, rest, had);
      }

  -- no more are counted than there are
  pub counts_few : (here : Bool) → here ≡ is_open_at goal roots stop → IsNamed roots top
      → (n + 1 ≤ size roots) × (l + (if here then own_leaf (named roots stop.node).own.mark else 0) ≤ size roots)
  counts_few here is there =
      let next = counts_next here is in
      let whole : size (named roots top).children + 1 ≤ size roots = (let w = weight_at top roots (named roots top) (named_at roots top there) in omega (arith, w)) in
      let within = leaves_in_nodes goal (tree_of (named roots top)) in
      let a = next.nodes_are in
      let b = next.leaves_are in
      (omega (arith, whole, a), omega (arith, whole, within, b))

  -- fewer are still to be counted
  pub counts_fewer : (here : Bool) → sum_by (nodes_at roots) (front ++ stops here (nodes (named roots stop.node).children)) + 1 ≡ sum_by (nodes_at roots) (front ++ stop ∷ [])
  counts_fewer here =
      let old = sum_by_push (nodes_at roots) front stop in
      let new = sum_by-append (nodes_at roots) front (stops here (nodes (named roots stop.node).children)) in
      let below_sizes = sizes roots here (named roots stop.node).children below in
      omega (arith, old, new, below_sizes)

-- ---- the census of a root

pub census_answer : (s : Option Node) (x : Node) (g : Side) (found : Result Census AllocError) → s ≡ Some x → g ≡ goal_of x → IfOk found (λ census. census ≡ tree_census g x)
    → IfOk found (λ census. IfSome s (IsCensus census))
census_answer s x g (Ok census) at goal is = subst (λ (o : Option Node). IfSome o (IsCensus census)) (sym at) (is ∙ ap (λ (side : Side). tree_census side x) goal)
census_answer s x g (Err e) at goal is = tt

pub empty : (ws : List Stop) → length ws ≡ 0 → ws ≡ []
empty [] none = refl
empty (w ∷ ws) none = absurd (omega (arith, none))
