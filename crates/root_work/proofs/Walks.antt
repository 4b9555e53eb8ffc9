-- What the nodes that wait on a walk still weigh.
use Rattle.std.proofs.Common.{◌≡◌, ℕ, ◌+◌, ◌<◌, ◌≤◌, List, [], ◌∷◌, ◌++◌, map, length, take, get_or, slice_get, Option, Some, None, append_assoc, eqb, ⊎_elim, refl, sym, ◌∙◌, ap, subst, arith}
use Rattle.std.specs.Prelude.{All, Contains, sum_by}
use Rattle.std.proofs.lemmas.List.Sums.{sum_by-append, sum_by-cons, sum_by_push}
use Rattle.std.proofs.lemmas.List.Elements.{All-nil, All-cons, All-append, All-head, All-tail, Contains-append_right}
use Rattle.std.proofs.lemmas.List.{map-append, take_more}
use Rattle.std.proofs.lemmas.Option.{get_or_from_slice_get}
use Rattle.certificate_joiner.specs.Strategy.{IsNamed, named}
use Rattle.certificate_joiner.proofs.Named.{child_found, named_at, named_is, number_named}
use Rattle.proof_tree.proofs.EachNode.{found_where}
use Rattle.proof_tree.specs.Forest.{Forest, no_node, node, Node, nodes, node_at}
use Rattle.proof_tree.specs.Sound.{IsSoundForest}
use Rattle.tree_census.specs.Censuses.{tree_of}
use Rattle.root_work.specs.Work.{weight_of}

abbrev pub number_of : Node → ℕ
number_of x = x.own.number

-- what the tree of a node weighs
abbrev pub weight_at : (ℕ → ℕ) → Forest → ℕ → ℕ
weight_at f roots n = weight_of f (tree_of (named roots n))

abbrev pub AreNamed : Forest → List ℕ → Type 0
AreNamed roots waiting = All (λ (n : ℕ). IsNamed roots n) waiting

-- ---- the children of a node

-- each node of the list is found by its number
abbrev Found : Forest → Forest → Type 0
Found roots no_node = Unit {0}
Found roots (node own children others) = (node_at own.number roots ≡ Some (record { own = own; children = children })) × Found roots others

found_all : (roots xs : Forest) → ((x : Node) → Contains (nodes xs) x → node_at x.own.number roots ≡ Some x) → Found roots xs
found_all roots no_node each = tt
found_all roots (node own children others) each = (
  each (record { own = own; children = children }) (0, omega arith, refl),
  found_all roots others (λ x there. each x (later x there)),
)
  where
    later : (x : Node) → Contains (nodes others) x → Contains (record { own = own; children = children } ∷ nodes others) x
    later x there = Contains-append_right (record { own = own; children = children } ∷ []) (nodes others) x there

children_found : (roots : Forest) → IsSoundForest roots → (n : ℕ) → IsNamed roots n → Found roots (named roots n).children
children_found roots sound n some = found_all roots (named roots n).children (λ x there. child_found roots sound n (named roots n) x (named_at roots n some) there)

weights : (f : ℕ → ℕ) (roots xs : Forest) → Found roots xs → sum_by (weight_at f roots) (map number_of (nodes xs)) ≡ weight_of f xs
weights f roots no_node found = refl
weights f roots (node own children others) (here, found) =
    let x : Node = record { own = own; children = children } in
    let e : weight_at f roots own.number ≡ f own.number + weight_of f children + 0 = ap (λ (y : Node). weight_of f (tree_of y)) (named_is roots own.number x here).1 in
    let rest = weights f roots others found in
    let split = sum_by-cons (weight_at f roots) own.number (map number_of (nodes others)) in
    omega (arith, e, rest, split)

all_named : (roots xs : Forest) → Found roots xs → AreNamed roots (map number_of (nodes xs))
all_named roots no_node found = All-nil (λ (n : ℕ). IsNamed roots n)
all_named roots (node own children others) (here, found) =
    All-cons (λ (n : ℕ). IsNamed roots n) own.number (map number_of (nodes others)) (named_is roots own.number (record { own = own; children = children }) here).0 (all_named roots others found)

-- the numbers of the first children, and of one more
pub numbers_more : (w ys : List ℕ) (xs : List Node) (i c : ℕ) (x : Node) → i < length xs → slice_get xs i ≡ Some x → x.own.number ≡ c → ys ≡ w ++ map number_of (take i xs)
    → ys ++ c ∷ [] ≡ w ++ map number_of (take (i + 1) xs)
numbers_more w ys xs i c x within is number front =
    let here : get_or xs i x ≡ x = get_or_from_slice_get xs i x x is in
    let more : take (i + 1) xs ≡ take i xs ++ x ∷ [] = take_more xs i x within ∙ ap (λ (y : Node). take i xs ++ y ∷ []) here in
    let split : map number_of (take (i + 1) xs) ≡ map number_of (take i xs) ++ c ∷ [] =
    ap (λ (l : List Node). map number_of l) more ∙ (map-append number_of (take i xs) (x ∷ []) ∙ ap (λ n. map number_of (take i xs) ++ n ∷ []) number) in
    ap (λ (l : List ℕ). l ++ c ∷ []) front ∙ (append_assoc w (map number_of (take i xs)) (c ∷ []) ∙ ap (λ (l : List ℕ). w ++ l) (sym split))

-- ---- a step of the walk

-- What is summed up and what still waits are together the whole.
pub record Weighs (f : ℕ → ℕ) (roots : Forest) (top : ℕ) (waiting : List ℕ) (weight : ℕ) : Type 0 where
  pub found : AreNamed roots waiting
  pub whole : weight + sum_by (weight_at f roots) waiting ≡ weight_at f roots top

pub weighs_first : (f : ℕ → ℕ) (roots : Forest) (top : ℕ) → IsNamed roots top → Weighs f roots top (top ∷ []) 0
weighs_first f roots top some = record {
  found = All-cons (λ (n : ℕ). IsNamed roots n) top [] some (All-nil (λ (n : ℕ). IsNamed roots n));
  whole = (let e : sum_by (weight_at f roots) (top ∷ []) ≡ 0 + weight_at f roots top = refl in omega (arith, e));
}

pub weighs_last : (f : ℕ → ℕ) (roots : Forest) (top weight : ℕ) → Weighs f roots top [] weight → weight ≡ weight_at f roots top
weighs_last f roots top weight weighs = (let h = weighs.whole in omega (arith, h))

-- in front of the last, and the last
front_named : (roots : Forest) (front : List ℕ) (n : ℕ) → AreNamed roots (front ++ n ∷ []) → AreNamed roots front × IsNamed roots n
front_named roots [] n found = (All-nil (λ (m : ℕ). IsNamed roots m), All-head (λ (m : ℕ). IsNamed roots m) n [] found)
front_named roots (first ∷ front) n found =
    let rest = front_named roots front n (All-tail (λ (m : ℕ). IsNamed roots m) first (front ++ n ∷ []) found) in
    (All-cons (λ (m : ℕ). IsNamed roots m) first front (All-head (λ (m : ℕ). IsNamed roots m) first (front ++ n ∷ []) found) rest.0, rest.1)

pub last_named : (f : ℕ → ℕ) (roots : Forest) (top : ℕ) (front : List ℕ) (n weight : ℕ) → Weighs f roots top (front ++ n ∷ []) weight → IsNamed roots n
last_named f roots top front n weight weighs = (front_named roots front n weighs.found).1

own_weight : (f : ℕ → ℕ) (roots : Forest) (n : ℕ) → IsNamed roots n → weight_at f roots n ≡ f n + weight_of f (named roots n).children
own_weight f roots n some =
    let e : weight_at f roots n ≡ f (named roots n).own.number + weight_of f (named roots n).children + 0 = refl in
    let is : f (named roots n).own.number ≡ f n = ap f (number_named roots n some) in
    omega (arith, e, is)

-- a node is taken, and its children stand behind those that still wait
pub weighs_next : (f : ℕ → ℕ) (roots : Forest) → IsSoundForest roots → (top : ℕ) (front : List ℕ) (n weight : ℕ) → Weighs f roots top (front ++ n ∷ []) weight
    → Weighs f roots top (front ++ map number_of (nodes (named roots n).children)) (weight + f n)
weighs_next f roots sound top front n weight weighs =
    let found = front_named roots front n weighs.found in
    let below = children_found roots sound n found.1 in
    let old = sum_by_push (weight_at f roots) front n in
    let new = sum_by-append (weight_at f roots) front (map number_of (nodes (named roots n).children)) in
    let under = weights f roots (named roots n).children below in
    let own = own_weight f roots n found.1 in
    let was = weighs.whole in
    record {
      found = All-append (λ (m : ℕ). IsNamed roots m) front (map number_of (nodes (named roots n).children)) found.0 (all_named roots (named roots n).children below);
      whole = omega (arith, old, new, under, own, was);
    }

-- fewer nodes still wait
abbrev pub count_waiting : Forest → List ℕ → ℕ
count_waiting roots waiting = sum_by (weight_at (λ n. 1) roots) waiting

pub waiting_fewer : (roots : Forest) → IsSoundForest roots → (front : List ℕ) (n : ℕ) → AreNamed roots (front ++ n ∷ [])
    → count_waiting roots (front ++ map number_of (nodes (named roots n).children)) + 1 ≡ count_waiting roots (front ++ n ∷ [])
waiting_fewer roots sound front n named_all =
    let found = front_named roots front n named_all in
    let below = children_found roots sound n found.1 in
    let old = sum_by_push (weight_at (λ n. 1) roots) front n in
    let new = sum_by-append (weight_at (λ n. 1) roots) front (map number_of (nodes (named roots n).children)) in
    let under = weights (λ n. 1) roots (named roots n).children below in
    let own = own_weight (λ n. 1) roots n found.1 in
    omega (arith, old, new, under, own)

-- ---- no node weighs more than all of them

pub top_within : (f : ℕ → ℕ) (roots : Forest) (n : ℕ) → IsNamed roots n → weight_at f roots n ≤ weight_of f roots
top_within f roots n some = by roots (named roots n) (named_at roots n some)
  where
    by : (t : Forest) (x : Node) → node_at n t ≡ Some x → weight_of f (tree_of x) ≤ weight_of f t
    by no_node x is = absurd cc
    by (node own children others) x is =
        ⊎_elim (λ h. subst (λ (y : Node). weight_of f (tree_of y) ≤ weight_of f (node own children others)) h.1 (omega arith))
        (λ h. ⊎_elim (λ b. let le = by children x b in omega (arith, le)) (λ o. let le = by others x o.1 in omega (arith, le)) h.1)
        (found_where (eqb own.number n) (record { own = own; children = children }) x (node_at n children) (node_at n others) is)

pub empty : (ws : List ℕ) → length ws ≡ 0 → ws ≡ []
empty [] none = refl
empty (w ∷ ws) none = absurd (omega (arith, none))

pub no_overflow : (a b rest top whole limit : ℕ) → a + b + rest ≡ top → top ≤ whole → whole < limit → a + b < limit
no_overflow a b rest top whole limit is within few = omega (arith, is, within, few)
