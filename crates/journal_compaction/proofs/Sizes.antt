-- How many nodes there are when a leaf is expanded.
use Rattle.std.proofs.Common.{◌≡◌, ℕ, suc, ◌+◌, ◌≤◌, Bool, true, false, cond, eqb, ⊎_elim, List, [], ◌∷◌, length, Some, refl, sym, ap, ◌∙◌, arith}
use Rattle.std.proofs.lemmas.Bool.{false≢true, true≢false}
use Rattle.draughts_board.specs.Board.{Board}
use Rattle.proof_numbers.specs.declared.leaves.Child.{Child}
use Rattle.proof_tree.specs.Forest.{Forest, no_node, node, Node, node_at, forest, size}
use Rattle.proof_tree.specs.Changes.{new_nodes, expanded, with_children}
use Rattle.proof_tree.specs.Sound.{IsSoundForest, occurrences}
use Rattle.proof_tree.proofs.EachNode.{found_where, found_occurs, missing_occurs}
use Rattle.proof_tree.proofs.Numbered.{at_most_once}

size_new : (path : List Board) (next : ℕ) (children : List Child) → size (forest (new_nodes path next children)) ≡ length children
size_new path next [] = refl
size_new path next (c ∷ children) = let rest = size_new path (suc next) children in omega (arith, rest)

pub zero_by : (b : Bool) (m l : ℕ) → cond b 1 0 + (m + l) ≡ 0 → (b ≡ false) × ((m ≡ 0) × (l ≡ 0))
zero_by true m l e = absurd (omega arith)
zero_by false m l e = (refl, (omega arith, omega arith))

pub few_by : (b : Bool) (m l : ℕ) → cond b 1 0 + (m + l) ≤ 1 → (b ≡ true → (m ≡ 0) × (l ≡ 0)) × ((m ≤ 1) × ((l ≤ 1) × (1 ≤ m → l ≡ 0)))
few_by true m l e = (λ h. (omega arith, omega arith), (omega arith, (omega arith, λ h. omega arith)))
few_by false m l e = (λ h. absurd (false≢true h), (omega arith, (omega arith, λ h. omega arith)))

size_if : (b : Bool) (x y : Forest) (n : ℕ) → (b ≡ true → size x ≡ n) → (b ≡ false → size y ≡ n) → size (cond b x y) ≡ n
size_if true x y n p q = p refl
size_if false x y n p q = q refl

-- where the number does not stand, nothing is added
size_absent : (n : ℕ) (children : List Child) (next : ℕ) (path : List Board) (t : Forest) → occurrences n t ≡ 0 → size (expanded n children next path t) ≡ size t
size_absent n children next path no_node e = refl
size_absent n children next path (node own below others) e =
    let z = zero_by (eqb own.number n) (occurrences n below) (occurrences n others) e in
    let here : size (cond (eqb own.number n) (forest (new_nodes (own.position ∷ path) next children)) (expanded n children next (own.position ∷ path) below)) ≡ size below =
    size_if (eqb own.number n) (forest (new_nodes (own.position ∷ path) next children)) (expanded n children next (own.position ∷ path) below) (size below)
    (λ t. absurd (true≢false (sym t ∙ z.0))) (λ t. size_absent n children next (own.position ∷ path) below z.1.0) in
    let rest = size_absent n children next path others z.1.1 in
    omega (arith, here, rest)

size_at : (n : ℕ) (children : List Child) (next : ℕ) (path : List Board) (t : Forest) (x : Node) → node_at n t ≡ Some x → x.children ≡ no_node → occurrences n t ≤ 1
    → size (expanded n children next path t) ≡ size t + length children
size_at n children next path no_node x there none few = absurd cc
size_at n children next path (node own below others) x there none few =
    let b = eqb own.number n in
    let more = few_by b (occurrences n below) (occurrences n others) few in
    let new = forest (new_nodes (own.position ∷ path) next children) in
    let old = expanded n children next (own.position ∷ path) below in
    ⊎_elim
    (λ h.
    let z = more.0 h.0 in
    let childless : size below ≡ 0 = ap size (ap (λ (y : Node). y.children) h.1 ∙ none) in
    let here : size (cond b new old) ≡ length children = size_if b new old (length children) (λ t. size_new (own.position ∷ path) next children) (λ t. absurd (true≢false (sym h.0 ∙ t))) in
    let rest = size_absent n children next path others z.1 in
    omega (arith, here, rest, childless))
    (λ h. ⊎_elim
    (λ found.
    let z = more.1.1.1 (found_occurs n below x found) in
    let here : size (cond b new old) ≡ size below + length children = size_if b new old (size below + length children) (λ t. absurd (true≢false (sym t ∙ h.0)))
    (λ t. size_at n children next (own.position ∷ path) below x found none more.1.0) in
    let rest = size_absent n children next path others z in
    omega (arith, here, rest))
    (λ found.
    let here : size (cond b new old) ≡ size below = size_if b new old (size below) (λ t. absurd (true≢false (sym t ∙ h.0)))
    (λ t. size_absent n children next (own.position ∷ path) below (missing_occurs n below found.0)) in
    let rest = size_at n children next path others x found.1 none more.1.1.0 in
    omega (arith, here, rest)) h.1)
    (found_where b (record { own = own; children = below }) x (node_at n below) (node_at n others) there)

pub size_with_children : (n : ℕ) (children : List Child) (t : Forest) (x : Node) → IsSoundForest t → node_at n t ≡ Some x → x.children ≡ no_node
    → size (with_children n children t) ≡ size t + length children
size_with_children n children t x sound there none = size_at n children (size t) [] t x there none (at_most_once n t sound.numbered)
