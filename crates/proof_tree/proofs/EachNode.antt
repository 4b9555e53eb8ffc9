-- What holds of each node of a forest, and which node a number names.
use Rattle.std.proofs.Common.{◌≡◌, ℕ, ◌+◌, ◌≤◌, Bool, true, false, cond, eqb, List, ◌∷◌, ◌++◌, Option, Some, None, refl, sym, ap, ◌∙◌, subst, arith, ◌⊎◌, inl, inr, ⊎_elim}
use Rattle.std.proofs.lemmas.Bool.{false≢true}
use Rattle.std.proofs.lemmas.Bool.Decides.{nat_tests}
use Rattle.draughts_board.specs.Board.{Board}
use Rattle.proof_tree.specs.Forest.{Own, Forest, no_node, node, Node, node_at, or_else}
use Rattle.proof_tree.specs.Changes.{appended, changed}
use Rattle.proof_tree.specs.Sound.{EachNode, occurrences, root_positions}

pub EachNode-map : (P Q : List Board → Node → Type 0) → ((path : List Board) (x : Node) → P path x → Q path x)
    → (path : List Board) (t : Forest) → EachNode P path t → EachNode Q path t
EachNode-map P Q h path no_node e = tt
EachNode-map P Q h path (node own children others) e =
    (h path (record { own = own; children = children }) e.0, (EachNode-map P Q h (own.position ∷ path) children e.1.0, EachNode-map P Q h path others e.1.1))

pub EachNode-both : (P Q : List Board → Node → Type 0) (path : List Board) (t : Forest) → EachNode P path t → EachNode Q path t
    → EachNode (λ above x. P above x × Q above x) path t
EachNode-both P Q path no_node e f = tt
EachNode-both P Q path (node own children others) e f =
    ((e.0, f.0), (EachNode-both P Q (own.position ∷ path) children e.1.0 f.1.0, EachNode-both P Q path others e.1.1 f.1.1))

pub EachNode-appended : (P : List Board → Node → Type 0) (path : List Board) (s t : Forest) → EachNode P path s → EachNode P path t
    → EachNode P path (appended s t)
EachNode-appended P path no_node t e f = f
EachNode-appended P path (node own children others) t e f = (e.0, (e.1.0, EachNode-appended P path others t e.1.1 f))

-- ---- the node with a number

-- it is the first node, or stands below it, or among the others
pub found_where : (b : Bool) (a x : Node) (below others : Option Node) → cond b (Some a) (or_else below others) ≡ Some x
    → ((b ≡ true) × (a ≡ x)) ⊎ ((b ≡ false) × ((below ≡ Some x) ⊎ ((below ≡ None) × (others ≡ Some x))))
found_where true a x below others e = inl (refl, (let same : a ≡ x = cc in same))
found_where false a x (Some y) others e = inr (refl, inl e)
found_where false a x None others e = inr (refl, inr (refl, e))

-- what holds of each node holds of the one with this number, below some path
pub EachNode-at : (P : List Board → Node → Type 0) (n : ℕ) (path : List Board) (t : Forest) (x : Node) → EachNode P path t
    → node_at n t ≡ Some x → (above : List Board) × P above x
EachNode-at P n path no_node x e f = absurd cc
EachNode-at P n path (node own children others) x e f =
    ⊎_elim (λ h. (path, subst (P path) h.1 e.0))
    (λ h.
    ⊎_elim (λ b. EachNode-at P n (own.position ∷ path) children x e.1.0 b) (λ o. EachNode-at P n path others x e.1.1 o.1) h.1)
    (found_where (eqb own.number n) (record { own = own; children = children }) x (node_at n children) (node_at n others) f)

count_by_test : (b : Bool) (m : ℕ) → b ≡ true → 1 ≤ cond b 1 0 + m
count_by_test true m e = omega arith
count_by_test false m e = absurd (false≢true e)

-- what is found stands somewhere
pub found_occurs : (n : ℕ) (t : Forest) (x : Node) → node_at n t ≡ Some x → 1 ≤ occurrences n t
found_occurs n no_node x f = absurd cc
found_occurs n (node own children others) x f =
    ⊎_elim (λ h. count_by_test (eqb own.number n) (occurrences n children + occurrences n others) h.0)
    (λ h.
    ⊎_elim (λ b. let r = found_occurs n children x b in omega (arith, r)) (λ o. let r = found_occurs n others x o.1 in omega (arith, r)) h.1)
    (found_where (eqb own.number n) (record { own = own; children = children }) x (node_at n children) (node_at n others) f)

none_of : (b : Bool) (a : Node) (below others : Option Node) → cond b (Some a) (or_else below others) ≡ None
    → (b ≡ false) × ((below ≡ None) × (others ≡ None))
none_of true a below others e = absurd cc
none_of false a (Some y) others e = absurd cc
none_of false a None others e = (refl, (refl, e))

none_by_test : (b : Bool) (k l : ℕ) → b ≡ false → k ≡ 0 → l ≡ 0 → cond b 1 0 + (k + l) ≡ 0
none_by_test true k l e f g = absurd (false≢true (sym e))
none_by_test false k l e f g = omega arith

-- what is not found stands nowhere
pub missing_occurs : (n : ℕ) (t : Forest) → node_at n t ≡ None → occurrences n t ≡ 0
missing_occurs n no_node f = refl
missing_occurs n (node own children others) f =
    let h = none_of (eqb own.number n) (record { own = own; children = children }) (node_at n children) (node_at n others) f in
    none_by_test (eqb own.number n) (occurrences n children) (occurrences n others) h.0 (missing_occurs n children h.1.0) (missing_occurs n others h.1.1)

pub test_true : (m n : ℕ) → m ≡ n → eqb m n ≡ true
test_true m n e = grind (arith, nat_tests, e)

zero_by_test : (b : Bool) (k l : ℕ) → cond b 1 0 + (k + l) ≡ 0 → (b ≡ false) × ((k ≡ 0) × (l ≡ 0))
zero_by_test true k l e = absurd (omega arith)
zero_by_test false k l e = (refl, (omega arith, omega arith))

-- where a number stands nowhere, no node has it
pub no_node-with : (n : ℕ) (path : List Board) (t : Forest) → occurrences n t ≡ 0 → EachNode (λ above y. y.own.number ≡ n → ⊥) path t
no_node-with n path no_node e = tt
no_node-with n path (node own children others) e =
    let h = zero_by_test (eqb own.number n) (occurrences n children) (occurrences n others) e in (
      λ f. false≢true (sym h.0 ∙ test_true own.number n f),
      (no_node-with n (own.position ∷ path) children h.1.0, no_node-with n path others h.1.1),
    )

one_by_test : (b : Bool) (k l : ℕ) → cond b 1 0 + (k + l) ≤ 1 → (b ≡ true → (k ≡ 0) × (l ≡ 0)) × ((k ≤ 1) × (l ≤ 1))
one_by_test true k l e = (λ h. (omega arith, omega arith), (omega arith, omega arith))
one_by_test false k l e = (λ h. absurd (false≢true h), (omega arith, omega arith))

one_of_two : (b : Bool) (k l : ℕ) → cond b 1 0 + (k + l) ≤ 1 → 1 ≤ k → l ≡ 0
one_of_two true k l e f = omega arith
one_of_two false k l e f = omega arith

-- where a number stands at one place at most, the node that is found is the only one with it
pub only_node : (n : ℕ) (path : List Board) (t : Forest) (x : Node) → node_at n t ≡ Some x → occurrences n t ≤ 1
    → EachNode (λ above y. y.own.number ≡ n → y ≡ x) path t
only_node n path no_node x f o = tt
only_node n path (node own children others) x f o =
    let self : Node = record { own = own; children = children } in
    let b = eqb own.number n in
    let few = one_by_test b (occurrences n children) (occurrences n others) o in
    let none : (above : List Board) (t : Forest) → occurrences n t ≡ 0 → EachNode (λ a y. y.own.number ≡ n → y ≡ x) above t =
    λ above t e. EachNode-map (λ a y. y.own.number ≡ n → ⊥) (λ a y. y.own.number ≡ n → y ≡ x) (λ a y h g. absurd (h g)) above t (no_node-with n above t e) in
    ⊎_elim
    (λ h. let z = few.0 h.0 in (λ g. h.1, (none (own.position ∷ path) children z.0, none path others z.1)))
    (λ h. (
      λ g. absurd (false≢true (sym h.0 ∙ test_true own.number n g)),
      ⊎_elim
          (λ below. (
            only_node n (own.position ∷ path) children x below few.1.0,
            none path others (one_of_two b (occurrences n children) (occurrences n others) o (found_occurs n children x below)),
          ))
          (λ rest. (none (own.position ∷ path) children (missing_occurs n children rest.0), only_node n path others x rest.1 few.1.1)) h.1,
    ))
    (found_where b self x (node_at n children) (node_at n others) f)

-- ---- positions of the roots

pub root_positions-appended : (s t : Forest) → root_positions (appended s t) ≡ root_positions s ++ root_positions t
root_positions-appended no_node t = refl
root_positions-appended (node own children others) t = ap (λ (ps : List Board). own.position ∷ ps) (root_positions-appended others t)

pub root_positions-changed : (f : Own → Own) → ((own : Own) → (f own).position ≡ own.position) → (t : Forest)
    → root_positions (changed f t) ≡ root_positions t
root_positions-changed f keeps no_node = refl
root_positions-changed f keeps (node own children others) = λ i. keeps own i ∷ root_positions-changed f keeps others i
