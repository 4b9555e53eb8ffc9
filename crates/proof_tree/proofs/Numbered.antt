-- Every change of a forest numbers the new nodes with the next numbers.
use Rattle.std.proofs.Common.{◌≡◌, ◌≢◌, ℕ, zero, suc, ◌+◌, ◌<◌, ◌≤◌, Bool, true, false, cond, eqb, ltb, List, [], ◌∷◌, length, refl, sym, ap, ◌∙◌, arith, ⊎_elim}
use Rattle.std.specs.Prelude.{nat_lt}
use Rattle.std.proofs.lemmas.Bool.{eqb-true, cases_eq, cases_lt}
use Rattle.std.proofs.lemmas.Bool.Decides.{nat_tests}
use Rattle.draughts_board.specs.Board.{Board}
use Rattle.proof_numbers.specs.declared.leaves.Child.{Child}
use Rattle.proof_tree.specs.declared.rows.Mark.TheVariants.{Expanded}
use Rattle.proof_tree.specs.Forest.{Own, Forest, no_node, node, forest, size}
use Rattle.proof_tree.specs.Changes.{appended, changed, new_nodes, expand_own, expanded, with_children}
use Rattle.proof_tree.specs.Sound.{EachNode, occurrences}

pub size-appended : (s t : Forest) → size (appended s t) ≡ size s + size t
size-appended no_node t = omega arith
size-appended (node own children others) t = let h = size-appended others t in omega (arith, h)

pub occurrences-appended : (m : ℕ) (s t : Forest) → occurrences m (appended s t) ≡ occurrences m s + occurrences m t
occurrences-appended m no_node t = omega arith
occurrences-appended m (node own children others) t = let h = occurrences-appended m others t in omega (arith, h)

pub size-changed : (f : Own → Own) (t : Forest) → size (changed f t) ≡ size t
size-changed f no_node = refl
size-changed f (node own children others) = λ i. 1 + size-changed f children i + size-changed f others i

pub occurrences-changed : (f : Own → Own) → ((own : Own) → (f own).number ≡ own.number) → (m : ℕ) (t : Forest)
    → occurrences m (changed f t) ≡ occurrences m t
occurrences-changed f keeps m no_node = refl
occurrences-changed f keeps m (node own children others) =
    λ i. cond (eqb (keeps own i) m) 1 0 + (occurrences-changed f keeps m children i + occurrences-changed f keeps m others i)

-- ---- new nodes

-- how many of c numbers from `next` on are m: one or none
among : ℕ → ℕ → ℕ → ℕ
among m next zero = 0
among m next (suc c) = cond (eqb next m) 1 0 + among m (suc next) c

one_if : Bool → ℕ
one_if b = cond b 1 0

test_other : (m n : ℕ) → m ≢ n → eqb m n ≡ false
test_other m n h = grind (arith, nat_tests, h)

test_same : (m n : ℕ) → m ≡ n → eqb m n ≡ true
test_same m n h = grind (arith, nat_tests, h)

among-before : (m next c : ℕ) → m < next → among m next c ≡ 0
unfolding among one_if
among-before m next zero h = refl
among-before m next (suc c) h =
    let rest = among-before m (suc next) c (omega arith) in
    let here : cond (eqb next m) 1 0 ≡ 0 = ap one_if (test_other next m (omega arith)) in
    omega (arith, rest, here)

among-in : (m next c : ℕ) → next ≤ m → m < next + c → among m next c ≡ 1
unfolding among one_if
among-in m next zero h l = absurd (omega arith)
among-in m next (suc c) h l =
    ⊎_elim
    (λ e.
    let rest = among-before m (suc next) c (omega (arith, e)) in
    let here : cond (eqb next m) 1 0 ≡ 1 = ap one_if (test_same next m e) in
    omega (arith, rest, here))
    (λ other.
    let rest = among-in m (suc next) c (omega (arith, other)) (omega arith) in
    let here : cond (eqb next m) 1 0 ≡ 0 = ap one_if (test_other next m other) in
    omega (arith, rest, here))
    (cases_eq next m)

among-past : (m next c : ℕ) → next + c ≤ m → among m next c ≡ 0
unfolding among one_if
among-past m next zero h = refl
among-past m next (suc c) h =
    let rest = among-past m (suc next) c (omega arith) in
    let here : cond (eqb next m) 1 0 ≡ 0 = ap one_if (test_other next m (omega arith)) in
    omega (arith, rest, here)

occurrences-new : (m : ℕ) (path : List Board) (next : ℕ) (children : List Child)
    → occurrences m (forest (new_nodes path next children)) ≡ among m next (length children)
unfolding among
occurrences-new m path next [] = refl
occurrences-new m path next (c ∷ children) =
    let rest = occurrences-new m path (suc next) children in omega (arith, rest)

size-new : (path : List Board) (next : ℕ) (children : List Child) → size (forest (new_nodes path next children)) ≡ length children
size-new path next [] = refl
size-new path next (c ∷ children) = let rest = size-new path (suc next) children in omega (arith, rest)

-- ---- a node that is expanded

-- so much for each node with number n
weight_at : ℕ → ℕ → Forest → ℕ
weight_at n w no_node = 0
weight_at n w (node own below others) = cond (eqb own.number n) w 0 + (weight_at n w below + weight_at n w others)

-- each node with number n has no children
abbrev pub HaveNone : ℕ → List Board → Forest → Type 0
HaveNone n path t = EachNode (λ above x. x.own.number ≡ n → x.children ≡ no_node) path t

none-weight : (n w : ℕ) (t : Forest) → t ≡ no_node → weight_at n w t ≡ 0
unfolding weight_at
none-weight n w t e = ap (weight_at n w) e

size_by : (b : Bool) (n w : ℕ) (below new after : Forest) (rest others more : ℕ) → (b ≡ true → below ≡ no_node) → size new ≡ w
    → size after ≡ size below + weight_at n w below → others ≡ rest + more
    → 1 + size (cond b new after) + others ≡ (1 + size below + rest) + (cond b w 0 + (weight_at n w below + more))
size_by true n w below new after rest others more none s k o =
    let z : size below ≡ 0 = ap size (none refl) in
    let y = none-weight n w below (none refl) in
    omega (arith, z, y, s, o)
size_by false n w below new after rest others more none s k o = omega (arith, k, o)

size-expanded : (n : ℕ) (children : List Child) (next : ℕ) (path : List Board) (t : Forest) → HaveNone n path t
    → size (expanded n children next path t) ≡ size t + weight_at n (length children) t
unfolding weight_at
size-expanded n children next path no_node h = refl
size-expanded n children next path (node own below others) h =
    size_by (eqb own.number n) n (length children) below (forest (new_nodes (own.position ∷ path) next children))
    (expanded n children next (own.position ∷ path) below) (size others) (size (expanded n children next path others)) (weight_at n (length children) others)
    (λ e. h.0 (eqb-true own.number n e)) (size-new (own.position ∷ path) next children)
    (size-expanded n children next (own.position ∷ path) below h.1.0) (size-expanded n children next path others h.1.1)

number-kept : (n : ℕ) (b : Bool) (own : Own) → (cond b (record own { mark = Expanded }) own).number ≡ own.number
number-kept n true own = refl
number-kept n false own = refl

occurrences_by : (m : ℕ) (b : Bool) (n w here here' : ℕ) (below new after : Forest) (rest others more : ℕ) → here' ≡ here → (b ≡ true → below ≡ no_node)
    → occurrences m new ≡ w → occurrences m after ≡ occurrences m below + weight_at n w below → others ≡ rest + more
    → here' + (occurrences m (cond b new after) + others) ≡ (here + (occurrences m below + rest)) + (cond b w 0 + (weight_at n w below + more))
occurrences_by m true n w here here' below new after rest others more e none s k o =
    let z : occurrences m below ≡ 0 = ap (occurrences m) (none refl) in
    let y = none-weight n w below (none refl) in
    omega (arith, z, y, s, o, e)
occurrences_by m false n w here here' below new after rest others more e none s k o = omega (arith, k, o, e)

occurrences-expanded : (m n : ℕ) (children : List Child) (next : ℕ) (path : List Board) (t : Forest) → HaveNone n path t
    → occurrences m (expanded n children next path t) ≡ occurrences m t + weight_at n (among m next (length children)) t
unfolding weight_at
occurrences-expanded m n children next path no_node h = refl
occurrences-expanded m n children next path (node own below others) h =
    occurrences_by m (eqb own.number n) n (among m next (length children)) (cond (eqb own.number m) 1 0) (cond (eqb (expand_own n own).number m) 1 0) below
    (forest (new_nodes (own.position ∷ path) next children)) (expanded n children next (own.position ∷ path) below) (occurrences m others)
    (occurrences m (expanded n children next path others)) (weight_at n (among m next (length children)) others)
    (ap (λ (k : ℕ). cond (eqb k m) 1 0) (number-kept n (eqb own.number n) own)) (λ e. h.0 (eqb-true own.number n e))
    (occurrences-new m (own.position ∷ path) next children)
    (occurrences-expanded m n children next (own.position ∷ path) below h.1.0) (occurrences-expanded m n children next path others h.1.1)

none_by : (b : Bool) (w k l x y : ℕ) → cond b 1 0 + (k + l) ≡ 0 → (k ≡ 0 → x ≡ 0) → (l ≡ 0 → y ≡ 0) → cond b w 0 + (x + y) ≡ 0
none_by true w k l x y e f g = absurd (omega arith)
none_by false w k l x y e f g = let p = f (omega arith) in let q = g (omega arith) in omega (arith, p, q)

weight-none : (n w : ℕ) (t : Forest) → occurrences n t ≡ 0 → weight_at n w t ≡ 0
unfolding weight_at
weight-none n w no_node e = refl
weight-none n w (node own below others) e =
    none_by (eqb own.number n) w (occurrences n below) (occurrences n others) (weight_at n w below) (weight_at n w others) e (weight-none n w below)
    (weight-none n w others)

one_by : (b : Bool) (w k l x y : ℕ) → cond b 1 0 + (k + l) ≡ 1 → (k ≡ 0 → x ≡ 0) → (l ≡ 0 → y ≡ 0) → (k ≡ 1 → x ≡ w) → (l ≡ 1 → y ≡ w)
    → cond b w 0 + (x + y) ≡ w
one_by true w k l x y e f g p q = let a = f (omega arith) in let b = g (omega arith) in omega (arith, a, b)
one_by false w k l x y e f g p q =
    ⊎_elim (λ z. let a = f z in let b = q (omega arith) in omega (arith, a, b)) (λ h. let a = p (omega (arith, h)) in let b = g (omega (arith, h)) in omega (arith, a, b))
    (cases_eq k 0)

weight-one : (n w : ℕ) (t : Forest) → occurrences n t ≡ 1 → weight_at n w t ≡ w
unfolding weight_at
weight-one n w no_node e = absurd (omega arith)
weight-one n w (node own below others) e =
    one_by (eqb own.number n) w (occurrences n below) (occurrences n others) (weight_at n w below) (weight_at n w others) e (weight-none n w below)
    (weight-none n w others) (weight-one n w below) (weight-one n w others)

-- ---- all numbers of the forest

abbrev pub AreNumbered : Forest → Type 0
AreNumbered t = (n : ℕ) → occurrences n t ≡ cond (nat_lt n (size t)) 1 0

root_by : (m s o : ℕ) → o ≡ cond (ltb m s) 1 0 → o + (cond (eqb s m) 1 0 + (0 + 0)) ≡ cond (ltb m (s + 1)) 1 0
root_by m s o e = grind (arith, nat_tests, e)

pub AreNumbered-root : (own : Own) (t : Forest) → own.number ≡ size t → AreNumbered t → AreNumbered (appended t (node own no_node no_node))
AreNumbered-root own t e numbered m =
    occurrences-appended m t (node own no_node no_node)
    ∙ ap (λ (k : ℕ). occurrences m t + (cond (eqb k m) 1 0 + (0 + 0))) e
    ∙ root_by m (size t) (occurrences m t) (numbered m)
    ∙ ap (λ (k : ℕ). cond (nat_lt m k) 1 0) (sym (size-appended t (node own no_node no_node)))

pub AreNumbered-changed : (f : Own → Own) → ((own : Own) → (f own).number ≡ own.number) → (t : Forest) → AreNumbered t → AreNumbered (changed f t)
AreNumbered-changed f keeps t numbered m =
    occurrences-changed f keeps m t ∙ numbered m ∙ ap (λ (k : ℕ). cond (nat_lt m k) 1 0) (sym (size-changed f t))

below_by : (m s len o a : ℕ) → o ≡ cond (ltb m s) 1 0 → m < s → a ≡ 0 → o + a ≡ cond (ltb m (s + len)) 1 0
below_by m s len o a e l z = grind (arith, nat_tests, e, l, z)

new_by : (m s len o a : ℕ) → o ≡ cond (ltb m s) 1 0 → s ≤ m → m < s + len → a ≡ 1 → o + a ≡ cond (ltb m (s + len)) 1 0
new_by m s len o a e l k z = grind (arith, nat_tests, e, l, k, z)

past_by : (m s len o a : ℕ) → o ≡ cond (ltb m s) 1 0 → s + len ≤ m → a ≡ 0 → o + a ≡ cond (ltb m (s + len)) 1 0
past_by m s len o a e l z = grind (arith, nat_tests, e, l, z)

next_by : (m s len o : ℕ) → o ≡ cond (ltb m s) 1 0 → o + among m s len ≡ cond (ltb m (s + len)) 1 0
next_by m s len o e =
    ⊎_elim (λ l. below_by m s len o (among m s len) e l (among-before m s len l))
    (λ h.
    ⊎_elim (λ l. new_by m s len o (among m s len) e h l (among-in m s len h l)) (λ l. past_by m s len o (among m s len) e l (among-past m s len l))
    (cases_lt m (s + len)))
    (cases_lt m s)

pub AreNumbered-expanded : (n : ℕ) (children : List Child) (t : Forest) → HaveNone n [] t → occurrences n t ≡ 1 → AreNumbered t
    → AreNumbered (with_children n children t)
AreNumbered-expanded n children t none once numbered m =
    let s = size t in
    occurrences-expanded m n children s [] t none
    ∙ ap (λ (k : ℕ). occurrences m t + k) (weight-one n (among m s (length children)) t once)
    ∙ next_by m s (length children) (occurrences m t) (numbered m)
    ∙ ap (λ (k : ℕ). cond (nat_lt m k) 1 0)
    (sym (size-expanded n children s [] t none ∙ ap (λ (k : ℕ). s + k) (weight-one n (length children) t once)))

once_by : (n s o : ℕ) → o ≡ cond (ltb n s) 1 0 → 1 ≤ o → o ≡ 1
once_by n s o e l = grind (arith, nat_tests, e, l)

most_by : (n s o : ℕ) → o ≡ cond (ltb n s) 1 0 → o ≤ 1
most_by n s o e = grind (arith, nat_tests, e)

-- a number that stands somewhere stands once, and no number stands twice
pub once : (n : ℕ) (t : Forest) → AreNumbered t → 1 ≤ occurrences n t → occurrences n t ≡ 1
once n t numbered l = once_by n (size t) (occurrences n t) (numbered n) l

pub at_most_once : (n : ℕ) (t : Forest) → AreNumbered t → occurrences n t ≤ 1
at_most_once n t numbered = most_by n (size t) (occurrences n t) (numbered n)
