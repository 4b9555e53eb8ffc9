-- A node that was expanded keeps the number of its children.
use Rattle.std.proofs.Common.{◌≡◌, ℕ, suc, ◌+◌, ◌≤◌, ◌||◌, Bool, true, false, cond, eqb, ⊎_elim, List, [], ◌∷◌, length, Some, refl, sym, ap, ◌∙◌, arith}
use Rattle.std.proofs.lemmas.List.{length-map}
use Rattle.std.proofs.lemmas.Bool.{false≢true, true≢false, eqb-true}
use Rattle.draughts_board.specs.Board.{Board}
use Rattle.draughts_board.specs.Play.{successors_of, is_nil}
use Rattle.proof_numbers.specs.declared.leaves.Child.{Child}
use Rattle.proof_numbers.specs.Facts.{known}
use Rattle.proof_numbers.specs.Known.{Known, joined}
use Rattle.proof_tree.specs.declared.rows.Mark.TheVariants.{Unexpanded, Expanded}
use Rattle.proof_tree.specs.Forest.{Own, Forest, no_node, node, Node, nodes, node_at, forest, size}
use Rattle.proof_tree.specs.Changes.{appended, changed, learn, new_nodes, expand_own, expanded}
use Rattle.proof_tree.specs.Sound.{IsSoundForest, occurrences}
use Rattle.proof_tree.proofs.EachNode.{found_where, found_occurs, missing_occurs}
use Rattle.proof_tree.proofs.Numbered.{at_most_once}
use Rattle.certificate_checker.specs.Sight.{AreChildren}
use Rattle.certificate_checker.specs.Told.{facts_shown}
use Rattle.bench_records.specs.declared.records.BenchRecord.{BenchRecord}
use Rattle.bench_records.specs.declared.records.BenchRecord.TheVariants.{Begin, Solve, Expand}
use Rattle.bench_core.specs.Growing.{GrowsWith, GrowsWithAll}
use Rattle.bench_core.proofs.Leaves.{leaf_childless}
use Rattle.bench_core.proofs.SoundGrowth.{some_of}
use Rattle.journal_compaction.proofs.Sizes.{zero_by, few_by}
use Rattle.bench_core.proofs.GrownForests.{IsGrown, grown_with, sound_of}

-- how many children the nodes with this number have
kids : ℕ → Forest → ℕ
kids n no_node = 0
kids n (node own below others) = cond (eqb own.number n) (length (nodes below)) 0 + (kids n below + kids n others)

kids_appended : (n : ℕ) (s t : Forest) → kids n (appended s t) ≡ kids n s + kids n t
unfolding kids
kids_appended n no_node t = omega arith
kids_appended n (node own below others) t = let h = kids_appended n others t in omega (arith, h)

length_changed : (f : Own → Own) (t : Forest) → length (nodes (changed f t)) ≡ length (nodes t)
length_changed f no_node = refl
length_changed f (node own below others) = ap suc (length_changed f others)

kids_changed : (f : Own → Own) → ((own : Own) → (f own).number ≡ own.number) → (n : ℕ) (t : Forest) → kids n (changed f t) ≡ kids n t
unfolding kids
kids_changed f keeps n no_node = refl
kids_changed f keeps n (node own below others) =
    λ i. cond (eqb (keeps own i) n) (length_changed f below i) 0 + (kids_changed f keeps n below i + kids_changed f keeps n others i)

learn_number : (b : Bool) (own : Own) (facts : Known) → (cond b (record own { facts = joined own.facts facts }) own).number ≡ own.number
learn_number true own facts = refl
learn_number false own facts = refl

abbrev nothing_if : Bool → ℕ
nothing_if b = cond b 0 0

none_if : (b : Bool) → nothing_if b ≡ 0
none_if true = refl
none_if false = refl

kids_new : (n : ℕ) (path : List Board) (next : ℕ) (children : List Child) → kids n (forest (new_nodes path next children)) ≡ 0
unfolding kids
kids_new n path next [] = refl
kids_new n path next (c ∷ children) = let h = kids_new n path (suc next) children in let z = none_if (eqb next n) in omega (arith, h, z)

length_new : (path : List Board) (next : ℕ) (children : List Child) → length (nodes (forest (new_nodes path next children))) ≡ length children
length_new path next [] = refl
length_new path next (c ∷ children) = ap suc (length_new path (suc next) children)

length_expanded : (m : ℕ) (children : List Child) (next : ℕ) (path : List Board) (t : Forest) → length (nodes (expanded m children next path t)) ≡ length (nodes t)
length_expanded m children next path no_node = refl
length_expanded m children next path (node own below others) = ap suc (length_expanded m children next path others)

opened_number : (b : Bool) (own : Own) → (cond b (record own { mark = Expanded }) own).number ≡ own.number
opened_number true own = refl
opened_number false own = refl

-- the children of other nodes stay, where m has none
zero_parts : (b : Bool) (x y z : ℕ) → cond b x 0 + (y + z) ≡ 0 → (b ≡ true → x ≡ 0) × ((y ≡ 0) × (z ≡ 0))
zero_parts true x y z e = (λ t. omega arith, (omega arith, omega arith))
zero_parts false x y z e = (λ t. absurd (false≢true t), (omega arith, omega arith))

nothing_there : (t : Forest) → length (nodes t) ≡ 0 → t ≡ no_node
nothing_there no_node e = refl
nothing_there (node own below others) e = absurd (omega (arith, e))

other_by : (n : ℕ) (b c : Bool) (below new after : Forest) → (b ≡ true → below ≡ no_node) → kids n new ≡ 0 → kids n after ≡ kids n below → length (nodes after) ≡ length (nodes below)
    → (c ≡ true → b ≡ true → ⊥)
    → cond c (length (nodes (cond b new after))) 0 + kids n (cond b new after) ≡ cond c (length (nodes below)) 0 + kids n below
unfolding kids
other_by n true true below new after none z k l apart = absurd (apart refl refl)
other_by n true false below new after none z k l apart =
    let e : kids n below ≡ 0 = ap (kids n) (none refl) in omega (arith, z, e)
other_by n false true below new after none z k l apart = omega (arith, k, l)
other_by n false false below new after none z k l apart = omega (arith, k)

two_numbers : (n m : ℕ) → (n ≡ m → ⊥) → (k : ℕ) → eqb k n ≡ true → eqb k m ≡ true → ⊥
two_numbers n m apart k a b = apart (sym (eqb-true k n a) ∙ eqb-true k m b)

kids_other : (n m : ℕ) → (n ≡ m → ⊥) → (children : List Child) (next : ℕ) (path : List Board) (t : Forest) → kids m t ≡ 0 → kids n (expanded m children next path t) ≡ kids n t
unfolding kids
kids_other n m apart children next path no_node bare = refl
kids_other n m apart children next path (node own below others) bare =
    let z = zero_parts (eqb own.number m) (length (nodes below)) (kids m below) (kids m others) bare in
    let new = forest (new_nodes (own.position ∷ path) next children) in
    let after = expanded m children next (own.position ∷ path) below in
    let here = other_by n (eqb own.number m) (eqb own.number n) below new after (λ t. nothing_there below (z.0 t)) (kids_new n (own.position ∷ path) next children)
    (kids_other n m apart children next (own.position ∷ path) below z.1.0) (length_expanded m children next (own.position ∷ path) below)
    (two_numbers n m apart own.number) in
    let rest = kids_other n m apart children next path others z.1.1 in
    let same : cond (eqb (expand_own m own).number n) (length (nodes (cond (eqb own.number m) new after))) 0 ≡ cond (eqb own.number n) (length (nodes (cond (eqb own.number m) new after))) 0 =
    ap (λ (o : ℕ). cond (eqb o n) (length (nodes (cond (eqb own.number m) new after))) 0) (opened_number (eqb own.number m) own) in
    omega (arith, here, rest, same)

-- ---- where a number stands at one place

not_here : (b : Bool) (x : ℕ) → b ≡ false → cond b x 0 ≡ 0
not_here true x e = absurd (true≢false e)
not_here false x e = refl

is_here : (b : Bool) (x : ℕ) → b ≡ true → cond b x 0 ≡ x
is_here true x e = refl
is_here false x e = absurd (false≢true e)

kids_absent : (n : ℕ) (t : Forest) → occurrences n t ≡ 0 → kids n t ≡ 0
unfolding kids
kids_absent n no_node e = refl
kids_absent n (node own below others) e =
    let z = zero_by (eqb own.number n) (occurrences n below) (occurrences n others) e in
    let a = not_here (eqb own.number n) (length (nodes below)) z.0 in
    let b = kids_absent n below z.1.0 in
    let c = kids_absent n others z.1.1 in
    omega (arith, a, b, c)

kids_at : (n : ℕ) (t : Forest) (x : Node) → node_at n t ≡ Some x → occurrences n t ≤ 1 → kids n t ≡ length (nodes x.children)
unfolding kids
kids_at n no_node x e few = absurd cc
kids_at n (node own below others) x e few =
    let more = few_by (eqb own.number n) (occurrences n below) (occurrences n others) few in
    ⊎_elim
    (λ h.
    let z = more.0 h.0 in
    let same : length (nodes below) ≡ length (nodes x.children) = ap (λ (y : Node). length (nodes y.children)) h.1 in
    let here = is_here (eqb own.number n) (length (nodes below)) h.0 in
    let a = kids_absent n below z.0 in
    let b = kids_absent n others z.1 in
    omega (arith, same, here, a, b))
    (λ h.
    let here = not_here (eqb own.number n) (length (nodes below)) h.0 in
    ⊎_elim
    (λ found.
    let a = kids_at n below x found more.1.0 in
    let b = kids_absent n others (more.1.1.1 (found_occurs n below x found)) in
    omega (arith, here, a, b))
    (λ found.
    let a = kids_absent n below (missing_occurs n below found.0) in
    let b = kids_at n others x found.1 more.1.1.0 in
    omega (arith, here, a, b)) h.1)
    (found_where (eqb own.number n) (record { own = own; children = below }) x (node_at n below) (node_at n others) e)

-- the node that is expanded, which had none
own_by : (n : ℕ) (b : Bool) (below new after : Forest) (c : ℕ) → b ≡ true → length (nodes new) ≡ c → kids n new ≡ 0 → cond b (length (nodes (cond b new after))) 0 + kids n (cond b new after) ≡ c
own_by n true below new after c t l z = omega (arith, l, z)
own_by n false below new after c t l z = absurd (false≢true t)

not_own : (n : ℕ) (b : Bool) (new after : Forest) (c : ℕ) → b ≡ false → kids n after ≡ c → cond b (length (nodes (cond b new after))) 0 + kids n (cond b new after) ≡ c
not_own n true new after c t e = absurd (true≢false t)
not_own n false new after c t e = omega (arith, e)

kids_untouched : (n : ℕ) (children : List Child) (next : ℕ) (path : List Board) (t : Forest) → occurrences n t ≡ 0 → kids n (expanded n children next path t) ≡ 0
unfolding kids
kids_untouched n children next path no_node e = refl
kids_untouched n children next path (node own below others) e =
    let z = zero_by (eqb own.number n) (occurrences n below) (occurrences n others) e in
    let new = forest (new_nodes (own.position ∷ path) next children) in
    let after = expanded n children next (own.position ∷ path) below in
    let here = not_own n (eqb own.number n) new after 0 z.0 (kids_untouched n children next (own.position ∷ path) below z.1.0) in
    let rest = kids_untouched n children next path others z.1.1 in
    let same : cond (eqb (expand_own n own).number n) (length (nodes (cond (eqb own.number n) new after))) 0 ≡ cond (eqb own.number n) (length (nodes (cond (eqb own.number n) new after))) 0 =
    ap (λ (o : ℕ). cond (eqb o n) (length (nodes (cond (eqb own.number n) new after))) 0) (opened_number (eqb own.number n) own) in
    omega (arith, here, rest, same)

kids_own : (n : ℕ) (children : List Child) (next : ℕ) (path : List Board) (t : Forest) (x : Node) → node_at n t ≡ Some x → occurrences n t ≤ 1
    → kids n (expanded n children next path t) ≡ length children
unfolding kids
kids_own n children next path no_node x there few = absurd cc
kids_own n children next path (node own below others) x there few =
    let more = few_by (eqb own.number n) (occurrences n below) (occurrences n others) few in
    let new = forest (new_nodes (own.position ∷ path) next children) in
    let after = expanded n children next (own.position ∷ path) below in
    let same : cond (eqb (expand_own n own).number n) (length (nodes (cond (eqb own.number n) new after))) 0 ≡ cond (eqb own.number n) (length (nodes (cond (eqb own.number n) new after))) 0 =
    ap (λ (o : ℕ). cond (eqb o n) (length (nodes (cond (eqb own.number n) new after))) 0) (opened_number (eqb own.number n) own) in
    ⊎_elim
    (λ h.
    let here = own_by n (eqb own.number n) below new after (length children) h.0 (length_new (own.position ∷ path) next children) (kids_new n (own.position ∷ path) next children) in
    let rest = kids_untouched n children next path others (more.0 h.0).1 in
    omega (arith, here, rest, same))
    (λ h. ⊎_elim
    (λ found.
    let here = not_own n (eqb own.number n) new after (length children) h.0 (kids_own n children next (own.position ∷ path) below x found more.1.0) in
    let rest = kids_untouched n children next path others (more.1.1.1 (found_occurs n below x found)) in
    omega (arith, here, rest, same))
    (λ found.
    let here = not_own n (eqb own.number n) new after 0 h.0 (kids_untouched n children next (own.position ∷ path) below (missing_occurs n below found.0)) in
    let rest = kids_own n children next path others x found.1 more.1.1.0 in
    omega (arith, here, rest, same)) h.1)
    (found_where (eqb own.number n) (record { own = own; children = below }) x (node_at n below) (node_at n others) there)

-- ---- records

leaf_bare : (n : ℕ) (f : Forest) (x : Node) → IsSoundForest f → node_at n f ≡ Some x → x.own.mark ≡ Unexpanded → kids n f ≡ 0
leaf_bare n f x sound there leaf =
    kids_at n f x there (at_most_once n f sound.numbered) ∙ ap (λ (t : Forest). length (nodes t)) (leaf_childless n f x sound there leaf)

-- a node with children keeps their number
kids_stay : (k n : ℕ) (f g : Forest) (r : BenchRecord) → IsGrown k f → 1 ≤ kids n f → GrowsWith k f r g → kids n g ≡ kids n f
unfolding kids
kids_stay k n f g (Begin p) grown some grows =
    let by = grows.applied in
    let own : Own = record { number = size f; position = by.0.position; facts = known by.0.facts; mark = Unexpanded } in
    let z = none_if (eqb (size f) n) in
    let last : kids n (node own no_node no_node) ≡ 0 = omega (arith, z) in
    let sum = kids_appended n f (node own no_node no_node) in
    ap (kids n) by.1.1.1 ∙ (sum ∙ (let e : kids n f + kids n (node own no_node no_node) ≡ kids n f = omega (arith, last) in e))
kids_stay k n f g (Solve m p shown) grown some grows =
    ap (kids n) grows.applied ∙ kids_changed (learn m (facts_shown shown)) (λ own. learn_number (eqb own.number m) own (facts_shown shown)) n f
kids_stay k n f g (Expand m) grown some grows =
    let l = grows.lawful in
    let by = grows.applied in
    let bare = leaf_bare m f l.leaf (sound_of k f grown) l.there l.unexpanded in
    ap (kids n) by.1.1
    ∙ kids_other n m (λ same. let e : kids n f ≡ kids m f = ap (λ i. kids i f) same in omega (arith, some, bare, e)) by.0 (size f) [] f bare

all_kids_stay : (k n : ℕ) (f : Forest) (records : List BenchRecord) (g : Forest) → IsGrown k f → 1 ≤ kids n f → GrowsWithAll k f records g → kids n g ≡ kids n f
all_kids_stay k n f [] g grown some is = ap (kids n) is
all_kids_stay k n f (r ∷ records) g grown some grows =
    let first = kids_stay k n f grows.0 r grown some grows.1.0 in
    all_kids_stay k n grows.0 records g (grown_with k f grows.0 r grown grows.1.0) (omega (arith, first, some)) grows.1.1 ∙ first

no_moves : (xs : List Board) → is_nil xs ≡ false → 1 ≤ length xs
no_moves [] e = absurd (true≢false e)
no_moves (x ∷ xs) e = omega arith

left_false : (b c : Bool) → (b || c) ≡ false → b ≡ false
left_false true c e = e
left_false false c e = refl

-- the children that an Expand gives are as many as the node has in the end
pub children_last : (k n : ℕ) (f g h : Forest) (records : List BenchRecord) (x : Node) → IsGrown k f → (grows : GrowsWith k f (Expand n) g) → GrowsWithAll k g records h
    → node_at n h ≡ Some x → IsSoundForest h → length (let by = grows.applied in by.0) ≡ length (nodes x.children)
children_last k n f g h records x grown grows rest there sound =
    let l = grows.lawful in
    let by = grows.applied in
    let may = l.holds in
    let are = some_of (λ y. AreChildren k y.own.position by.0) (node_at n f) l.leaf l.there by.1.0 in
    let here : kids n g ≡ length by.0 = ap (kids n) by.1.1 ∙ kids_own n by.0 (size f) [] f l.leaf l.there (let s = sound_of k f grown in at_most_once n f s.numbered) in
    let some : 1 ≤ length by.0 =
    (let moves = no_moves (successors_of l.leaf.own.position) (left_false (is_nil (successors_of l.leaf.own.position)) _ may.unseen) in
    let same = ap length are.positions in
    let long = length-map by.0 (λ (child : Child). child.position) in
    omega (arith, moves, same, long)) in
    let stays = all_kids_stay k n g records h (grown_with k f g (Expand n) grown grows) (omega (arith, here, some)) rest in
    sym here ∙ (sym stays ∙ kids_at n h x there (at_most_once n h sound.numbered))
