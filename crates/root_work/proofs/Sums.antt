-- Sums over the nodes of trees, and how much work there is at most.
use Rattle.std.proofs.Common.{◌≡◌, ℕ, zero, suc, ◌+◌, ◌-◌, ◌<◌, ◌≤◌, List, [], ◌∷◌, ◌++◌, Bool, true, false, cond, eqb, length, map, take, get_or, slice_get, Option, Some, None, refl, sym, ◌∙◌, ap, subst, arith}
use Rattle.std.specs.Prelude.{count_by, nat_lt, if◌then◌else◌, ◌==◌, ◌^◌, IfOk, IfSome, Result, Ok, Err}
use Rattle.std.specs.declared.alloc.AllocError.{AllocError}
use Rattle.std.proofs.lemmas.List.{get_or-map, length-map, take_more}
use Rattle.std.proofs.lemmas.List.Sums.{count_by_more_no, count_by_more_yes}
use Rattle.std.proofs.lemmas.Option.{get_or_from_slice_get, slice_get-get_or, slice_get_within}
use Rattle.std.proofs.lemmas.Bool.Decides.{nat_tests}
use Rattle.std.proofs.lemmas.List.Recursion.{is_count_by}
use Rattle.bench_records.specs.declared.records.BenchRecord.{BenchRecord}
use Rattle.bench_records.specs.declared.records.BenchRecord.TheVariants.{Begin, Solve, Expand}
use Rattle.bench_core.specs.Records.{is_work_on}
use Rattle.certificate_joiner.proofs.Named.{at_one_place}
use Rattle.proof_tree.proofs.EachNode.{found_occurs}
use Rattle.proof_tree.specs.Forest.{Forest, no_node, node, Node, nodes, node_at, size}
use Rattle.proof_tree.specs.Rows.{blank_node}
use Rattle.proof_tree.specs.Sound.{IsSoundForest, occurrences}
use Rattle.tree_census.specs.Censuses.{tree_of}
use Rattle.root_work.specs.Work.{weight_of, work_in, work_on}

-- ---- sums

weight_none : (t : Forest) → weight_of (λ n. 0) t ≡ 0
weight_none no_node = refl
weight_none (node own children others) =
    let below = weight_none children in
    let beside = weight_none others in
    omega (arith, below, beside)

weight_both : (f g : ℕ → ℕ) (t : Forest) → weight_of (λ n. f n + g n) t ≡ weight_of f t + weight_of g t
weight_both f g no_node = refl
weight_both f g (node own children others) =
    let below = weight_both f g children in
    let beside = weight_both f g others in
    omega (arith, below, beside)

-- where they agree on the numbers that stand there
pub weight_same : (f g : ℕ → ℕ) (t : Forest) → ((n : ℕ) → 1 ≤ occurrences n t → f n ≡ g n) → weight_of f t ≡ weight_of g t
weight_same f g no_node same = refl
weight_same f g (node own children others) same =
    let here : f own.number ≡ g own.number = same own.number (own_place own.number (occurrences own.number children + occurrences own.number others)) in
    let below = weight_same f g children (λ n one. same n (in_children (if own.number == n then 1 else 0) (occurrences n children) (occurrences n others) one)) in
    let beside = weight_same f g others (λ n one. same n (in_others (if own.number == n then 1 else 0) (occurrences n children) (occurrences n others) one)) in
    omega (arith, here, below, beside)
  where
    own_place : (n rest : ℕ) → 1 ≤ (if n == n then 1 else 0) + rest
    own_place n rest = grind (arith, nat_tests)

    in_children : (a b c : ℕ) → 1 ≤ b → 1 ≤ a + (b + c)
    in_children a b c one = omega (arith, one)

    in_others : (a b c : ℕ) → 1 ≤ c → 1 ≤ a + (b + c)
    in_others a b c one = omega (arith, one)

-- the tree of a root weighs no more than all of them
pub weight_in : (f : ℕ → ℕ) (roots : Forest) (i : ℕ) (x : Node) → slice_get (nodes roots) i ≡ Some x → weight_of f (tree_of x) ≤ weight_of f roots
weight_in f no_node i x is = absurd cc
weight_in f (node own children others) zero x is =
    (let same : record { own = own; children = children } ≡ x = cc in subst (λ (y : Node). weight_of f (tree_of y) ≤ weight_of f (node own children others)) same (omega arith))
weight_in f (node own children others) (suc i) x is = (let rest = weight_in f others i x is in omega (arith, rest))

occurs_in : (n : ℕ) (roots : Forest) (i : ℕ) (x : Node) → slice_get (nodes roots) i ≡ Some x → occurrences n (tree_of x) ≤ occurrences n roots
occurs_in n no_node i x is = absurd cc
occurs_in n (node own children others) zero x is =
    (let same : record { own = own; children = children } ≡ x = cc in
    subst (λ (y : Node). occurrences n (tree_of y) ≤ occurrences n (node own children others)) same (omega arith))
occurs_in n (node own children others) (suc i) x is = (let rest = occurs_in n others i x is in omega (arith, rest))

below_by : (n s o : ℕ) → o ≡ cond (nat_lt n s) 1 0 → 1 ≤ o → n < s
below_by n s o is some = grind (arith, nat_tests, is, some)

-- a number that stands in the tree of a root is one of those of the nodes
pub is_below : (roots : Forest) → IsSoundForest roots → (i : ℕ) (x : Node) → slice_get (nodes roots) i ≡ Some x → (n : ℕ) → 1 ≤ occurrences n (tree_of x) → n < size roots
is_below roots sound i x is n one =
    let within = occurs_in n roots i x is in
    below_by n (size roots) (occurrences n roots) (sound.numbered n) (omega (arith, one, within))

pub named_below : (roots : Forest) → IsSoundForest roots → (n : ℕ) (x : Node) → node_at n roots ≡ Some x → n < size roots
named_below roots sound n x is = below_by n (size roots) (occurrences n roots) (sound.numbered n) (found_occurs n roots x is)

-- ---- work

-- 1 where the record is one of the node
abbrev on : BenchRecord → ℕ → ℕ
on r = λ n. (if is_work_on n r then 1 else 0)

abbrev spent : List BenchRecord → ℕ → ℕ
spent [] = λ n. 0
spent (r ∷ records) = λ n. on r n + spent records n

one_more : (b : Bool) (m : ℕ) → (if b then 1 else 0) + m ≡ cond b (1 + m) m
one_more true m = refl
one_more false m = omega arith

spent_is : (records : List BenchRecord) (n : ℕ) → spent records n ≡ work_on records n
spent_is records n = is_count_by (λ l. spent l n) (is_work_on n) refl (λ r l. one_more (is_work_on n r) (spent l n)) records

either_way : (m n : ℕ) → ◌≡◌ {A = ℕ} (if m == n then 1 else 0) (if n == m then 1 else 0)
either_way m n = grind (arith, nat_tests)

number_once : (m : ℕ) (t : Forest) → weight_of (λ n. if m == n then 1 else 0) t ≡ occurrences m t
number_once m no_node = refl
number_once m (node own children others) =
    let here = either_way m own.number in
    let below = number_once m children in
    let beside = number_once m others in
    omega (arith, here, below, beside)

one_record : (r : BenchRecord) (roots : Forest) → IsSoundForest roots → weight_of (on r) roots ≤ 1
one_record (Begin p) roots sound =
    (let none : weight_of (on (Begin p)) roots ≡ 0 = weight_none roots in omega (arith, none))
one_record (Solve m p shown) roots sound =
    (let at : weight_of (on (Solve m p shown)) roots ≡ occurrences m roots = number_once m roots in
    let once = at_one_place roots sound m in omega (arith, at, once))
one_record (Expand m) roots sound =
    (let at : weight_of (on (Expand m)) roots ≡ occurrences m roots = number_once m roots in
    let once = at_one_place roots sound m in omega (arith, at, once))

all_spent : (records : List BenchRecord) (roots : Forest) → IsSoundForest roots → weight_of (spent records) roots ≤ length records
all_spent [] roots sound = (let none : weight_of (spent []) roots ≡ 0 = weight_none roots in omega (arith, none))
all_spent (r ∷ records) roots sound =
    let both : weight_of (spent (r ∷ records)) roots ≡ weight_of (on r) roots + weight_of (spent records) roots = weight_both (on r) (spent records) roots in
    let one = one_record r roots sound in
    let rest = all_spent records roots sound in
    omega (arith, both, one, rest)

-- no more work than there are records
pub work_within : (records : List BenchRecord) (roots : Forest) → IsSoundForest roots → weight_of (work_on records) roots ≤ length records
work_within records roots sound =
    let same = weight_same (spent records) (work_on records) roots (λ n one. spent_is records n) in
    let all = all_spent records roots sound in
    omega (arith, same, all)

-- ---- counts of the work on each node, by the nodes' numbers

module _ (records : List BenchRecord) (counts : List ℕ) (roots : Forest) (sound : IsSoundForest roots) (long : length counts ≡ size roots)
    (counted : (n : ℕ) → n < length counts → get_or counts n 0 ≡ work_on records n) where
  pub counts_few : length records < 2 ^ 64 → weight_of (λ n. get_or counts n 0) roots < 2 ^ 64
  counts_few few =
      let same = weight_same (λ n. get_or counts n 0) (work_on records) roots
      (λ n one. counted n (let below = below_by n (size roots) (occurrences n roots) (sound.numbered n) one in omega (arith, below, long))) in
      let all = work_within records roots sound in
      omega (arith, same, all, few)

  pub work_answer : (i : ℕ) (x : Node) → slice_get (nodes roots) i ≡ Some x → (found : Result ℕ AllocError) → IfOk found (λ work. work ≡ weight_of (λ n. get_or counts n 0) (tree_of x))
      → IfOk found (λ work. IfSome (slice_get (nodes roots) i) (λ y. work ≡ work_in records y))
  work_answer i x is (Ok work) said =
      subst (λ (o : Option Node). IfSome o (λ y. work ≡ work_in records y)) (sym is)
      (said ∙ weight_same (λ n. get_or counts n 0) (work_on records) (tree_of x)
      (λ n one. counted n (let below = is_below roots sound i x is n one in omega (arith, below, long))))
  work_answer i x is (Err error) said = tt

-- the counts behind one record more
pub counted_more : (records : List BenchRecord) (i : ℕ) (r : BenchRecord) (n old : ℕ) → slice_get records i ≡ Some r → old ≡ work_on (take i records) n
    → old + (if is_work_on n r then 1 else 0) ≡ work_on (take (i + 1) records) n
counted_more records i r n old at so_far = by (is_work_on n r) refl
  where
    within : i < length records
    within = slice_get_within records i r at

    here : get_or records i r ≡ r
    here = get_or_from_slice_get records i r r at

    by : (b : Bool) → is_work_on n r ≡ b → old + (if b then 1 else 0) ≡ work_on (take (i + 1) records) n
    by true e = (let more = count_by_more_yes (is_work_on n) records i r within (ap (is_work_on n) here ∙ e) in omega (arith, more, so_far))
    by false e = (let more = count_by_more_no (is_work_on n) records i r within (ap (is_work_on n) here ∙ e) in omega (arith, more, so_far))

-- the first ones, and one more
pub works_more : (w : Node → ℕ) (roots : Forest) (ys : List ℕ) (i r : ℕ) → i < length (nodes roots) → ys ≡ take i (map w (nodes roots))
    → IfSome (slice_get (nodes roots) (i + 1 - 1)) (λ x. r ≡ w x) → ys ++ r ∷ [] ≡ take (i + 1) (map w (nodes roots))
works_more w roots ys i r within front said =
    let xs = nodes roots in
    let fits : i < length (map w xs) = (let e = length-map xs w in omega arith) in
    let back : i + 1 - 1 ≡ i = omega arith in
    let at = subst (λ k. IfSome (slice_get xs k) (λ x. r ≡ w x)) back said in
    let here : r ≡ w (get_or xs i blank_node) = subst (λ (o : Option Node). IfSome o (λ x. r ≡ w x)) (slice_get-get_or xs i blank_node within) at in
    ap (λ (l : List ℕ). l ++ r ∷ []) front
    ∙ (ap (λ m. take i (map w xs) ++ m ∷ []) (here ∙ sym (get_or-map w xs i blank_node (w blank_node) within)) ∙ sym (take_more (map w xs) i (w blank_node) fits))
