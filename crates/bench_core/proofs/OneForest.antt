-- One list of records has one forest, and its roots are those that the records begin.
use Rattle.std.proofs.Common.{◌≡◌, ℕ, suc, Bool, true, false, cond, eqb, List, [], ◌∷◌, ◌++◌, map, refl, ap, sym, ◌∙◌, subst, append_assoc, append-nil}
use Rattle.std.specs.Prelude.{◌↔◌, IsTrue, All}
use Rattle.std.proofs.lemmas.Bool.{false≢true}
use Rattle.std.proofs.lemmas.List.Elements.{All-head, All-tail}
use Rattle.draughts_board.specs.Board.{Board}
use Rattle.proof_numbers.specs.declared.leaves.Child.{Child}
use Rattle.proof_numbers.specs.Facts.{known}
use Rattle.proof_numbers.specs.Known.{Known}
use Rattle.proof_numbers.specs.Sight.{AreFactsAtSight}
use Rattle.proof_tree.specs.declared.rows.Mark.TheVariants.{Unexpanded, Repeats}
use Rattle.proof_tree.specs.Forest.{Forest, no_node, node, Node, node_at, forest, size}
use Rattle.proof_tree.specs.Changes.{with_root, stands_on, new_nodes, expand_own, expanded}
use Rattle.proof_tree.specs.Sound.{root_positions}
use Rattle.certificate_checker.specs.Sight.{IsAtSight, AreChildren}
use Rattle.bench_records.specs.declared.records.BenchRecord.{BenchRecord}
use Rattle.bench_records.specs.declared.records.BenchRecord.TheVariants.{Begin, Solve, Expand}
use Rattle.bench_core.specs.Records.{begun}
use Rattle.bench_core.specs.Growing.{GrowsWith, GrowsWithAll}
use Rattle.bench_core.specs.Laws.{RecordsHaveOneForest, RootsAreThoseBegun}
use Rattle.bench_core.proofs.SoundGrowth.{some_of}
use Rattle.bench_core.proofs.SoundApplied.{roots_grown, begun_cons}

-- ---- what is known at sight is one thing

one_flag : (X : Type 0) (a b : Bool) → (IsTrue a ↔ X) → (IsTrue b ↔ X) → a ≡ b
one_flag X true true p q = refl
one_flag X true false p q = absurd (false≢true (q.1 (p.0 refl)))
one_flag X false true p q = absurd (false≢true (p.1 (q.0 refl)))
one_flag X false false p q = refl

one_sight : (k : ℕ) (p : Board) (a b : Known) → AreFactsAtSight k p a → AreFactsAtSight k p b → a ≡ b
one_sight k p a b one two = λ i. record {
  black_wins = one_flag _ a.black_wins b.black_wins one.black_wins two.black_wins i;
  white_wins = one_flag _ a.white_wins b.white_wins one.white_wins two.white_wins i;
  black_holds = one_flag _ a.black_holds b.black_holds one.black_holds two.black_holds i;
  white_holds = one_flag _ a.white_holds b.white_holds one.white_holds two.white_holds i;
}

-- ---- children with the same positions

first_same : (a b : Board) (more others : List Board) → a ∷ more ≡ b ∷ others → a ≡ b
first_same a b more others e = cc

rest_same : (a b : Board) (more others : List Board) → a ∷ more ≡ b ∷ others → more ≡ others
rest_same a b more others e = cc

same_nodes : (k : ℕ) (path : List Board) (next : ℕ) (xs ys : List Child) → map (λ (c : Child). c.position) xs ≡ map (λ (c : Child). c.position) ys → All (IsAtSight k) xs → All (IsAtSight k) ys
    → new_nodes path next xs ≡ new_nodes path next ys
same_nodes k path next [] [] e p q = refl
same_nodes k path next [] (y ∷ ys) e p q = absurd cc
same_nodes k path next (x ∷ xs) [] e p q = absurd cc
same_nodes k path next (x ∷ xs) (y ∷ ys) e p q =
    let first = first_same x.position y.position (map (λ (c : Child). c.position) xs) (map (λ (c : Child). c.position) ys) e in
    let rest = rest_same x.position y.position (map (λ (c : Child). c.position) xs) (map (λ (c : Child). c.position) ys) e in
    let facts = one_sight k y.position (known x.facts) (known y.facts) (subst (λ z. AreFactsAtSight k z (known x.facts)) first (All-head (IsAtSight k) x xs p)) (All-head (IsAtSight k) y ys q) in
    let others = same_nodes k path (suc next) xs ys rest (All-tail (IsAtSight k) x xs p) (All-tail (IsAtSight k) y ys q) in
    λ i. record {
      own = record { number = next; position = first i; facts = facts i; mark = cond (stands_on path (first i)) Repeats Unexpanded };
      children = no_node;
    } ∷ others i

same_expanded : (n : ℕ) (xs ys : List Child) → ((path : List Board) (next : ℕ) → new_nodes path next xs ≡ new_nodes path next ys)
    → (next : ℕ) (path : List Board) (f : Forest) → expanded n xs next path f ≡ expanded n ys next path f
same_expanded n xs ys same next path no_node = refl
same_expanded n xs ys same next path (node own below others) = λ i.
    node (expand_own n own)
    (cond (eqb own.number n) (forest (same (own.position ∷ path) next i)) (same_expanded n xs ys same next (own.position ∷ path) below i))
    (same_expanded n xs ys same next path others i)

-- ---- one record, and all of them

one_grown : (k : ℕ) (f : Forest) (r : BenchRecord) (g h : Forest) → GrowsWith k f r g → GrowsWith k f r h → g ≡ h
one_grown k f (Begin p) g h one two =
    let a = one.applied in
    let b = two.applied in
    let facts = one_sight k p (known a.0.facts) (known b.0.facts)
    (subst (λ q. AreFactsAtSight k q (known a.0.facts)) a.1.0 a.1.1.0) (subst (λ q. AreFactsAtSight k q (known b.0.facts)) b.1.0 b.1.1.0) in
    let position : a.0.position ≡ b.0.position = a.1.0 ∙ sym b.1.0 in
    a.1.1.1 ∙ ((λ i. with_root (position i) (facts i) f) ∙ sym b.1.1.1)
one_grown k f (Solve n p shown) g h one two = one.applied ∙ sym two.applied
one_grown k f (Expand n) g h one two =
    let l = one.lawful in
    let a = one.applied in
    let b = two.applied in
    let here = some_of (λ x. AreChildren k x.own.position a.0) (node_at n f) l.leaf l.there a.1.0 in
    let there = some_of (λ x. AreChildren k x.own.position b.0) (node_at n f) l.leaf l.there b.1.0 in
    a.1.1
    ∙ (same_expanded n a.0 b.0 (λ path next. same_nodes k path next a.0 b.0 (here.positions ∙ sym there.positions) here.facts there.facts) (size f) [] f
    ∙ sym b.1.1)

all_grown : (k : ℕ) (f : Forest) (records : List BenchRecord) (g h : Forest) → GrowsWithAll k f records g → GrowsWithAll k f records h → g ≡ h
all_grown k f [] g h one two = one ∙ sym two
all_grown k f (r ∷ records) g h one two =
    let same = one_grown k f r one.0 two.0 one.1.0 two.1.0 in
    all_grown k two.0 records g h (subst (λ (x : Forest). GrowsWithAll k x records g) same one.1.1) two.1.1

pub records_have_one_forest : RecordsHaveOneForest
records_have_one_forest k records one another here there = all_grown k no_node records one another here there

-- ---- roots

all_begun : (k : ℕ) (f : Forest) (records : List BenchRecord) (g : Forest) → GrowsWithAll k f records g → root_positions g ≡ root_positions f ++ begun records
all_begun k f [] g is = ap root_positions is ∙ sym (append-nil (root_positions f))
all_begun k f (r ∷ records) g grows =
    all_begun k grows.0 records g grows.1.1
    ∙ (ap (λ l. l ++ begun records) (roots_grown k f grows.0 r grows.1.0)
    ∙ (append_assoc (root_positions f) (begun (r ∷ [])) (begun records) ∙ ap (λ l. root_positions f ++ l) (sym (begun_cons r records))))

pub roots_are_those_begun : RootsAreThoseBegun
roots_are_those_begun k records roots is = all_begun k no_node records roots is
