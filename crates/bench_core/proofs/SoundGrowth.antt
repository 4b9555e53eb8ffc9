-- A forest that grows by a lawful record stays sound and certified, and its other leaves stay.
use Rattle.std.proofs.Common.{◌≡◌, ℕ, ◌+◌, ◌<◌, ◌≤◌, Bool, true, false, cond, eqb, List, [], ◌∷◌, ◌++◌, Option, Some, refl, sym, ap, ◌∙◌, subst, arith}
use Rattle.std.specs.Prelude.{◌==◌, Contains, All, IfSome, nat_lt}
use Rattle.std.specs.List.{flat_map}
use Rattle.std.proofs.lemmas.Bool.{true≢false, eqb-true, eq-eqb, ne_eqb}
use Rattle.std.proofs.lemmas.Bool.Decides.{nat_tests}
use Rattle.std.proofs.lemmas.List.{append-nil}
use Rattle.draughts_board.specs.Board.{Board, IsLawful}
use Rattle.strategy_certificate.specs.declared.certificates.Certificate.{Certificate}
use Rattle.proof_numbers.specs.declared.leaves.Child.{Child}
use Rattle.proof_numbers.specs.Facts.{known}
use Rattle.proof_numbers.specs.Known.{joined, IsConsistent}
use Rattle.proof_tree.specs.declared.rows.Mark.TheVariants.{Unexpanded}
use Rattle.proof_tree.specs.Forest.{Own, Forest, no_node, node, Node, node_at, forest, size}
use Rattle.proof_tree.specs.Changes.{learn, new_nodes, expanded, with_children}
use Rattle.proof_tree.specs.Sound.{IsSoundNode, IsSoundForest, root_positions}
use Rattle.proof_tree.proofs.EachNode.{EachNode-at, EachNode-map, found_occurs, only_node}
use Rattle.proof_tree.proofs.Numbered.{size-appended, size-changed, at_most_once, HaveNone}
use Rattle.proof_tree.proofs.SoundForests.{IsSound-root, IsSound-learnt, IsSound-expanded}
use Rattle.certificate_checker.specs.Sight.{AreChildren}
use Rattle.certificate_joiner.specs.Shelf.{Put, batches_of, certificates_of}
use Rattle.certificate_joiner.specs.Certified.{IsShelved, IsCertified}
use Rattle.certificate_joiner.specs.Growth.{HasNoneFrom, AreShownBy}
use Rattle.certificate_joiner.specs.Laws.{AreCertified}
use Rattle.certificate_joiner.proofs.Growth.{roots_stay_certified, children_stay_certified, facts_stay_certified}
use Rattle.certificate_joiner.proofs.Named.{number_at}
use Rattle.certificate_joiner.proofs.ShelfLemmas.{batches-put}
use Rattle.bench_records.specs.declared.records.BenchRecord.{BenchRecord}
use Rattle.bench_records.specs.declared.records.BenchRecord.TheVariants.{Begin, Solve, Expand}
use Rattle.bench_core.specs.Records.{is_work_on, batches_shown}
use Rattle.certificate_checker.specs.Told.{facts_shown}
use Rattle.bench_core.specs.Growing.{IsLeafWith, MayBeSolved, GrowsWith, GrowsWithAll}
use Rattle.certificate_checker.proofs.FactLemmas.{shown_win, shown_hold}
use Rattle.bench_core.proofs.CertifiedFacts.{shown_agrees}
use Rattle.bench_core.proofs.Leaves.{leaf-appended, leaf-learnt, leaf_childless, stays-expanded}

-- ---- records, one more at the end

pub grown_push : (k : ℕ) (f : Forest) (records : List BenchRecord) (g : Forest) (r : BenchRecord) (h : Forest) → GrowsWithAll k f records g → GrowsWith k g r h → GrowsWithAll k f (records ++ r ∷ []) h
grown_push k f [] g r h is grows = (h, (subst (λ (x : Forest). GrowsWith k x r h) is grows, refl))
grown_push k f (x ∷ records) g r h all grows = (all.0, (all.1.0, grown_push k all.0 records g r h all.1.1 grows))

pub batches_push : (records : List BenchRecord) (r : BenchRecord) → batches_shown (records ++ r ∷ []) ≡ batches_shown records ++ batches_shown (r ∷ [])
batches_push [] r = refl
batches_push (Begin p ∷ records) r = batches_push records r
batches_push (Solve n p shown ∷ records) r = ap (λ (l : List Put). (n, shown) ∷ l) (batches_push records r)
batches_push (Expand n ∷ records) r = batches_push records r

-- ---- sizes and names

-- a node that is there has a number below the size
pub below_size : (n : ℕ) (f : Forest) (x : Node) → IsSoundForest f → node_at n f ≡ Some x → n < size f
below_size n f x sound there = by (nat_lt n (size f)) refl (subst (λ m. 1 ≤ m) (sound.numbered n) (found_occurs n f x there))
  where
    by : (b : Bool) → nat_lt n (size f) ≡ b → 1 ≤ cond b 1 0 → n < size f
    by true e l = grind (arith, nat_tests, e)
    by false e l = absurd (omega arith)

only_others : (n m : ℕ) (puts : List Put) (shown : List Certificate) → (n ≡ m → ⊥) → certificates_of m puts ≡ [] → certificates_of m (puts ++ (n, shown) ∷ []) ≡ []
only_others n m puts shown differs none =
    let other : eqb n m ≡ false = ne_eqb n m differs in
    ap (flat_map (λ (batch : List Certificate). batch)) (batches-put m puts (n, shown) ∙ ap (λ b. cond b (batches_of m puts ++ shown ∷ []) (batches_of m puts)) other) ∙ none

-- ---- what a lawful record needs of the node that it names

childless_from : (n : ℕ) (f : Forest) (x : Node) → IsSoundForest f → node_at n f ≡ Some x → x.children ≡ no_node → HaveNone n [] f
childless_from n f x sound there none =
    EachNode-map (λ above y. y.own.number ≡ n → y ≡ x) (λ above y. y.own.number ≡ n → y.children ≡ no_node)
    (λ above y h e. ap (λ (z : Node). z.children) (h e) ∙ none) [] f (only_node n [] f x there (at_most_once n f sound.numbered))

lawful_at : (n : ℕ) (f : Forest) (x : Node) → IsSoundForest f → node_at n f ≡ Some x → IsLawful x.own.position × IsConsistent x.own.facts
lawful_at n f x sound there = let at = EachNode-at IsSoundNode n [] f x sound.each there in let s = at.1 in (s.lawful, s.consistent)

certified_at : (k n : ℕ) (puts : List Put) (f : Forest) (x : Node) → AreCertified k puts f → node_at n f ≡ Some x → IsCertified k puts x
certified_at k n puts f x certified there = (EachNode-at (λ path. IsCertified k puts) n [] f x certified there).1

-- what is shown of a certified leaf agrees with what it knows
pub solved_agrees : (k n : ℕ) (puts : List Put) (f : Forest) (p : Board) (shown : List Certificate) (l : IsLeafWith (MayBeSolved k p shown) f n) → IsSoundForest f → AreCertified k puts f
    → IsConsistent (joined l.leaf.own.facts (facts_shown shown))
solved_agrees k n puts f p shown l sound certified =
    shown_agrees k puts l.leaf shown (certified_at k n puts f l.leaf certified l.there) (lawful_at n f l.leaf sound l.there).1
    (let m = l.holds in subst (λ q. All (IsShelved k q) shown) (sym m.position) m.shelved)

pub some_of : (P : Node → Type 0) (o : Option Node) (x : Node) → o ≡ Some x → IfSome o P → P x
some_of P o x is h = subst (λ (z : Option Node). IfSome z P) is h

-- ---- a forest that grew is sound

pub grown_sound : (k : ℕ) (puts : List Put) (f g : Forest) (r : BenchRecord) → IsSoundForest f → AreCertified k puts f → GrowsWith k f r g → IsSoundForest g
grown_sound k puts f g (Begin p) sound certified grows =
    let by = grows.applied in
    let may = grows.lawful in
    subst IsSoundForest (sym by.1.1.1)
    (IsSound-root by.0 f sound (subst IsLawful (sym by.1.0) may.lawful) (subst (λ q. ¬ Contains (root_positions f) q) (sym by.1.0) may.absent))
grown_sound k puts f g (Solve n p shown) sound certified grows =
    let l = grows.lawful in
    subst IsSoundForest (sym grows.applied) (IsSound-learnt n (facts_shown shown) f l.leaf sound l.there (solved_agrees k n puts f p shown l sound certified))
grown_sound k puts f g (Expand n) sound certified grows =
    let l = grows.lawful in
    let by = grows.applied in
    let are = some_of (λ x. AreChildren k x.own.position by.0) (node_at n f) l.leaf l.there by.1.0 in
    subst IsSoundForest (sym by.1.1)
    (IsSound-expanded n by.0 f l.leaf sound l.there (record { unexpanded = l.unexpanded; successors = are.positions }) (lawful_at n f l.leaf sound l.there).0)

-- ---- .. and certified

pub grown_certified : (k : ℕ) (records : List BenchRecord) (f g : Forest) (r : BenchRecord) → IsSoundForest f → AreCertified k (batches_shown records) f → HasNoneFrom (size f) (batches_shown records)
    → GrowsWith k f r g → AreCertified k (batches_shown (records ++ r ∷ [])) g
grown_certified k records f g (Begin p) sound certified named grows =
    let by = grows.applied in
    let puts = batches_shown records in
    subst (λ (l : List Put). AreCertified k l g) (sym (batches_push records (Begin p) ∙ append-nil puts))
    (subst (AreCertified k puts) (sym by.1.1.1) (roots_stay_certified k puts f by.0.position (known by.0.facts) named by.1.1.0 certified))
grown_certified k records f g (Solve n p shown) sound certified named grows =
    let l = grows.lawful in
    let m = l.holds in
    let puts = batches_shown records in
    let shown_by : AreShownBy k l.leaf.own.position (facts_shown shown) shown =
    record {
      shelved = subst (λ q. All (IsShelved k q) shown) (sym m.position) m.shelved;
      wins = λ s h. shown_win s shown h;
      holds = λ s h. shown_hold s shown h;
    } in
    subst (λ (ps : List Put). AreCertified k ps g) (sym (batches_push records (Solve n p shown)))
    (subst (AreCertified k (puts ++ (n, shown) ∷ [])) (sym grows.applied)
    (facts_stay_certified k puts f n (facts_shown shown) shown sound (subst (λ (o : Option Node). IfSome o (λ x. AreShownBy k x.own.position (facts_shown shown) shown)) (sym l.there) shown_by) certified))
grown_certified k records f g (Expand n) sound certified named grows =
    let l = grows.lawful in
    let by = grows.applied in
    let puts = batches_shown records in
    let are = some_of (λ x. AreChildren k x.own.position by.0) (node_at n f) l.leaf l.there by.1.0 in
    subst (λ (ps : List Put). AreCertified k ps g) (sym (batches_push records (Expand n) ∙ append-nil puts))
    (subst (AreCertified k puts) (sym by.1.1) (children_stay_certified k puts f n by.0 named are.facts certified))

-- ---- .. and its shelf names its own nodes alone

size_by : (c : Bool) (below new rest : Forest) (others more : ℕ) → (c ≡ true → below ≡ no_node) → size below ≤ size rest → others ≤ more
    → 1 + size below + others ≤ 1 + size (cond c new rest) + more
size_by true below new rest others more none p q = let z : size below ≡ 0 = ap size (none refl) in omega (arith, z, q)
size_by false below new rest others more none p q = omega (arith, p, q)

size_grows : (m : ℕ) (children : List Child) (next : ℕ) (path : List Board) (f : Forest) → HaveNone m path f → size f ≤ size (expanded m children next path f)
size_grows m children next path no_node none = omega arith
size_grows m children next path (node own below others) none =
    size_by (eqb own.number m) below (forest (new_nodes (own.position ∷ path) next children)) (expanded m children next (own.position ∷ path) below) (size others) (size (expanded m children next path others))
    (λ t. none.0 (eqb-true own.number m t)) (size_grows m children next (own.position ∷ path) below none.1.0) (size_grows m children next path others none.1.1)

pub grown_size : (k : ℕ) (f g : Forest) (r : BenchRecord) → IsSoundForest f → GrowsWith k f r g → size f ≤ size g
grown_size k f g (Begin p) sound grows =
    let by = grows.applied in
    let own : Own = record { number = size f; position = by.0.position; facts = known by.0.facts; mark = Unexpanded } in
    let is : size g ≡ size f + 1 = ap size by.1.1.1 ∙ size-appended f (node own no_node no_node) in omega (arith, is)
grown_size k f g (Solve n p shown) sound grows = let is : size g ≡ size f = ap size grows.applied ∙ size-changed (learn n (facts_shown shown)) f in omega (arith, is)
grown_size k f g (Expand n) sound grows =
    let l = grows.lawful in
    let by = grows.applied in
    let none = childless_from n f l.leaf sound l.there (leaf_childless n f l.leaf sound l.there l.unexpanded) in
    let is : size g ≡ size (with_children n by.0 f) = ap size by.1.1 in
    let more : size f ≤ size (with_children n by.0 f) = size_grows n by.0 (size f) [] f none in omega (arith, is, more)

pub grown_named : (k : ℕ) (records : List BenchRecord) (f g : Forest) (r : BenchRecord) → IsSoundForest f → HasNoneFrom (size f) (batches_shown records) → GrowsWith k f r g
    → HasNoneFrom (size g) (batches_shown (records ++ r ∷ []))
grown_named k records f g (Begin p) sound named grows m past =
    let puts = batches_shown records in
    subst (λ (l : List Put). certificates_of m l ≡ []) (sym (batches_push records (Begin p) ∙ append-nil puts)) (named m (omega (arith, past, grown_size k f g (Begin p) sound grows)))
grown_named k records f g (Solve n p shown) sound named grows m past =
    let l = grows.lawful in
    let puts = batches_shown records in
    let low = below_size n f l.leaf sound l.there in
    let grew = grown_size k f g (Solve n p shown) sound grows in
    subst (λ (ps : List Put). certificates_of m ps ≡ []) (sym (batches_push records (Solve n p shown)))
    (only_others n m puts shown (λ e. omega (arith, low, past, grew, e)) (named m (omega (arith, past, grew))))
grown_named k records f g (Expand n) sound named grows m past =
    let puts = batches_shown records in
    subst (λ (l : List Put). certificates_of m l ≡ []) (sym (batches_push records (Expand n) ∙ append-nil puts)) (named m (omega (arith, past, grown_size k f g (Expand n) sound grows)))

-- ---- other leaves stay

differs_from : (n m : ℕ) → (m == n) ≡ false → m ≡ n → ⊥
differs_from n m other e = true≢false (sym (eq-eqb m n e) ∙ other)

pub leaf_stays : (k n : ℕ) (f g : Forest) (r : BenchRecord) (x : Node) → IsSoundForest f → GrowsWith k f r g → is_work_on n r ≡ false → node_at n f ≡ Some x → x.own.mark ≡ Unexpanded
    → node_at n g ≡ Some x
leaf_stays k n f g (Begin p) x sound grows other there leaf =
    let by = grows.applied in
    let own : Own = record { number = size f; position = by.0.position; facts = known by.0.facts; mark = Unexpanded } in
    subst (λ (h : Forest). node_at n h ≡ Some x) (sym by.1.1.1) (leaf-appended n f (node own no_node no_node) x there)
leaf_stays k n f g (Solve m p shown) x sound grows other there leaf =
    subst (λ (h : Forest). node_at n h ≡ Some x) (sym grows.applied)
    (leaf-learnt n m (facts_shown shown) f x (differs_from n m other) there (number_at n f x there) (leaf_childless n f x sound there leaf))
leaf_stays k n f g (Expand m) x sound grows other there leaf =
    let l = grows.lawful in
    let by = grows.applied in
    let none = childless_from m f l.leaf sound l.there (leaf_childless m f l.leaf sound l.there l.unexpanded) in
    let none_here = childless_from n f x sound there (leaf_childless n f x sound there leaf) in
    subst (λ (h : Forest). node_at n h ≡ Some x) (sym by.1.1)
    (stays-expanded n m by.0 (size f) (differs_from n m other) (below_size n f x sound there) [] f none_here none ∙ there)

-- so does whatever holds of a leaf
pub leaf_with_stays : (k n : ℕ) (f g : Forest) (r : BenchRecord) (P : Node → Type 0) → IsSoundForest f → GrowsWith k f r g → is_work_on n r ≡ false → IsLeafWith P f n → IsLeafWith P g n
leaf_with_stays k n f g r P sound grows other l = record {
  leaf = l.leaf;
  there = leaf_stays k n f g r l.leaf sound grows other l.there l.unexpanded;
  unexpanded = l.unexpanded;
  holds = l.holds;
}
