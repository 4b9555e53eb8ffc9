-- One record more is made shorter.
use Rattle.std.proofs.Common.{◌≡◌, ℕ, ◌+◌, ◌<◌, ◌≤◌, inl, inr, List, [], ◌∷◌, ◌++◌, length, Option, Some, None, refl, sym, ap, ◌∙◌, subst, arith, append_assoc, append-nil, length-append}
use Rattle.std.specs.Prelude.{All, Bool, true, false}
use Rattle.std.proofs.lemmas.List.{length-map}
use Rattle.draughts_board.specs.Board.{Board}
use Rattle.draughts_board.specs.Draughts.{draughts}
use Rattle.draughts_board.specs.Game.{is_at_sight}
use Rattle.draughts_board.specs.declared.pieces.Value.{Value}
use Rattle.strategy_certificate.specs.declared.certificates.Certificate.{Certificate}
use Rattle.proof_numbers.specs.Known.{value_known}
use Rattle.proof_tree.specs.Forest.{Forest, no_node, Node, nodes, node_at, size}
use Rattle.proof_tree.specs.Sound.{root_positions}
use Rattle.certificate_checker.specs.Told.{facts_shown}
use Rattle.certificate_joiner.specs.Certified.{IsShelved}
use Rattle.bench_records.specs.declared.records.BenchRecord.{BenchRecord}
use Rattle.bench_records.specs.declared.records.BenchRecord.TheVariants.{Begin, Solve, Expand}
use Rattle.bench_core.specs.Records.{begun}
use Rattle.bench_core.specs.Growing.{GrowsWith, GrowsWithAll, IsForestOf}
use Rattle.bench_core.proofs.SoundApplied.{roots_grown}
use Rattle.journal_compaction.specs.Compactions.{renamed, StandsForBegin, StandsForWork, StandsFor, IsCompactionFrom, end_in, IsCompaction}
use Rattle.journal_compaction.specs.Names.{Names, IsNamed, IsUnnamed, named_from, unnamed_for}
use Rattle.journal_compaction.specs.Making.{IsMade}
use Rattle.journal_compaction.specs.Places.{AreAtOnePlace}
use Rattle.journal_compaction.proofs.Alike.{named_not_unnamed, one_name}
use Rattle.journal_compaction.proofs.Compacted.{nothing_in_step, grows_append}
use Rattle.journal_compaction.proofs.Found.{placed, Placed}
use Rattle.bench_core.proofs.GrownForests.{IsGrown, nothing_grown, grown_with_all, sound_of, one_with_all}
use Rattle.journal_compaction.proofs.Kids.{children_last}
use Rattle.journal_compaction.proofs.Steps.{Compacts, children_of, step_solve, step_expand, step_solve_dropped, step_expand_dropped, step_begin, step_begin_seen, step_begin_solved}

pub made_none : (k : ℕ) (roots : Forest) → IsMade k roots [] [] [] 0 0
made_none k roots = record {
  old = no_node;
  new = no_node;
  grows_old = refl;
  grows_new = refl;
  holds = nothing_in_step k (end_in roots);
  next_is = refl;
  begun_is = refl;
  compaction = λ rest tail h. h;
}

-- ---- the record that comes next

pub record IsNext (k : ℕ) (old : Forest) (r : BenchRecord) (rest : List BenchRecord) (roots : Forest) : Type 0 where
  pub after : Forest
  pub grows : GrowsWith k old r after
  pub others : GrowsWithAll k after rest roots

split : (k : ℕ) (f : Forest) (done rest : List BenchRecord) (g : Forest) → GrowsWithAll k f (done ++ rest) g → (h : Forest) × (GrowsWithAll k f done h × GrowsWithAll k h rest g)
split k f [] rest g h = (f, (refl, h))
split k f (r ∷ done) rest g h = let s = split k h.0 done rest g h.1.1 in (s.0, ((h.0, (h.1.0, s.1.0)), s.1.1))

pub next_record : (k : ℕ) (roots : Forest) (done : List BenchRecord) (r : BenchRecord) (rest : List BenchRecord) (old : Forest) → GrowsWithAll k no_node done old
    → IsForestOf k (done ++ r ∷ rest) roots → IsNext k old r rest roots
next_record k roots done r rest old grows all =
    let s = split k no_node done (r ∷ rest) roots all in
    let same : s.0 ≡ old = one_with_all k no_node done s.0 old (nothing_grown k) s.1.0 grows in
    let more = subst (λ (x : Forest). GrowsWithAll k x (r ∷ rest) roots) same s.1.1 in
    record { after = more.0; grows = more.1.0; others = more.1.1 }

-- ---- how many roots

many_roots : (f : Forest) → length (root_positions f) ≡ length (nodes f)
many_roots f = length-map (nodes f) (λ (x : Node). x.own.position)

pub roots_after : (k : ℕ) (f g : Forest) (r : BenchRecord) → GrowsWith k f r g → length (nodes g) ≡ length (nodes f) + length (begun (r ∷ []))
roots_after k f g r grows =
    sym (many_roots g) ∙ (ap length (roots_grown k f g r grows) ∙ (length-append (root_positions f) (begun (r ∷ [])) ∙ ap (λ n. n + length (begun (r ∷ []))) (many_roots f)))

pub roots_rise : (k : ℕ) (f : Forest) (records : List BenchRecord) (g : Forest) → GrowsWithAll k f records g → length (nodes f) ≤ length (nodes g)
roots_rise k f [] g is = let e = ap (λ (x : Forest). length (nodes x)) is in omega (arith, e)
roots_rise k f (r ∷ records) g grows =
    let first = roots_after k f grows.0 r grows.1.0 in let more = roots_rise k grows.0 records g grows.1.1 in omega (arith, first, more)

-- ---- pushing

module _ (k : ℕ) (roots : Forest) (done made : List BenchRecord) (names : Names) (next roots_begun : ℕ) (m : IsMade k roots done made names next roots_begun) where
  pub old_grown : IsGrown k m.old
  old_grown = grown_with_all k no_node done m.old (nothing_grown k) m.grows_old

  pub new_grown : IsGrown k m.new
  new_grown = grown_with_all k no_node made m.new (nothing_grown k) m.grows_new

  push : (r : BenchRecord) (parts : List BenchRecord) (after : Forest) (more : Names) (added count : ℕ) → GrowsWith k m.old r after
      → Compacts k (end_in roots) names m.old m.new m.holds (sound_of k m.old old_grown) (sound_of k m.new new_grown) parts after more added
      → StandsFor k (end_in roots) m.old m.new r parts → count ≡ length (nodes after)
      → IsMade k roots (done ++ r ∷ []) (made ++ parts) more (next + added) count
  push r parts after more added count grows c stands is = record {
    old = after;
    new = c.grown;
    grows_old = grows_append k no_node done (r ∷ []) m.old after m.grows_old (after, (grows, refl));
    grows_new = grows_append k no_node made parts m.new c.grown m.grows_new c.grows;
    holds = c.holds;
    next_is = ap (λ n. n + added) m.next_is ∙ sym c.size_is;
    begun_is = is;
    compaction = λ rest tail h.
        subst (λ (l : List BenchRecord). IsCompactionFrom k (end_in roots) no_node no_node l ((made ++ parts) ++ tail)) (sym (append_assoc done (r ∷ []) rest))
        (subst (λ (l : List BenchRecord). IsCompactionFrom k (end_in roots) no_node no_node (done ++ r ∷ rest) l) (sym (append_assoc made parts tail))
        (m.compaction (r ∷ rest) (parts ++ tail) (parts, (tail, (after, (c.grown, (refl, (grows, (c.grows, (stands, h))))))))));
  }

  place_named : (n : ℕ) (r : BenchRecord) (x : Node) → node_at n m.old ≡ Some x → (o : ℕ) → IsNamed names n o → StandsForWork (end_in roots) m.old m.new n r (renamed o r ∷ [])
  place_named n r x there o is =
      by (placed k names (size m.new) n (end_in roots) m.old m.new x (let h = m.holds in h.roots) there)
    where
      by : Placed names (end_in roots) m.old m.new n → StandsForWork (end_in roots) m.old m.new n r (renamed o r ∷ [])
      by (inl p) =
          let same : p.m ≡ o = one_name names n p.m o p.name is in
          inr (p.i, (o, (p.open_root, (subst (λ x. AreAtOnePlace m.old m.new p.i n x) same p.place, refl))))
      by (inr p) = absurd (named_not_unnamed names n o is p.none)

  place_unnamed : (n : ℕ) (r : BenchRecord) (x : Node) → node_at n m.old ≡ Some x → IsUnnamed names n → StandsForWork (end_in roots) m.old m.new n r []
  place_unnamed n r x there none =
      by (placed k names (size m.new) n (end_in roots) m.old m.new x (let h = m.holds in h.roots) there)
    where
      by : Placed names (end_in roots) m.old m.new n → StandsForWork (end_in roots) m.old m.new n r []
      by (inl p) = absurd (named_not_unnamed names n p.m p.name none)
      by (inr p) = inl (p.i, (p.settled_root, (p.place, refl)))

  next_as : (parts : List BenchRecord) (records : List BenchRecord) (more : Names) (added : ℕ) (to : ℕ) → next + added ≡ to → IsMade k roots records parts more (next + added) roots_begun → IsMade k roots records parts more to roots_begun
  next_as parts records more added to e h = subst (λ x. IsMade k roots records parts more x roots_begun) e h

  module _ (rest : List BenchRecord) where
    -- ---- a work record, whose node has a name or none

    pub solve_named : (n o : ℕ) (p : Board) (shown : List Certificate) → IsForestOf k (done ++ Solve n p shown ∷ rest) roots → IsNamed names n o
        → IsMade k roots (done ++ Solve n p shown ∷ []) (made ++ Solve o p shown ∷ []) names next roots_begun
    solve_named n o p shown all is =
        let nx = next_record k roots done (Solve n p shown) rest m.old m.grows_old all in
        let grows = nx.grows in
        let l = grows.lawful in
        let c = step_solve k (end_in roots) names m.old m.new m.holds (sound_of k m.old old_grown) (sound_of k m.new new_grown) n o is p shown nx.after nx.grows in
        let count = roots_after k m.old nx.after (Solve n p shown) nx.grows in
        next_as (made ++ Solve o p shown ∷ []) (done ++ Solve n p shown ∷ []) names 0 next (omega arith)
        (push (Solve n p shown) (Solve o p shown ∷ []) nx.after names 0 roots_begun nx.grows c
        (place_named n (Solve n p shown) l.leaf l.there o is) (let b = m.begun_is in omega (arith, b, count)))

    pub solve_unnamed : (n : ℕ) (p : Board) (shown : List Certificate) → IsForestOf k (done ++ Solve n p shown ∷ rest) roots → IsUnnamed names n
        → IsMade k roots (done ++ Solve n p shown ∷ []) made names next roots_begun
    solve_unnamed n p shown all none =
        let nx = next_record k roots done (Solve n p shown) rest m.old m.grows_old all in
        let grows = nx.grows in
        let l = grows.lawful in
        let c = step_solve_dropped k (end_in roots) names m.old m.new m.holds (sound_of k m.old old_grown) (sound_of k m.new new_grown) n none p shown nx.after nx.grows in
        let count = roots_after k m.old nx.after (Solve n p shown) nx.grows in
        subst (λ (l : List BenchRecord). IsMade k roots (done ++ Solve n p shown ∷ []) l names next roots_begun) (append-nil made)
        (next_as (made ++ []) (done ++ Solve n p shown ∷ []) names 0 next (omega arith)
        (push (Solve n p shown) [] nx.after names 0 roots_begun nx.grows c
        (place_unnamed n (Solve n p shown) l.leaf l.there none) (let b = m.begun_is in omega (arith, b, count))))

    -- this is the number of the node's children in the end
    pub expand_named : (n o c : ℕ) (x : Node) → IsForestOf k (done ++ Expand n ∷ rest) roots → IsNamed names n o → node_at n roots ≡ Some x → c ≡ length (nodes x.children)
        → IsMade k roots (done ++ Expand n ∷ []) (made ++ Expand o ∷ []) (names ++ named_from next c) (next + c) roots_begun
    expand_named n o c x all is there kids =
        let nx = next_record k roots done (Expand n) rest m.old m.grows_old all in
        let grows = nx.grows in
        let l = grows.lawful in
        let s = step_expand k (end_in roots) names m.old m.new m.holds (sound_of k m.old old_grown) (sound_of k m.new new_grown) n o is nx.after nx.grows in
        let count = roots_after k m.old nx.after (Expand n) nx.grows in
        let many : length (children_of k (end_in roots) names m.old m.new m.holds (sound_of k m.old old_grown) (sound_of k m.new new_grown) n nx.after nx.grows) ≡ c =
        children_last k n m.old nx.after roots rest x old_grown nx.grows nx.others there (sound_of k roots (grown_with_all k no_node (done ++ Expand n ∷ rest) roots (nothing_grown k) all)) ∙ sym kids in
        subst (λ y. IsMade k roots (done ++ Expand n ∷ []) (made ++ Expand o ∷ []) (names ++ named_from next y) (next + y) roots_begun) many
        (subst (λ y. IsMade k roots (done ++ Expand n ∷ []) (made ++ Expand o ∷ []) (names ++ named_from y (length (let by = grows.applied in by.0))) (next + length (let by = grows.applied in by.0)) roots_begun) (sym m.next_is)
        (push (Expand n) (Expand o ∷ []) nx.after _ _ roots_begun nx.grows s
        (place_named n (Expand n) l.leaf l.there o is) (let b = m.begun_is in omega (arith, b, count))))

    pub expand_unnamed : (n c : ℕ) (x : Node) → IsForestOf k (done ++ Expand n ∷ rest) roots → IsUnnamed names n → node_at n roots ≡ Some x → c ≡ length (nodes x.children)
        → IsMade k roots (done ++ Expand n ∷ []) made (names ++ unnamed_for c) next roots_begun
    expand_unnamed n c x all none there kids =
        let nx = next_record k roots done (Expand n) rest m.old m.grows_old all in
        let grows = nx.grows in
        let l = grows.lawful in
        let s = step_expand_dropped k (end_in roots) names m.old m.new m.holds (sound_of k m.old old_grown) (sound_of k m.new new_grown) n none nx.after nx.grows in
        let count = roots_after k m.old nx.after (Expand n) nx.grows in
        let many : length (children_of k (end_in roots) names m.old m.new m.holds (sound_of k m.old old_grown) (sound_of k m.new new_grown) n nx.after nx.grows) ≡ c =
        children_last k n m.old nx.after roots rest x old_grown nx.grows nx.others there (sound_of k roots (grown_with_all k no_node (done ++ Expand n ∷ rest) roots (nothing_grown k) all)) ∙ sym kids in
        subst (λ y. IsMade k roots (done ++ Expand n ∷ []) made (names ++ unnamed_for y) next roots_begun) many
        (subst (λ (l : List BenchRecord). IsMade k roots (done ++ Expand n ∷ []) l (names ++ unnamed_for (length (let by = grows.applied in by.0))) next roots_begun) (append-nil made)
        (next_as (made ++ []) (done ++ Expand n ∷ []) _ 0 next (omega arith)
        (push (Expand n) [] nx.after _ 0 roots_begun nx.grows s
        (place_unnamed n (Expand n) l.leaf l.there none) (let b = m.begun_is in omega (arith, b, count)))))

    -- ---- a root

    -- it is there in the end
    pub root_there : (p : Board) → IsForestOf k (done ++ Begin p ∷ rest) roots → roots_begun < length (nodes roots)
    root_there p all =
        let nx = next_record k roots done (Begin p) rest m.old m.grows_old all in
        let count = roots_after k m.old nx.after (Begin p) nx.grows in
        let more = roots_rise k nx.after rest roots nx.others in
        let b = m.begun_is in omega (arith, count, more, b)

    module _ (p : Board) (all : IsForestOf k (done ++ Begin p ∷ rest) roots) where
      begun_next : (after : Forest) → GrowsWith k m.old (Begin p) after → roots_begun + 1 ≡ length (nodes after)
      begun_next after grows = let count = roots_after k m.old after (Begin p) grows in let b = m.begun_is in omega (arith, count, b)

      at_end : (e : Option Value) → end_in roots roots_begun ≡ e → end_in roots (length (nodes m.old)) ≡ e
      at_end e is = ap (end_in roots) (sym m.begun_is) ∙ is

      begin_stands : (e : Option Value) (b : Bool) (parts : List BenchRecord) → end_in roots roots_begun ≡ e → is_at_sight draughts k p ≡ b → StandsForBegin e b (size m.new) p parts
          → StandsFor k (end_in roots) m.old m.new (Begin p) parts
      begin_stands e b parts is sight h =
          subst (λ x. StandsForBegin x (is_at_sight draughts k p) (size m.new) p parts) (sym (at_end e is))
          (subst (λ x. StandsForBegin e x (size m.new) p parts) (sym sight) h)

      pub begin_open : end_in roots roots_begun ≡ None → IsMade k roots (done ++ Begin p ∷ []) (made ++ Begin p ∷ []) (names ++ named_from next 1) (next + 1) (roots_begun + 1)
      begin_open end =
          let nx = next_record k roots done (Begin p) rest m.old m.grows_old all in
          let s = step_begin k (end_in roots) names m.old m.new m.holds (sound_of k m.old old_grown) (sound_of k m.new new_grown) p nx.after nx.grows (at_end None end) in
          subst (λ y. IsMade k roots (done ++ Begin p ∷ []) (made ++ Begin p ∷ []) (names ++ named_from y 1) (next + 1) (roots_begun + 1)) (sym m.next_is)
          (push (Begin p) (Begin p ∷ []) nx.after _ 1 (roots_begun + 1) nx.grows s
          (begin_stands None (is_at_sight draughts k p) (Begin p ∷ []) end refl refl) (begun_next nx.after nx.grows))

      pub begin_seen : (v : Value) → end_in roots roots_begun ≡ Some v → is_at_sight draughts k p ≡ true
          → IsMade k roots (done ++ Begin p ∷ []) (made ++ Begin p ∷ []) (names ++ unnamed_for 1) (next + 1) (roots_begun + 1)
      begin_seen v end sight =
          let nx = next_record k roots done (Begin p) rest m.old m.grows_old all in
          let s = step_begin_seen k (end_in roots) names m.old m.new m.holds (sound_of k m.old old_grown) (sound_of k m.new new_grown) p nx.after nx.grows v (at_end (Some v) end) sight in
          push (Begin p) (Begin p ∷ []) nx.after _ 1 (roots_begun + 1) nx.grows s
          (begin_stands (Some v) true (Begin p ∷ []) end sight refl) (begun_next nx.after nx.grows)

      pub begin_solved : (v : Value) (shown : List Certificate) → end_in roots roots_begun ≡ Some v → is_at_sight draughts k p ≡ false → facts_shown shown ≡ value_known v
          → All (IsShelved k p) shown
          → IsMade k roots (done ++ Begin p ∷ []) (made ++ Begin p ∷ Solve next p shown ∷ []) (names ++ unnamed_for 1) (next + 1) (roots_begun + 1)
      begin_solved v shown end sight tells shelved =
          let nx = next_record k roots done (Begin p) rest m.old m.grows_old all in
          let s = step_begin_solved k (end_in roots) names m.old m.new m.holds (sound_of k m.old old_grown) (sound_of k m.new new_grown) p nx.after nx.grows v shown (at_end (Some v) end) sight tells shelved in
          subst (λ y. IsMade k roots (done ++ Begin p ∷ []) (made ++ Begin p ∷ Solve y p shown ∷ []) (names ++ unnamed_for 1) (next + 1) (roots_begun + 1)) (sym m.next_is)
          (push (Begin p) (Begin p ∷ Solve (size m.new) p shown ∷ []) nx.after _ 1 (roots_begun + 1) nx.grows s
          (begin_stands (Some v) false (Begin p ∷ Solve (size m.new) p shown ∷ []) end sight (shown, (tells, refl))) (begun_next nx.after nx.grows))

-- in the end
pub made_all : (k : ℕ) (roots : Forest) (records made : List BenchRecord) (names : Names) (next count : ℕ) → IsForestOf k records roots → IsMade k roots records made names next count
    → IsCompaction k records made
made_all k roots records made names next count forest m = record {
  roots = roots;
  forest = forest;
  made = subst (λ (l : List BenchRecord). IsCompactionFrom k (end_in roots) no_node no_node l made) (append-nil records)
      (subst (λ (l : List BenchRecord). IsCompactionFrom k (end_in roots) no_node no_node (records ++ []) l) (append-nil made) (m.compaction [] [] refl));
}
