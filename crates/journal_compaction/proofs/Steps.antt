-- What stands for one record keeps what holds while a list is made shorter, and is lawful.
use Rattle.std.proofs.Common.{◌≡◌, ℕ, suc, ◌+◌, ◌<◌, Bool, true, false, cond, eqb, ltb, ◌&&◌, ◌⊎◌, inl, inr, ⊎_elim, List, [], ◌∷◌, ◌++◌, length, Option, Some, None, IfSome, refl, sym, ap, ◌∙◌, subst, arith, length-append}
use Rattle.std.specs.Prelude.{All, Contains}
use Rattle.std.proofs.lemmas.Bool.{false≢true, true≢false}
use Rattle.std.proofs.lemmas.Bool.Decides.{nat_tests}
use Rattle.draughts_board.specs.Board.{Board}
use Rattle.draughts_board.specs.Draughts.{draughts}
use Rattle.draughts_board.specs.Game.{is_at_sight, Wins, ShowsWin, ShowsHold}
use Rattle.draughts_board.specs.declared.pieces.Side.TheVariants.{Black, White}
use Rattle.draughts_board.specs.declared.pieces.Value.{Value}
use Rattle.draughts_board.specs.declared.pieces.Value.TheVariants.{BlackWins, WhiteWins, Draw}
use Rattle.strategy_certificate.specs.declared.certificates.Certificate.{Certificate}
use Rattle.proof_numbers.specs.declared.leaves.Child.{Child}
use Rattle.proof_numbers.specs.Facts.{known}
use Rattle.proof_numbers.specs.Known.{Known, nothing_known, value_known, joined, includes}
use Rattle.proof_numbers.specs.Numbers.{is_resolved}
use Rattle.proof_numbers.specs.Sight.{AreFactsAtSight}
use Rattle.proof_tree.specs.declared.rows.Mark.TheVariants.{Unexpanded}
use Rattle.proof_tree.specs.Forest.{Own, Forest, no_node, node, Node, nodes, node_at, size, numbers}
use Rattle.proof_tree.specs.Changes.{appended, changed, learn, with_root, with_facts, with_children}
use Rattle.proof_tree.specs.Sound.{IsSoundForest, occurrences, root_positions}
use Rattle.proof_tree.proofs.EachNode.{found_occurs}
use Rattle.proof_tree.proofs.Numbered.{size-appended, size-changed}
use Rattle.certificate_checker.specs.Sight.{AreChildren}
use Rattle.certificate_checker.specs.Told.{facts_shown}
use Rattle.certificate_joiner.specs.Certified.{IsShelved}
use Rattle.bench_records.specs.declared.records.BenchRecord.{BenchRecord}
use Rattle.bench_records.specs.declared.records.BenchRecord.TheVariants.{Begin, Solve, Expand}
use Rattle.bench_core.specs.Growing.{IsLeafWith, MayBeSolved, MayBeExpanded, MayBegin, GrowsWith, GrowsWithAll}
use Rattle.bench_core.proofs.Leaves.{leaf_childless}
use Rattle.bench_core.proofs.SoundGrowth.{some_of}
use Rattle.journal_compaction.specs.Names.{Names, IsNamed, IsUnnamed, IsRootAlike, AreRootsAlike, StandsForSettled, AreInStep, named_from, unnamed_for}
use Rattle.journal_compaction.proofs.Lists.{extended_named, extended_unnamed, new_named, new_unnamed, named_old, below_length, apart_extended, length_named, length_unnamed}
use Rattle.journal_compaction.proofs.Alike.{same_numbers, alike_numbers, roots_more, roots_appended, roots_learnt, roots_learnt_dropped, test_true}
use Rattle.journal_compaction.proofs.Expanding.{roots_expanded, roots_expanded_dropped}
use Rattle.journal_compaction.proofs.Sizes.{size_with_children}
use Rattle.journal_compaction.proofs.Found.{found, past}

-- one record grows what its list grows
one_record : (k : ℕ) (f : Forest) (r : BenchRecord) (g : Forest) → GrowsWith k f r g → GrowsWithAll k f (r ∷ []) g
one_record k f r g grows = (g, (grows, refl))

-- ---- positions of the roots

same_position : (k : ℕ) (names : Names) (count : ℕ) (e : Option Value) (a : Own) (below : Forest) (b : Own) (under : Forest) → IsRootAlike k names count e a below b under
    → a.position ≡ b.position
same_position k names count None a below b under h = let s = h.0.1 in s.position
same_position k names count (Some v) a below b under h = h.position

pub same_positions : (k : ℕ) (names : Names) (count : ℕ) (ends : ℕ → Option Value) (f g : Forest) → AreRootsAlike k names count ends f g → root_positions f ≡ root_positions g
same_positions k names count ends no_node no_node h = refl
same_positions k names count ends no_node (node b under rest) h = absurd h
same_positions k names count ends (node a below others) no_node h = absurd h
same_positions k names count ends (node a below others) (node b under rest) h =
    λ i. same_position k names count (ends 0) a below b under h.0 i ∷ same_positions k names count (λ j. ends (suc j)) others rest h.1 i

same_length : (k : ℕ) (names : Names) (count : ℕ) (ends : ℕ → Option Value) (f g : Forest) → AreRootsAlike k names count ends f g → length (nodes f) ≡ length (nodes g)
same_length k names count ends no_node no_node h = refl
same_length k names count ends no_node (node b under rest) h = absurd h
same_length k names count ends (node a below others) no_node h = absurd h
same_length k names count ends (node a below others) (node b under rest) h = ap suc (same_length k names count (λ j. ends (suc j)) others rest h.1)

-- ---- a number that does not stand in a forest

absent_by : (t : Bool) (m l : ℕ) → cond t 1 0 + (m + l) ≡ 0 → (t ≡ false) × ((m ≡ 0) × (l ≡ 0))
absent_by true m l e = absurd (omega arith)
absent_by false m l e = (refl, (omega arith, omega arith))

unlearnt : (t : Bool) (facts : Known) (own : Own) → t ≡ false → cond t (record own { facts = joined own.facts facts }) own ≡ own
unlearnt true facts own e = absurd (true≢false e)
unlearnt false facts own e = refl

learnt_nowhere : (n : ℕ) (facts : Known) (f : Forest) → occurrences n f ≡ 0 → with_facts n facts f ≡ f
learnt_nowhere n facts no_node e = refl
learnt_nowhere n facts (node a below others) e =
    let z = absent_by (eqb a.number n) (occurrences n below) (occurrences n others) e in
    λ i. node (unlearnt (eqb a.number n) facts a z.0 i) (learnt_nowhere n facts below z.1.0 i) (learnt_nowhere n facts others z.1.1 i)

abbrev one_if : Bool → ℕ
one_if b = cond b 1 0

not_below : (n : ℕ) → one_if (ltb n n) ≡ 0
not_below n = grind (arith, nat_tests)

size_nowhere : (f : Forest) → IsSoundForest f → occurrences (size f) f ≡ 0
size_nowhere f sound = sound.numbered (size f) ∙ not_below (size f)

missing_by : (n : ℕ) (f : Forest) (o : Option Node) → node_at n f ≡ o → occurrences n f ≡ 0 → o ≡ None
missing_by n f None e z = refl
missing_by n f (Some x) e z = absurd (let l = found_occurs n f x e in omega (arith, l, z))

nowhere_found : (n : ℕ) (f : Forest) → occurrences n f ≡ 0 → node_at n f ≡ None
nowhere_found n f z = missing_by n f (node_at n f) refl z

itself : (b : Own) (t : Bool) (o : Option Node) → t ≡ true → cond t (Some (record { own = b; children = no_node })) o ≡ Some (record { own = b; children = no_node })
itself b true o e = refl
itself b false o e = absurd (false≢true e)

-- a root that is added last is found by its number
found_last : (b : Own) (f : Forest) → occurrences b.number f ≡ 0 → node_at b.number (appended f (node b no_node no_node)) ≡ Some (record { own = b; children = no_node })
found_last b no_node z = itself b (eqb b.number b.number) None (test_true b.number b.number refl)
found_last b (node a below others) z =
    let parts = absent_by (eqb a.number b.number) (occurrences b.number below) (occurrences b.number others) z in
    past (eqb a.number b.number) (record { own = a; children = below }) (node_at b.number below) (node_at b.number (appended others (node b no_node no_node)))
    parts.0 (nowhere_found b.number below parts.1.0)
    ∙ found_last b others parts.1.1

changed_appended : (f : Own → Own) (s t : Forest) → changed f (appended s t) ≡ appended (changed f s) (changed f t)
changed_appended f no_node t = refl
changed_appended f (node a below others) t = ap (λ (x : Forest). node (f a) (changed f below) x) (changed_appended f others t)

-- ---- steps

module _ (k : ℕ) (ends : ℕ → Option Value) (names : Names) (old new : Forest) (c : AreInStep k ends names old new) (so : IsSoundForest old) (sn : IsSoundForest new) where
  -- the new forest and what holds of it, where this was made: with these names, and a number of nodes more
  pub record Compacts (made : List BenchRecord) (after : Forest) (more : Names) (added : ℕ) : Type 0 where
    pub grown : Forest
    pub grows : GrowsWithAll k new made grown
    pub holds : AreInStep k ends more after grown
    pub size_is : size grown ≡ size new + added

  -- the children that an Expand gives
  abbrev pub children_of : (n : ℕ) (after : Forest) → GrowsWith k old (Expand n) after → List Child
  children_of n after grows = let by = grows.applied in by.0

  -- ---- a work record of a node with a name

  module _ (n m : ℕ) (is : IsNamed names n m) where
    pub lawful_solve : (p : Board) (shown : List Certificate) → IsLeafWith (MayBeSolved k p shown) old n → IsLeafWith (MayBeSolved k p shown) new m
    lawful_solve p shown l =
        let y = found names n m c.apart is k (size new) ends old new l.leaf c.roots l.there in
        let same = y.1.1.0 in
        let may = l.holds in
        record {
          leaf = y.0;
          there = y.1.0;
          unexpanded = sym same.mark ∙ l.unexpanded;
          holds = record {
            position = sym same.position ∙ may.position;
            shelved = may.shelved;
            gains = ap (λ (x : Known). includes x (facts_shown shown)) (sym same.facts) ∙ may.gains;
          };
        }

    pub lawful_expand : IsLeafWith (MayBeExpanded k) old n → IsLeafWith (MayBeExpanded k) new m
    lawful_expand l =
        let y = found names n m c.apart is k (size new) ends old new l.leaf c.roots l.there in
        let same = y.1.1.0 in
        let may = l.holds in
        let black = same_numbers Black l.leaf.own y.0.own (numbers Black l.leaf.children) (numbers Black y.0.children) same (alike_numbers names Black l.leaf.children y.0.children y.1.1.1) in
        let white = same_numbers White l.leaf.own y.0.own (numbers White l.leaf.children) (numbers White y.0.children) same (alike_numbers names White l.leaf.children y.0.children y.1.1.1) in
        record {
          leaf = y.0;
          there = y.1.0;
          unexpanded = sym same.mark ∙ l.unexpanded;
          holds = record {
            unseen = ap (is_at_sight draughts k) (sym same.position) ∙ may.unseen;
            unresolved = (λ i. is_resolved (sym black i) && is_resolved (sym white i)) ∙ may.unresolved;
          };
        }

    pub step_solve : (p : Board) (shown : List Certificate) (after : Forest) → GrowsWith k old (Solve n p shown) after → Compacts (Solve m p shown ∷ []) after names 0
    step_solve p shown after grows =
        let facts = facts_shown shown in
        let old_size : size (with_facts n facts old) ≡ size old = size-changed (learn n facts) old in
        let new_size : size (with_facts m facts new) ≡ size new = size-changed (learn m facts) new in
        record {
          grown = with_facts m facts new;
          grows = one_record k new (Solve m p shown) (with_facts m facts new) (record { lawful = lawful_solve p shown grows.lawful; applied = refl });
          size_is = omega (arith, new_size);
          holds = subst (λ (x : Forest). AreInStep k ends names x (with_facts m facts new)) (sym grows.applied)
              (record {
                roots = subst (λ x. AreRootsAlike k names x ends (with_facts n facts old) (with_facts m facts new)) (sym new_size)
                    (roots_learnt k names (size new) n facts m c.apart is ends old new c.roots);
                long = c.long ∙ sym old_size;
                apart = c.apart;
                low = λ o p q. (let l = c.low o p q in omega (arith, l, new_size));
              });
        }

    pub step_expand : (after : Forest) (grows : GrowsWith k old (Expand n) after) → Compacts (Expand m ∷ []) after (names ++ named_from (size new) (length (children_of n after grows))) (length (children_of n after grows))
    step_expand after grows =
        let l = grows.lawful in
        let by = grows.applied in
        let children = by.0 in
        let are = some_of (λ x. AreChildren k x.own.position children) (node_at n old) l.leaf l.there by.1.0 in
        let lawful = lawful_expand l in
        let y = found names n m c.apart is k (size new) ends old new l.leaf c.roots l.there in
        let there : IfSome (node_at m new) (λ x. AreChildren k x.own.position children) =
        subst (λ (o : Option Node). IfSome o (λ x. AreChildren k x.own.position children)) (sym y.1.0)
        (subst (λ q. AreChildren k q children) (let same = y.1.1.0 in same.position) are) in
        let more = names ++ named_from (size new) (length children) in
        let ext = extended_named names (size old) (size new) (length children) c.long in
        let grown = with_children m children new in
        let old_size : size (with_children n children old) ≡ size old + length children =
        size_with_children n children old l.leaf so l.there (leaf_childless n old l.leaf so l.there l.unexpanded) in
        let new_size : size grown ≡ size new + length children =
        size_with_children m children new lawful.leaf sn lawful.there (leaf_childless m new lawful.leaf sn lawful.there lawful.unexpanded) in
        let many : length more ≡ size old + length children =
        length-append names (named_from (size new) (length children)) ∙ (λ i. c.long i + length_named (length children) (size new) i) in
        record {
          grown = grown;
          grows = one_record k new (Expand m) grown (record { lawful = lawful; applied = (children, (there, refl)) });
          size_is = new_size;
          holds = subst (λ (x : Forest). AreInStep k ends more x grown) (sym by.1.1)
              (record {
                roots = roots_expanded k names more (size old) (size new) (size grown) ext (omega (arith, new_size)) n (size old) children m (size new) c.apart is
                    (λ j lt. new_named names (size old) (size new) (length children) j c.long lt) ends old new c.roots;
                long = many ∙ sym old_size;
                apart = apart_extended names more (size old) (size new) ext c.low c.apart;
                low = λ o p q. ⊎_elim (λ h. let lt = c.low o p h in omega (arith, lt, new_size))
                    (λ h. let lt = below_length more o (Some p) q in let x = h.1.0 in let z = h.1.1 in omega (arith, lt, many, x, z, new_size)) (ext.fresh o p q);
              });
        }

  -- ---- a work record of a node without one

  module _ (n : ℕ) (none : IsUnnamed names n) where
    pub step_solve_dropped : (p : Board) (shown : List Certificate) (after : Forest) → GrowsWith k old (Solve n p shown) after → Compacts [] after names 0
    step_solve_dropped p shown after grows =
        let facts = facts_shown shown in
        let old_size : size (with_facts n facts old) ≡ size old = size-changed (learn n facts) old in
        record {
          grown = new;
          grows = refl;
          size_is = omega arith;
          holds = subst (λ (x : Forest). AreInStep k ends names x new) (sym grows.applied)
              (record {
                roots = roots_learnt_dropped k names (size new) n facts none ends old new c.roots;
                long = c.long ∙ sym old_size;
                apart = c.apart;
                low = c.low;
              });
        }

    pub step_expand_dropped : (after : Forest) (grows : GrowsWith k old (Expand n) after) → Compacts [] after (names ++ unnamed_for (length (children_of n after grows))) 0
    step_expand_dropped after grows =
        let l = grows.lawful in
        let by = grows.applied in
        let children = by.0 in
        let more = names ++ unnamed_for (length children) in
        let ext = extended_unnamed names (size old) (size new) (length children) in
        let old_size : size (with_children n children old) ≡ size old + length children =
        size_with_children n children old l.leaf so l.there (leaf_childless n old l.leaf so l.there l.unexpanded) in
        let many : length more ≡ size old + length children =
        length-append names (unnamed_for (length children)) ∙ (λ i. c.long i + length_unnamed (length children) i) in
        record {
          grown = new;
          grows = refl;
          size_is = omega arith;
          holds = subst (λ (x : Forest). AreInStep k ends more x new) (sym by.1.1)
              (record {
                roots = roots_expanded_dropped k names more (size old) (size new) (size new) ext (omega arith) n (size old) children none
                    (λ j lt. new_unnamed names (size old) (length children) j c.long lt) ends old new c.roots;
                long = many ∙ sym old_size;
                apart = apart_extended names more (size old) (size new) ext c.low c.apart;
                low = λ o p q. c.low o p (named_old names (length children) o p q);
              });
        }

-- ---- what is seen of a root

nothing_flag : (b : Bool) (P : Type 0) → (b ≡ true → P) → (P → ⊥) → b ≡ false
nothing_flag true P f g = absurd (g (f refl))
nothing_flag false P f g = refl

nothing_seen : (k : ℕ) (p : Board) (facts : Known) → AreFactsAtSight k p facts → is_at_sight draughts k p ≡ false → facts ≡ nothing_known
nothing_seen k p facts f sight =
    let unseen : is_at_sight draughts k p ≡ true → ⊥ = λ e. false≢true (sym sight ∙ e) in
    let no_hold : (X : Type 0) → Contains [] p ⊎ ((is_at_sight draughts k p ≡ true) × X) → ⊥ = λ X h. ⊎_elim (λ none. let l = none.1 in omega (arith, l)) (λ seen. unseen seen.0) h in
    λ i. record {
      black_wins = nothing_flag facts.black_wins (ShowsWin draughts k Black 0 p) f.black_wins.0 (λ h. unseen h.0) i;
      white_wins = nothing_flag facts.white_wins (ShowsWin draughts k White 0 p) f.white_wins.0 (λ h. unseen h.0) i;
      black_holds = nothing_flag facts.black_holds (ShowsHold draughts k Black 0 [] p) f.black_holds.0 (no_hold (Wins draughts White p → ⊥)) i;
      white_holds = nothing_flag facts.white_holds (ShowsHold draughts k White 0 [] p) f.white_holds.0 (no_hold (Wins draughts Black p → ⊥)) i;
    }

gains_value : (v : Value) → includes nothing_known (value_known v) ≡ false
gains_value BlackWins = refl
gains_value WhiteWins = refl
gains_value Draw = refl

-- ---- a root more

module _ (k : ℕ) (ends : ℕ → Option Value) (names : Names) (old new : Forest) (c : AreInStep k ends names old new) (so : IsSoundForest old) (sn : IsSoundForest new)
    (p : Board) (after : Forest) (grows : GrowsWith k old (Begin p) after) where
  abbrev root : Child
  root = let by = grows.applied in by.0

  abbrev a : Own
  a = record { number = size old; position = root.position; facts = known root.facts; mark = Unexpanded }

  abbrev b : Own
  b = record { number = size new; position = root.position; facts = known root.facts; mark = Unexpanded }

  abbrev grown : Forest
  grown = with_root root.position (known root.facts) new

  grows_new : GrowsWith k new (Begin p) grown
  grows_new =
      let by = grows.applied in
      let may = grows.lawful in
      record {
        lawful = subst (MayBegin p) (same_positions k names (size new) ends old new c.roots) may;
        applied = (root, (by.1.0, (by.1.1.0, refl)));
      }

  old_size : size after ≡ size old + 1
  old_size = let by = grows.applied in ap size by.1.1.1 ∙ size-appended old (node a no_node no_node)

  new_size : size grown ≡ size new + 1
  new_size = size-appended new (node b no_node no_node)

  zero_on : (n : ℕ) → n + 0 ≡ n
  zero_on n = omega arith

  -- the root gets a name
  abbrev more_named : Names
  more_named = names ++ named_from (size new) 1

  many_named : length more_named ≡ size old + 1
  many_named = length-append names (named_from (size new) 1) ∙ (λ i. c.long i + length_named 1 (size new) i)

  pub step_begin : ends (length (nodes old)) ≡ None → Compacts k ends names old new c so sn (Begin p ∷ []) after (names ++ named_from (size new) 1) 1
  step_begin end =
      let ext = extended_named names (size old) (size new) 1 c.long in
      let by = grows.applied in
      let is : IsNamed more_named (size old) (size new) =
      subst (λ x. IsNamed more_named x (size new)) (zero_on (size old)) (subst (λ x. IsNamed more_named (size old + 0) x) (zero_on (size new)) (new_named names (size old) (size new) 1 0 c.long (omega arith))) in
      let alike : IsRootAlike k more_named (size grown) None a no_node b no_node = ((is, record { position = refl; facts = refl; mark = refl }), tt) in
      record {
        grown = grown;
        grows = one_record k new (Begin p) grown grows_new;
        size_is = new_size;
        holds = subst (λ (x : Forest). AreInStep k ends more_named x grown) (sym by.1.1.1)
            (record {
              roots = roots_appended k more_named (size grown) a b ends old new
                  (roots_more k names more_named (size old) (size new) (size grown) ext (omega (arith, new_size)) ends old new c.roots)
                  (subst (λ (e : Option Value). IsRootAlike k more_named (size grown) e a no_node b no_node) (sym end) alike);
              long = many_named ∙ sym (size-appended old (node a no_node no_node));
              apart = apart_extended names more_named (size old) (size new) ext c.low c.apart;
              low = λ o q h. ⊎_elim (λ h. let lt = c.low o q h in omega (arith, lt, new_size))
                  (λ x. let lt = below_length more_named o (Some q) h in let y = x.1.0 in let z = x.1.1 in omega (arith, lt, many_named, y, z, new_size)) (ext.fresh o q h);
            });
      }

  -- it gets none
  abbrev more_unnamed : Names
  more_unnamed = names ++ unnamed_for 1

  many_unnamed : length more_unnamed ≡ size old + 1
  many_unnamed = length-append names (unnamed_for 1) ∙ (λ i. c.long i + length_unnamed 1 i)

  -- whatever the new root knows
  stands : (v : Value) (facts : Known) (count : ℕ) → size new < count → (facts ≡ value_known v) ⊎ ((is_at_sight draughts k root.position ≡ true) × AreFactsAtSight k root.position facts)
      → StandsForSettled k more_unnamed count v a no_node (record b { facts = facts }) no_node
  stands v facts count lt decided = record {
    position = refl;
    dropped = subst (IsUnnamed more_unnamed) (zero_on (size old)) (new_unnamed names (size old) 1 0 c.long (omega arith));
    dropped_below = tt;
    unexpanded = refl;
    alone = refl;
    decided = decided;
    low = lt;
    own = λ o h. (let l = c.low o (size new) (named_old names 1 o (size new) h) in omega (arith, l));
  }

  unnamed_in_step : (v : Value) (facts : Known) → ends (length (nodes old)) ≡ Some v
      → (facts ≡ value_known v) ⊎ ((is_at_sight draughts k root.position ≡ true) × AreFactsAtSight k root.position facts)
      → AreInStep k ends more_unnamed after (with_root root.position facts new)
  unnamed_in_step v facts end decided =
      let ext = extended_unnamed names (size old) (size new) 1 in
      let by = grows.applied in
      let made = with_root root.position facts new in
      let made_size : size made ≡ size new + 1 = size-appended new (node (record b { facts = facts }) no_node no_node) in
      subst (λ (x : Forest). AreInStep k ends more_unnamed x made) (sym by.1.1.1)
      (record {
        roots = roots_appended k more_unnamed (size made) a (record b { facts = facts }) ends old new
            (roots_more k names more_unnamed (size old) (size new) (size made) ext (omega (arith, made_size)) ends old new c.roots)
            (subst (λ (e : Option Value). IsRootAlike k more_unnamed (size made) e a no_node (record b { facts = facts }) no_node) (sym end) (stands v facts (size made) (omega (arith, made_size)) decided));
        long = many_unnamed ∙ sym (size-appended old (node a no_node no_node));
        apart = apart_extended names more_unnamed (size old) (size new) ext c.low c.apart;
        low = λ o q h. (let l = c.low o q (named_old names 1 o q h) in omega (arith, l, made_size));
      })

  pub step_begin_seen : (v : Value) → ends (length (nodes old)) ≡ Some v → is_at_sight draughts k p ≡ true → Compacts k ends names old new c so sn (Begin p ∷ []) after (names ++ unnamed_for 1) 1
  step_begin_seen v end sight =
      let by = grows.applied in
      record {
        grown = grown;
        grows = one_record k new (Begin p) grown grows_new;
        size_is = new_size;
        holds = unnamed_in_step v (known root.facts) end (inr (subst (λ q. is_at_sight draughts k q ≡ true) (sym by.1.0) sight, by.1.1.0));
      }

  pub step_begin_solved : (v : Value) (shown : List Certificate) → ends (length (nodes old)) ≡ Some v → is_at_sight draughts k p ≡ false → facts_shown shown ≡ value_known v
      → All (IsShelved k p) shown → Compacts k ends names old new c so sn (Begin p ∷ Solve (size new) p shown ∷ []) after (names ++ unnamed_for 1) 1
  step_begin_solved v shown end sight tells shelved =
      let by = grows.applied in
      let m = size new in
      let told = facts_shown shown in
      let none : known root.facts ≡ nothing_known =
      nothing_seen k root.position (known root.facts) by.1.1.0 (subst (λ q. is_at_sight draughts k q ≡ false) (sym by.1.0) sight) in
      let nowhere = size_nowhere new sn in
      let knows : joined (known root.facts) told ≡ value_known v = ap (λ (x : Known). joined x told) none ∙ tells in
      let made = with_facts m told grown in
      let is : made ≡ with_root root.position (joined (known root.facts) told) new =
      changed_appended (learn m told) new (node b no_node no_node)
      ∙ (λ i. appended (learnt_nowhere m told new nowhere i) (node (told_self b told (eqb m m) (test_true m m refl) i) no_node no_node)) in
      let solve : GrowsWith k grown (Solve m p shown) made =
      record {
        lawful = record {
          leaf = record { own = b; children = no_node };
          there = found_last b new nowhere;
          unexpanded = refl;
          holds = record {
            position = by.1.0;
            shelved = shelved;
            gains = (λ i. includes (none i) (tells i)) ∙ gains_value v;
          };
        };
        applied = refl;
      } in
      record {
        grown = made;
        grows = (grown, (grows_new, (made, (solve, refl))));
        size_is = size-changed (learn m told) grown ∙ new_size;
        holds = subst (AreInStep k ends more_unnamed after) (sym is) (unnamed_in_step v (joined (known root.facts) told) end (inl knows));
      }
    where
      told_self : (own : Own) (facts : Known) (t : Bool) → t ≡ true → cond t (record own { facts = joined own.facts facts }) own ≡ record own { facts = joined own.facts facts }
      told_self own facts true e = refl
      told_self own facts false e = absurd (false≢true e)
