-- Why behind what a lesson adds the position is a root that covers the claim.
use Rattle.std.proofs.Common.{◌≡◌, ◌∙◌, ◌-◌, ℕ, suc, Bool, true, false, cond, inr, List, ◌∷◌, map, length, Option, Some, None, refl, sym, ap, subst, slice_get, arith}
use Rattle.std.specs.Prelude.{◌&&◌, ◌||◌, not, nat_lt, is_some}
use Rattle.std.specs.Option.{option_map}
use Rattle.std.proofs.lemmas.Bool.{or_right, eq-eqb}
use Rattle.std.proofs.lemmas.Option.{slice_get-map}
use Rattle.draughts_board.specs.Board.{Board}
use Rattle.draughts_board.specs.Draughts.{draughts}
use Rattle.draughts_board.specs.Game.{Wins, is_at_sight}
use Rattle.draughts_board.specs.declared.pieces.Side.TheVariants.{Black, White}
use Rattle.draughts_board.proofs.Truth.{Wins-holds}
use Rattle.strategy_certificate.specs.declared.claims.Claim.{Claim}
use Rattle.strategy_certificate.specs.declared.claims.Claim.TheVariants.{Win, Hold, Draw}
use Rattle.strategy_certificate.specs.declared.certificates.Certificate.{Certificate}
use Rattle.strategy_certificate.specs.Certificates.{IsGood, IsTrueOf}
use Rattle.proof_numbers.specs.Facts.{known}
use Rattle.proof_numbers.specs.Sight.{AreFactsAtSight}
use Rattle.proof_numbers.specs.Known.{Known, joined, includes}
use Rattle.proof_tree.specs.declared.tree.TheConstants.{MOST_ROOTS}
use Rattle.proof_tree.specs.Forest.{Own, Forest, no_node, node, Node, nodes, size, value_of}
use Rattle.proof_tree.specs.Changes.{changed, learn, with_facts}
use Rattle.proof_tree.specs.Sound.{IsSoundForest}
use Rattle.certificate_checker.specs.Told.{facts_claimed, facts_shown}
use Rattle.bench_records.specs.declared.records.BenchRecord.{BenchRecord}
use Rattle.bench_records.specs.declared.records.BenchRecord.TheVariants.{Solve}
use Rattle.bench_core.specs.Growing.{GrowsWith, GrowsWithAll}
use Rattle.journal_lessons.specs.declared.lessons.Lesson.{Lesson}
use Rattle.journal_lessons.specs.declared.lessons.Lesson.TheVariants as lesson
use Rattle.journal_lessons.specs.Lessons.{root_with, covers, is_expanded, lesson_at, taught_by, IsSolveBy, AreAdded}
use Rattle.journal_lessons.specs.Laws.{IsCoveredAt, LessonsCover, root_of}
use Rattle.journal_lessons.proofs.LessonLemmas.{IsRootAt, root_there, recorded_tells, new_root, begun_forest, last_root}

-- ---- facts

covers_flag : (a b : Bool) → (b ≡ true → a ≡ true) → (a || not b) ≡ true
covers_flag true b h = refl
covers_flag false true h = h refl
covers_flag false false h = refl

and_by : (x y : Bool) → x ≡ true → y ≡ true → (x && y) ≡ true
and_by x y p q = ap (λ (b : Bool). b && y) p ∙ q

includes_from : (a b : Known) → (b.black_wins ≡ true → a.black_wins ≡ true) → (b.white_wins ≡ true → a.white_wins ≡ true) → (b.black_holds ≡ true → a.black_holds ≡ true) → (b.white_holds ≡ true → a.white_holds ≡ true)
    → includes a b ≡ true
includes_from a b p q r s =
    and_by ((a.black_wins || not b.black_wins) && (a.white_wins || not b.white_wins) && (a.black_holds || not b.black_holds)) (a.white_holds || not b.white_holds)
    (and_by ((a.black_wins || not b.black_wins) && (a.white_wins || not b.white_wins)) (a.black_holds || not b.black_holds)
    (and_by (a.black_wins || not b.black_wins) (a.white_wins || not b.white_wins) (covers_flag a.black_wins b.black_wins p) (covers_flag a.white_wins b.white_wins q))
    (covers_flag a.black_holds b.black_holds r))
    (covers_flag a.white_holds b.white_holds s)

joined_includes : (a b : Known) → includes (joined a b) b ≡ true
joined_includes a b =
    includes_from (joined a b) b (or_right a.black_wins b.black_wins) (or_right a.white_wins b.white_wins) (or_right a.black_holds b.black_holds) (or_right a.white_holds b.white_holds)

-- at sight all true facts are known
module _ (k : ℕ) (p : Board) (seen : is_at_sight draughts k p ≡ true) (facts : Known) (sight : AreFactsAtSight k p facts) where
  never : {P : Type 0} → false ≡ true → P
  never h = absurd cc

  black : Wins draughts Black p → includes facts (facts_claimed (Win Black)) ≡ true
  black wins = includes_from facts (facts_claimed (Win Black)) (λ t. sight.black_wins.1 (seen, wins)) never (λ t. sight.black_holds.1 (inr (seen, Wins-holds draughts Black p wins))) never

  white : Wins draughts White p → includes facts (facts_claimed (Win White)) ≡ true
  white wins = includes_from facts (facts_claimed (Win White)) never (λ t. sight.white_wins.1 (seen, wins)) never (λ t. sight.white_holds.1 (inr (seen, Wins-holds draughts White p wins)))

  pub seen_tells : (claim : Claim) → IsTrueOf claim p → includes facts (facts_claimed claim) ≡ true
  seen_tells (Win Black) wins = black wins
  seen_tells (Win White) wins = white wins
  seen_tells (Hold Black) holds = includes_from facts (facts_claimed (Hold Black)) never never (λ t. sight.black_holds.1 (inr (seen, holds))) never
  seen_tells (Hold White) holds = includes_from facts (facts_claimed (Hold White)) never never never (λ t. sight.white_holds.1 (inr (seen, holds)))
  seen_tells Draw (black_holds, white_holds) =
      includes_from facts (facts_claimed Draw) never never (λ t. sight.black_holds.1 (inr (seen, black_holds))) (λ t. sight.white_holds.1 (inr (seen, white_holds)))

-- ---- a root that was solved

module _ (f : Own → Own) where
  abbrev changed_node : Node → Node
  changed_node x = record { own = f x.own; children = changed f x.children }

  nodes_changed : (t : Forest) → nodes (changed f t) ≡ map changed_node (nodes t)
  nodes_changed no_node = refl
  nodes_changed (node own children others) = ap (λ (xs : List Node). record { own = f own; children = changed f children } ∷ xs) (nodes_changed others)

  changed_at : (t : Forest) (i : ℕ) (x : Node) → slice_get (nodes t) i ≡ Some x → slice_get (nodes (changed f t)) i ≡ Some (changed_node x)
  changed_at t i x at =
      ap (λ (xs : List Node). slice_get xs i) (nodes_changed t) ∙ (slice_get-map changed_node (nodes t) i ∙ ap (option_map changed_node) at)

abbrev with_more : Own → Known → Own
with_more own facts = record own { facts = joined own.facts facts }

learnt_own : (n : ℕ) (facts : Known) (own : Own) → own.number ≡ n → learn n facts own ≡ with_more own facts
learnt_own n facts own is = ap (λ (b : Bool). cond b (with_more own facts) own) (eq-eqb own.number n is)

nth : (place : ℕ) → suc place - 1 ≡ place
nth place = omega arith

module _ (c : Certificate) where
  covered_at : (t : Forest) (place : ℕ) (x : Node) → slice_get (nodes t) place ≡ Some x → x.own.position ≡ c.position → covers x c.claim ≡ true → IsCoveredAt (suc place) t c
  covered_at t place x at position covered = record {
    root = x;
    there = (omega arith, ap (slice_get (nodes t)) (nth place) ∙ at);
    position = position;
    covered = covered;
  }

  solved_covers : (t new : Forest) (n place : ℕ) (x : Node) (facts : Known) → slice_get (nodes t) place ≡ Some x → x.own.number ≡ n → x.own.position ≡ c.position → facts ≡ facts_claimed c.claim
      → new ≡ with_facts n facts t → IsCoveredAt (suc place) new c
  solved_covers t new n place x facts at number position tells is =
      let own : learn n facts x.own ≡ with_more x.own facts = learnt_own n facts x.own number in
      let y : Node = changed_node (learn n facts) x in
      let has : includes y.own.facts (facts_claimed c.claim) ≡ true =
      ap (λ (o : Own). includes o.facts (facts_claimed c.claim)) own ∙ (ap (λ (b : Known). includes (joined x.own.facts facts) b) (sym tells) ∙ joined_includes x.own.facts facts) in
      subst (λ (u : Forest). IsCoveredAt (suc place) u c) (sym is)
      (covered_at (with_facts n facts t) place y (changed_at (learn n facts) t place x at) (ap (λ (o : Own). o.position) own ∙ position)
      (or_right (is_some (value_of y)) (includes y.own.facts (facts_claimed c.claim)) has))

-- ---- what a lesson comes to

module _ (roots new : Forest) (c : Certificate) (added : List BenchRecord) (sound : IsSoundForest roots) (good : IsGood c) (truth : IsTrueOf c.claim c.position) where
  abbrev Covered : Lesson → Type 0
  Covered l = IsCoveredAt (root_of l) new c

  abbrev last_place : ℕ
  last_place = suc (length (nodes roots))

  one_solve : (t u : Forest) (n place : ℕ) (x : Node) → slice_get (nodes t) place ≡ Some x → x.own.number ≡ n → x.own.position ≡ c.position → (r : BenchRecord) → IsSolveBy n c r
      → GrowsWith c.pieces t r u → IsCoveredAt (suc place) u c
  one_solve t u n place x at number position r (shown, (are, is)) grows =
      let by : GrowsWith c.pieces t (Solve n c.position shown) u = subst (λ (q : BenchRecord). GrowsWith c.pieces t q u) is grows in
      solved_covers c t u n place x (facts_shown shown) at number position (recorded_tells c shown good.1.1.due are) by.applied

  new_covered : AreAdded c (lesson_at c.pieces roots c None) added → GrowsWithAll c.pieces roots added new → Covered (lesson_at c.pieces roots c None)
  new_covered are grows = by_room (nat_lt (length (nodes roots)) MOST_ROOTS) are
    where
      by_sight : (b : Bool) → is_at_sight draughts c.pieces c.position ≡ b
          → AreAdded c (cond b (lesson.Begins last_place) (lesson.BeginsAndSolves last_place (size roots))) added
          → Covered (cond b (lesson.Begins last_place) (lesson.BeginsAndSolves last_place (size roots)))
      by_sight true seen h =
          let all = subst (λ (rs : List BenchRecord). GrowsWithAll c.pieces roots rs new) h grows in
          let child = all.1.0.applied.0 in
          let by = all.1.0.applied.1 in
          let facts = known child.facts in
          let sight : AreFactsAtSight c.pieces c.position facts = subst (λ (q : Board). AreFactsAtSight c.pieces q facts) by.0 by.1.0 in
          let x = new_root roots child in
          let has = seen_tells c.pieces c.position seen facts sight c.claim truth in
          subst (λ (u : Forest). IsCoveredAt last_place u c) (sym (all.1.1 ∙ by.1.1))
          (covered_at c (begun_forest roots child) (length (nodes roots)) x (last_root roots child) by.0 (or_right (is_some (value_of x)) (includes facts (facts_claimed c.claim)) has))
      by_sight false unseen (r, (solve, h)) =
          let all = subst (λ (rs : List BenchRecord). GrowsWithAll c.pieces roots rs new) h grows in
          let child = all.1.0.applied.0 in
          let by = all.1.0.applied.1 in
          let next = all.0 in
          let x = new_root roots child in
          let at = subst (λ (t : Forest). slice_get (nodes t) (length (nodes roots)) ≡ Some x) (sym by.1.1) (last_root roots child) in
          let covered = one_solve next all.1.1.0 (size roots) (length (nodes roots)) x at refl by.0 r solve all.1.1.1.0 in
          subst (λ (u : Forest). IsCoveredAt last_place u c) (sym all.1.1.1.1) covered

      by_room : (b : Bool)
          → AreAdded c (cond b (cond (is_at_sight draughts c.pieces c.position) (lesson.Begins last_place) (lesson.BeginsAndSolves last_place (size roots))) lesson.TooManyRoots) added
          → Covered (cond b (cond (is_at_sight draughts c.pieces c.position) (lesson.Begins last_place) (lesson.BeginsAndSolves last_place (size roots))) lesson.TooManyRoots)
      by_room true h = by_sight (is_at_sight draughts c.pieces c.position) refl h
      by_room false h = absurd h

  module _ (n : ℕ) (x : Node) (is : root_with c.position roots ≡ Some (n, x)) where
    at : IsRootAt c.position 1 (nodes roots) n x
    at = root_there c.position 1 (nodes roots) n x is

    number : suc at.place ≡ n
    number = omega (arith, at.number)

    here : (u : Forest) → IsCoveredAt (suc at.place) u c → IsCoveredAt n u c
    here u = subst (λ (m : ℕ). IsCoveredAt m u c) number

    old_covered : AreAdded c (taught_by n x c.claim) added → GrowsWithAll c.pieces roots added new → Covered (taught_by n x c.claim)
    old_covered are grows = by_cover (covers x c.claim) refl are
      where
        by_mark : (b : Bool) → AreAdded c (cond b (lesson.RootExpanded n) (lesson.Solves n x.own.number)) added → Covered (cond b (lesson.RootExpanded n) (lesson.Solves n x.own.number))
        by_mark true h = absurd h
        by_mark false (r, (solve, h)) =
            let all = subst (λ (rs : List BenchRecord). GrowsWithAll c.pieces roots rs new) h grows in
            let covered = one_solve roots all.0 x.own.number at.place x at.at refl at.position r solve all.1.0 in
            here new (subst (λ (u : Forest). IsCoveredAt (suc at.place) u c) (sym all.1.1) covered)

        by_cover : (b : Bool) → covers x c.claim ≡ b
            → AreAdded c (cond b (lesson.Known n) (cond (is_expanded x.own.mark) (lesson.RootExpanded n) (lesson.Solves n x.own.number))) added
            → Covered (cond b (lesson.Known n) (cond (is_expanded x.own.mark) (lesson.RootExpanded n) (lesson.Solves n x.own.number)))
        by_cover true covered h =
            let same : new ≡ roots = subst (λ (rs : List BenchRecord). GrowsWithAll c.pieces roots rs new) h grows in
            here new (subst (λ (u : Forest). IsCoveredAt (suc at.place) u c) (sym same) (covered_at c roots at.place x at.at at.position covered))
        by_cover false lacking h = by_mark (is_expanded x.own.mark) h

pub lessons_cover : LessonsCover
lessons_cover roots new c added sound good truth are grows = by (root_with c.position roots) refl are
  where
    by : (o : Option (ℕ × Node)) → root_with c.position roots ≡ o → AreAdded c (lesson_at c.pieces roots c o) added → IsCoveredAt (root_of (lesson_at c.pieces roots c o)) new c
    by None none h = new_covered roots new c added sound good truth h grows
    by (Some (n, x)) is h = old_covered roots new c added sound good truth n x is h grows
