-- A list that stands for another is lawful, and keeps the roots and their numbers.
use Rattle.std.proofs.Common.{◌≡◌, ℕ, Bool, true, false, cond, inl, inr, ⊎_elim, List, [], ◌∷◌, ◌++◌, map, length, Option, Some, None, IsSome, refl, sym, ap, ◌∙◌, subst}
use Rattle.std.proofs.lemmas.Bool.{false≢true}
use Rattle.draughts_board.specs.Board.{Board, other}
use Rattle.draughts_board.specs.Draughts.{draughts}
use Rattle.draughts_board.specs.Game.{is_at_sight, ShowsWin, ShowsHold}
use Rattle.draughts_board.specs.declared.pieces.Side.{Side}
use Rattle.draughts_board.specs.declared.pieces.Side.TheVariants.{Black, White}
use Rattle.draughts_board.specs.declared.pieces.Value.{Value}
use Rattle.proof_numbers.specs.Known.{Known, IsConsistent, knows_win, knows_hold}
use Rattle.proof_numbers.specs.Numbers.{proved, refuted}
use Rattle.proof_tree.specs.Forest.{Own, Forest, no_node, node, nodes, size, numbers, numbers_at, numbers_by_mark, value_by, value_of}
use Rattle.proof_tree.specs.Sound.{EachNode, IsSoundNode}
use Rattle.bench_records.specs.declared.records.BenchRecord.{BenchRecord}
use Rattle.bench_records.specs.declared.records.BenchRecord.TheVariants.{Begin, Solve, Expand}
use Rattle.bench_core.specs.Growing.{GrowsWith, GrowsWithAll}
use Rattle.bench_core.specs.States.{KnowsSight}
use Rattle.bench_core.proofs.OneForest.{records_have_one_forest}
use Rattle.journal_compaction.specs.Compactions.{StandsForBegin, StandsFor, IsCompactionFrom, end_in, IsCompaction}
use Rattle.journal_compaction.specs.Laws.{CompactionsAreLawful, HaveSameRoots, CompactionsKeepNumbers}
use Rattle.journal_compaction.specs.Names.{Names, IsRootAlike, AreRootsAlike, AreInStep}
use Rattle.proof_tree.proofs.Opposed.{AreConsistent, are_consistent, settled_numbers}
use Rattle.journal_compaction.proofs.Folds.{value_numbers, seen_numbers}
use Rattle.journal_compaction.proofs.Alike.{same_numbers, alike_numbers}
use Rattle.journal_compaction.proofs.Found.{named_place, unnamed_place}
use Rattle.bench_core.proofs.GrownForests.{IsGrown, nothing_grown, grown_with, grown_with_all, sound_of, one_with_all}
use Rattle.journal_compaction.proofs.Steps.{same_positions, Compacts, step_solve, step_expand, step_solve_dropped, step_expand_dropped, step_begin, step_begin_seen, step_begin_solved}

pub grows_append : (k : ℕ) (f : Forest) (made rest : List BenchRecord) (g h : Forest) → GrowsWithAll k f made g → GrowsWithAll k g rest h → GrowsWithAll k f (made ++ rest) h
grows_append k f [] rest g h one two = subst (λ (x : Forest). GrowsWithAll k x rest h) one two
grows_append k f (r ∷ made) rest g h one two = (one.0, (one.1.0, grows_append k one.0 made rest g h one.1.1 two))

some_value : (o : Option Value) → IsSome o → (v : Value) × (o ≡ Some v)
some_value None h = absurd (false≢true h)
some_value (Some v) h = (v, refl)

-- ---- one record

module _ (k : ℕ) (ends : ℕ → Option Value) (names : Names) (old new : Forest) (c : AreInStep k ends names old new) (go : IsGrown k old) (gn : IsGrown k new)
    (after grown : Forest) where
  abbrev Goes : Type 0
  Goes = (more : Names) × AreInStep k ends more after grown

  by_made : (made due : List BenchRecord) (more : Names) (added : ℕ) → made ≡ due → GrowsWithAll k new made grown
      → Compacts k ends names old new c (sound_of k old go) (sound_of k new gn) due after more added → Goes
  by_made made due more added is grows s =
      let same = one_with_all k new due s.grown grown gn s.grows (subst (λ (l : List BenchRecord). GrowsWithAll k new l grown) is grows) in
      (more, subst (AreInStep k ends more after) same s.holds)

  begin_by : (p : Board) (made : List BenchRecord) → GrowsWith k old (Begin p) after → GrowsWithAll k new made grown → (e : Option Value) (sight : Bool) → ends (length (nodes old)) ≡ e
      → is_at_sight draughts k p ≡ sight → StandsForBegin e sight (size new) p made → Goes
  begin_by p made ga gm None sight end seen stands =
      by_made made (Begin p ∷ []) _ _ stands gm (step_begin k ends names old new c (sound_of k old go) (sound_of k new gn) p after ga end)
  begin_by p made ga gm (Some v) true end seen stands =
      by_made made (Begin p ∷ []) _ _ stands gm (step_begin_seen k ends names old new c (sound_of k old go) (sound_of k new gn) p after ga v end seen)
  begin_by p made ga gm (Some v) false end seen (shown, (tells, is)) =
      let all = subst (λ (l : List BenchRecord). GrowsWithAll k new l grown) is gm in
      let solve = all.1.1.1.0.lawful in
      by_made made (Begin p ∷ Solve (size new) p shown ∷ []) _ _ is gm
      (step_begin_solved k ends names old new c (sound_of k old go) (sound_of k new gn) p after ga v shown end seen tells (let may = solve.holds in may.shelved))

  step : (r : BenchRecord) (made : List BenchRecord) → GrowsWith k old r after → GrowsWithAll k new made grown → StandsFor k ends old new r made → Goes
  step (Begin p) made ga gm stands = begin_by p made ga gm (ends (length (nodes old))) (is_at_sight draughts k p) refl refl stands
  step (Solve n p shown) made ga gm (inl (i, (some, (place, is)))) =
      let v = some_value (ends i) some in
      by_made made [] _ _ is gm (step_solve_dropped k ends names old new c (sound_of k old go) (sound_of k new gn) n
      (unnamed_place k names (size new) n i place.down v.0 ends old new c.roots v.1 place.is) p shown after ga)
  step (Solve n p shown) made ga gm (inr (i, (m, (end, (place, is))))) =
      by_made made (Solve m p shown ∷ []) _ _ is gm (step_solve k ends names old new c (sound_of k old go) (sound_of k new gn) n m
      (named_place k names (size new) n m i place.down ends old new c.roots end place.in_old place.in_new) p shown after ga)
  step (Expand n) made ga gm (inl (i, (some, (place, is)))) =
      let v = some_value (ends i) some in
      by_made made [] _ _ is gm (step_expand_dropped k ends names old new c (sound_of k old go) (sound_of k new gn) n
      (unnamed_place k names (size new) n i place.down v.0 ends old new c.roots v.1 place.is) after ga)
  step (Expand n) made ga gm (inr (i, (m, (end, (place, is))))) =
      by_made made (Expand m ∷ []) _ _ is gm (step_expand k ends names old new c (sound_of k old go) (sound_of k new gn) n m
      (named_place k names (size new) n m i place.down ends old new c.roots end place.in_old place.in_new) after ga)

-- ---- all of them

-- the two forests in the end
record AreBothGrown (k : ℕ) (ends : ℕ → Option Value) (old new : Forest) (records made : List BenchRecord) : Type 0 where
  one : Forest
  another : Forest
  grows_one : GrowsWithAll k old records one
  grows_another : GrowsWithAll k new made another
  names : Names
  holds : AreInStep k ends names one another

both_grown : (k : ℕ) (ends : ℕ → Option Value) (names : Names) (old new : Forest) (records made : List BenchRecord) → AreInStep k ends names old new → IsGrown k old → IsGrown k new
    → IsCompactionFrom k ends old new records made → AreBothGrown k ends old new records made
both_grown k ends names old new [] made c go gn from = record {
  one = old;
  another = new;
  grows_one = refl;
  grows_another = subst (λ (l : List BenchRecord). GrowsWithAll k new l new) (sym from) refl;
  names = names;
  holds = c;
}
both_grown k ends names old new (r ∷ records) made c go gn (parts, (rest, (after, (grown, (is, (ga, (gm, (stands, from)))))))) =
    let next = step k ends names old new c go gn after grown r parts ga gm stands in
    let all = both_grown k ends next.0 after grown records rest next.1 (grown_with k old after r go ga) (grown_with_all k new parts grown gn gm) from in
    record {
      one = all.one;
      another = all.another;
      grows_one = (after, (ga, all.grows_one));
      grows_another = subst (λ (l : List BenchRecord). GrowsWithAll k new l all.another) (sym is) (grows_append k new parts rest grown all.another gm all.grows_another);
      names = all.names;
      holds = all.holds;
    }

pub nothing_in_step : (k : ℕ) (ends : ℕ → Option Value) → AreInStep k ends [] no_node no_node
nothing_in_step k ends = record {
  roots = tt;
  long = refl;
  apart = λ n o m p q. absurd cc;
  low = λ n m p. absurd cc;
}

all_in_step : (k : ℕ) (old new : List BenchRecord) (c : IsCompaction k old new) → AreBothGrown k (end_in c.roots) no_node no_node old new
all_in_step k old new c = both_grown k (end_in c.roots) [] no_node no_node old new (nothing_in_step k (end_in c.roots)) (nothing_grown k) (nothing_grown k) c.made

pub compactions_are_lawful : CompactionsAreLawful
compactions_are_lawful k old new c = let all = all_in_step k old new c in (all.another, all.grows_another)

-- ---- the roots in the end

root_same : (k : ℕ) (names : Names) (count : ℕ) (e : Option Value) (a : Own) (below : Forest) (b : Own) (under : Forest) → value_of (record { own = a; children = below }) ≡ e
    → IsConsistent a.facts → AreConsistent below → KnowsSight k (record { own = a; children = below }) → IsRootAlike k names count e a below b under
    → (goal : Side) → numbers_at goal b (numbers goal under) ≡ numbers_at goal a (numbers goal below)
root_same k names count None a below b under is ca cb sight h goal =
    sym (same_numbers goal a b (numbers goal below) (numbers goal under) h.0.1 (alike_numbers names goal below under h.1))
root_same k names count (Some v) a below b under is ca cb sight h goal =
    ⊎_elim
    (λ e.
    ap (λ (x : Known). cond (knows_win goal x) proved (cond (knows_hold (other goal) x) refuted (numbers_by_mark goal b.mark b.position (numbers goal under)))) e
    ∙ (value_numbers v goal (numbers_by_mark goal b.mark b.position (numbers goal under)) ∙ sym (settled_numbers a below ca cb v is goal)))
    (λ seen.
    seen_numbers k goal b.position b.facts a.facts (numbers_by_mark goal b.mark b.position (numbers goal under)) (numbers_by_mark goal a.mark a.position (numbers goal below)) seen.0 seen.1 ca
    (λ w. sight.wins goal (subst (λ q. ShowsWin draughts k goal 0 q) (sym h.position) w))
    (λ w. sight.holds (other goal) (subst (λ q. ShowsHold draughts k (other goal) 0 [] q) (sym h.position) w)))
    h.decided

roots_same : (k : ℕ) (names : Names) (count : ℕ) (f g : Forest) → AreRootsAlike k names count (end_in f) f g → AreConsistent f → EachNode (λ path. KnowsSight k) [] f
    → (goal : Side) → numbers goal g ≡ numbers goal f
roots_same k names count no_node no_node h c sight goal = refl
roots_same k names count no_node (node b under rest) h c sight goal = absurd h
roots_same k names count (node a below others) no_node h c sight goal = absurd h
roots_same k names count (node a below others) (node b under rest) h c sight goal =
    λ i. root_same k names count (value_of (record { own = a; children = below })) a below b under refl c.0 c.1.0 sight.0 h.0 goal i
    ∷ roots_same k names count others rest h.1 c.1.1 sight.1.1 goal i

values_same : (k : ℕ) (names : Names) (count : ℕ) (f g : Forest) → AreRootsAlike k names count (end_in f) f g → AreConsistent f → EachNode (λ path. KnowsSight k) [] f
    → map value_of (nodes g) ≡ map value_of (nodes f)
values_same k names count no_node no_node h c sight = refl
values_same k names count no_node (node b under rest) h c sight = absurd h
values_same k names count (node a below others) no_node h c sight = absurd h
values_same k names count (node a below others) (node b under rest) h c sight =
    let each = root_same k names count (value_of (record { own = a; children = below })) a below b under refl c.0 c.1.0 sight.0 h.0 in
    λ i. value_by (each Black i) (each White i) ∷ values_same k names count others rest h.1 c.1.1 sight.1.1 i

have_same : (k : ℕ) (names : Names) (f g : Forest) → IsGrown k f → AreInStep k (end_in f) names f g → HaveSameRoots f g
have_same k names f g grown c =
    let s = grown.1 in
    let consistent = are_consistent [] f (let n = s.numbered in n.each) in
    record {
      positions = sym (same_positions k names (size g) (end_in f) f g c.roots);
      numbers = roots_same k names (size g) f g c.roots consistent s.sight;
      values = values_same k names (size g) f g c.roots consistent s.sight;
    }

pub compactions_keep_numbers : CompactionsKeepNumbers
compactions_keep_numbers k old new one another c is_one is_another =
    let all = all_in_step k old new c in
    let here : all.one ≡ one = records_have_one_forest k old all.one one all.grows_one is_one in
    let there : all.another ≡ another = records_have_one_forest k new all.another another all.grows_another is_another in
    let ends : all.one ≡ c.roots = records_have_one_forest k old all.one c.roots all.grows_one c.forest in
    let same = have_same k all.names all.one all.another (grown_with_all k no_node old all.one (nothing_grown k) all.grows_one)
    (subst (λ (x : Forest). AreInStep k (end_in x) all.names all.one all.another) (sym ends) all.holds) in
    subst (λ (x : Forest). HaveSameRoots x another) here (subst (λ (x : Forest). HaveSameRoots all.one x) there same)
