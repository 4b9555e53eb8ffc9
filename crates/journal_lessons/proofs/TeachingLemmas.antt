-- What is to be recorded behind the records of a bench.
use Rattle.std.proofs.Common.{◌≡◌, ◌∙◌, ℕ, List, [], ◌∷◌, ◌++◌, length, refl, sym, ap, subst, append-nil}
use Rattle.std.specs.Prelude.{Contains, ◌<◌, true, Result, Ok, Err, IfOk, IfErr}
use Rattle.draughts_board.specs.Board.{Board, IsLawful}
use Rattle.strategy_certificate.specs.declared.certificates.Certificate.{Certificate}
use Rattle.strategy_certificate.specs.Certificates.{IsGood, IsTrueOf}
use Rattle.strategy_certificate.specs.Tables.{IsTableSize}
use Rattle.certificate_checker.specs.Told.{facts_shown}
use Rattle.proof_tree.specs.Forest.{Forest}
use Rattle.proof_tree.specs.Changes.{with_facts}
use Rattle.proof_tree.specs.Sound.{IsSoundForest, root_positions}
use Rattle.proof_tree.specs.declared.tree.TheConstants.{MOST_ROOTS}
use Rattle.bench_records.specs.declared.records.BenchRecord.{BenchRecord}
use Rattle.bench_records.specs.declared.records.BenchRecord.TheVariants.{Begin, Solve}
use Rattle.bench_records.specs.Texts.{IsSoundRecord, IsText, IsTextFor, ShowsEnough, named_in}
use Rattle.bench_core.specs.Growing.{GrowsWith, GrowsWithAll, IsApplied, IsForestOf, IsLawfulRecord}
use Rattle.bench_core.specs.Records.{begun}
use Rattle.bench_core.specs.Cores.{Core, CanApplyAll, with_staged}
use Rattle.bench_core.specs.declared.settings.Settings.{Settings}
use Rattle.disk_journal.specs.declared.payload.Payload.{Payload}
use Rattle.tree_manager.specs.Receipts.{SpellsRecords}
use Rattle.tree_manager.specs.Replaying.{IsReplayedCore, RefusesPayloads, payload_texts}
use Rattle.journal_lessons.specs.declared.refusals.LearnRefusal.{LearnRefusal}
use Rattle.journal_lessons.specs.declared.refusals.LearnRefusal.TheVariants as refusal
use Rattle.journal_lessons.specs.Learnt.{RefusesLesson}
use Rattle.journal_lessons.specs.declared.lessons.Lesson.{Lesson}
use Rattle.journal_lessons.specs.declared.lessons.Lesson.TheVariants as lesson
use Rattle.journal_lessons.specs.Lessons.{AreAdded, IsRecordedAs, IsSolveBy, lesson_of}
use Rattle.journal_lessons.specs.Laws.{AreLawfulFrom, IsCoveredAt, root_of}
use Rattle.journal_lessons.specs.Teaching.{IsTaught, IsTaughtBehind, RefusesBehind, RefusesTeaching, SpellsForest}
use Rattle.journal_lessons.proofs.LessonLemmas.{begins_root, lessons_are_lawful, may_begin}
use Rattle.journal_lessons.proofs.CoverLemmas.{lessons_cover}
use Rattle.journal_lessons.proofs.RecordedLemmas.{recorded_enough}

-- a record that solves a node is applied
solve_applied : (k n : ℕ) (c : Certificate) (roots : Forest) (r : BenchRecord) → IsSolveBy n c r → IsLawfulRecord k roots r → (next : Forest) × GrowsWith k roots r next
solve_applied k n c roots r (shown, (are, is)) lawful =
    let next : Forest = with_facts n (facts_shown shown) roots in
    (next, record { lawful = lawful; applied = subst (λ (q : BenchRecord). IsApplied k roots q next) (sym is) refl })

-- what has a text is about a position under the rule on pieces
solve_lawful : (n : ℕ) (c : Certificate) (r : BenchRecord) → IsSolveBy n c r → IsSoundRecord r → IsLawful c.position
solve_lawful n c r (shown, (are, is)) sound = let at : IsSoundRecord (Solve n c.position shown) = subst IsSoundRecord is sound in at.1.0

module _ (before : List BenchRecord) (roots : Forest) (c : Certificate) (sound : IsSoundForest roots) (size_of : IsTableSize c.pieces) (good : IsGood c) (truth : IsTrueOf c.claim c.position) where
  abbrev Taught : ℕ → List (List ℕ) → Type 0
  Taught root texts = IsTaught c before roots root texts

  abbrev the_lesson : Lesson
  the_lesson = lesson_of c.pieces roots c

  taught_from : (l : Lesson) (added : List BenchRecord) (root : ℕ) (texts : List (List ℕ)) (now : Forest) → l ≡ the_lesson → root_of l ≡ root → AreAdded c l added
      → SpellsRecords c.pieces before added texts → GrowsWithAll c.pieces roots added now → Taught root texts
  taught_from l added root texts now is root_is are spelled grown =
      let added_so : AreAdded c the_lesson added = subst (λ (x : Lesson). AreAdded c x added) is are in
      record {
        added = added;
        lesson = added_so;
        spelled = spelled;
        now = now;
        grown = grown;
        covered = subst (λ (n : ℕ). IsCoveredAt n now c) (sym (ap root_of is) ∙ root_is) (lessons_cover roots now c added sound good truth added_so grown);
      }

  pub taught_known : (root : ℕ) → lesson.Known root ≡ the_lesson → Taught root []
  taught_known root is = taught_from (lesson.Known root) [] root [] roots is refl refl tt refl

  -- .. as the code has it
  pub taught_so : (root made : ℕ) (texts found : List (List ℕ)) → made ≡ root → found ≡ texts → Taught root texts → Taught made found
  taught_so root made texts found same are h = subst (λ (t : List (List ℕ)). Taught made t) (sym are) (subst (λ (m : ℕ). Taught m texts) (sym same) h)

  pub taught_solves : (root n : ℕ) (text : List ℕ) → lesson.Solves root n ≡ the_lesson → (r : BenchRecord) → IsSolveBy n c r → IsText c.pieces before r text → Taught root (text ∷ [])
  taught_solves root n text is r solve spelled =
      let are : AreAdded c (lesson.Solves root n) (r ∷ []) = (r, (solve, refl)) in
      let lawful : IsLawful c.position = solve_lawful n c r solve spelled.sound in
      let may : AreLawfulFrom c.pieces roots (r ∷ []) = lessons_are_lawful roots c (r ∷ []) sound lawful size_of good (subst (λ (x : Lesson). AreAdded c x (r ∷ [])) is are) in
      let next = solve_applied c.pieces n c roots r solve may.0 in
      taught_from (lesson.Solves root n) (r ∷ []) root (text ∷ []) next.0 is refl are (spelled, tt) (next.0, (next.1, refl))

  pub taught_begins : (root : ℕ) (text : List ℕ) (now : Forest) → lesson.Begins root ≡ the_lesson → IsText c.pieces before (Begin c.position) text → GrowsWithAll c.pieces roots (Begin c.position ∷ []) now → Taught root (text ∷ [])
  taught_begins root text now is spelled grown = taught_from (lesson.Begins root) (Begin c.position ∷ []) root (text ∷ []) now is refl refl (spelled, tt) grown

  pub taught_both : (root n : ℕ) (first second : List ℕ) (next : Forest) → lesson.BeginsAndSolves root n ≡ the_lesson → IsText c.pieces before (Begin c.position) first
      → GrowsWithAll c.pieces roots (Begin c.position ∷ []) next → (r : BenchRecord) → IsSolveBy n c r → IsText c.pieces (before ++ Begin c.position ∷ []) r second → Taught root (first ∷ second ∷ [])
  taught_both root n first second next is spelled grown r solve behind =
      let added : List BenchRecord = Begin c.position ∷ r ∷ [] in
      let are : AreAdded c (lesson.BeginsAndSolves root n) added = (r, (solve, refl)) in
      let may : AreLawfulFrom c.pieces roots added = lessons_are_lawful roots c added sound spelled.sound size_of good (subst (λ (x : Lesson). AreAdded c x added) is are) in
      let begun = grown.1.0 in
      let solved = solve_applied c.pieces n c grown.0 r solve (may.1 grown.0 begun.applied).0 in
      taught_from (lesson.BeginsAndSolves root n) added root (first ∷ second ∷ []) solved.0 is refl are (spelled, (behind, tt)) (grown.0, (begun, (solved.0, (solved.1, refl))))

-- ---- staging the root that begins

pub may_stage : (roots : Forest) (c : Certificate) (staged : List BenchRecord) (l : Lesson) → l ≡ lesson_of c.pieces roots c → begins_root l ≡ true → staged ≡ []
    → (¬ Contains (root_positions roots ++ begun staged) c.position) × (length (root_positions roots ++ begun staged) < MOST_ROOTS)
may_stage roots c staged l is begins none =
    let may = may_begin roots c (ap begins_root (sym is) ∙ begins) in
    let all : root_positions roots ++ begun staged ≡ root_positions roots = ap (λ (rs : List BenchRecord). root_positions roots ++ begun rs) none ∙ append-nil (root_positions roots) in
    subst (λ (ps : List Board). (¬ Contains ps c.position) × (length ps < MOST_ROOTS)) (sym all) may

pub begun_grows : (k : ℕ) (core new : Core) (p : Board) → k ≡ core.state.settings.pieces → new ≡ with_staged core (Begin p) → core.staged ≡ [] → CanApplyAll new → (next : Forest) × GrowsWithAll k core.state.forest (Begin p ∷ []) next
begun_grows k core new p pieces is none can =
    let h : CanApplyAll (with_staged core (Begin p)) = subst CanApplyAll is can in
    (h.0, subst (λ (n : ℕ). GrowsWithAll n core.state.forest (Begin p ∷ []) h.0) (sym pieces) (subst (λ (rs : List BenchRecord). GrowsWithAll core.state.settings.pieces core.state.forest (rs ++ Begin p ∷ []) h.0) none h.1))

-- what stands before the next record
pub before_none : (core : Core) → core.staged ≡ [] → core.records ++ core.staged ≡ core.records
before_none core none = ap (λ (rs : List BenchRecord). core.records ++ rs) none ∙ append-nil core.records

pub before_begun : (core new : Core) (p : Board) → new ≡ with_staged core (Begin p) → core.staged ≡ [] → new.records ++ new.staged ≡ core.records ++ Begin p ∷ []
before_begun core new p is none = ap (λ (x : Core). x.records ++ x.staged) is ∙ ap (λ (rs : List BenchRecord). core.records ++ (rs ++ Begin p ∷ [])) none

-- ---- behind payloads

module _ (c proved : Certificate) (payloads : List Payload) (s : Settings) (core : Core) (same : c ≡ proved)
    (replayed : IsReplayedCore s core) (spelled : SpellsRecords s.pieces [] core.records (payload_texts payloads)) (pieces : s.pieces ≡ proved.pieces) where
  abbrev spells : SpellsForest proved.pieces payloads
  spells = record {
    before = core.records;
    spelled = subst (λ (k : ℕ). SpellsRecords k [] core.records (payload_texts payloads)) pieces spelled;
    roots = core.state.forest;
    forest = subst (λ (k : ℕ). IsForestOf k core.records core.state.forest) pieces replayed.forest;
  }

  pub taught_behind : {X E : Type 0} (root : X → ℕ) (texts : X → List (List ℕ)) (answer : Result X E) → IfOk answer (λ t. IsTaught c core.records core.state.forest (root t) (texts t))
      → IfOk answer (λ t. IsTaughtBehind proved payloads (root t) (texts t))
  taught_behind root texts (Ok t) h = (spells, subst (λ (d : Certificate). IsTaught d core.records core.state.forest (root t) (texts t)) same h)
  taught_behind root texts (Err e) h = tt

  refuses_behind : (r : LearnRefusal) → RefusesTeaching c core.state.forest r → RefusesBehind proved payloads r
  refuses_behind (refusal.Journal cause) (error, is) = subst (RefusesPayloads proved.pieces payloads) (sym is) tt
  refuses_behind (refusal.RootExpanded n) h = (spells, subst (λ (d : Certificate). RefusesLesson (lesson_of d.pieces core.state.forest d) (refusal.RootExpanded n)) same h)
  refuses_behind refusal.TooManyRoots h = (spells, subst (λ (d : Certificate). RefusesLesson (lesson_of d.pieces core.state.forest d) refusal.TooManyRoots) same h)

  pub refused_behind : {X : Type 0} (answer : Result X LearnRefusal) → IfErr answer (RefusesTeaching c core.state.forest) → IfErr answer (RefusesBehind proved payloads)
  refused_behind (Ok t) h = tt
  refused_behind (Err r) h = refuses_behind r h

-- ---- the text of the record that solves a node

pub solve_says : {X E : Type 0} (items : X → List ℕ) (n : ℕ) (c : Certificate) (shown : List Certificate) (before : List BenchRecord) (named : List Board) (answer : Result X E)
    → named ≡ named_in [] before → IsGood c → IsRecordedAs c shown
    → IfOk answer (λ t. (k : ℕ) → ShowsEnough k (Solve n c.position shown) → IsTextFor k named (Solve n c.position shown) (items t))
    → IfOk answer (λ t. (r : BenchRecord) × (IsSolveBy n c r × IsText c.pieces before r (items t)))
solve_says items n c shown before named (Ok t) is good are said =
    (Solve n c.position shown, ((shown, (are, refl)), subst (λ (ps : List Board). IsTextFor c.pieces ps (Solve n c.position shown) (items t)) is (said c.pieces (recorded_enough n c shown good are))))
solve_says items n c shown before named (Err e) is good are said = tt
