-- What begun roots and the work behind them come to.
use Rattle.std.proofs.Common.{length, ◌≡◌, ◌≤◌, ◌⊎◌, inl, inr, ⊎_elim, ℕ, List, [], ◌∷◌, ◌++◌, refl, ap, sym, ◌∙◌, subst, map, append_assoc, append-nil, arith}
use Rattle.std.specs.Prelude.{All, Contains, Bool, true, false, cond, is_some, IfSome, Option}
use Rattle.std.specs.List.{list_all, list_any}
use Rattle.std.specs.declared.alloc.AllocError.{AllocError}
use Rattle.std.proofs.lemmas.Bool.{true≢false, or_cases}
use Rattle.std.proofs.lemmas.List.Folds.{list_all-map}
use Rattle.std.proofs.lemmas.List.Elements.{All-head, All-tail, Contains-append_left, Contains-push, Contains-push_cases}
use Rattle.draughts_board.specs.Board.{Board, same_board}
use Rattle.draughts_board.specs.Draughts.{draughts}
use Rattle.draughts_board.specs.Game.{HasValue}
use Rattle.draughts_board.specs.Same.{same_board-Decides}
use Rattle.proof_tree.specs.Forest.{Forest, no_node, Node, nodes, value_of}
use Rattle.proof_tree.specs.Sound.{IsSoundForest, root_positions}
use Rattle.strategy_certificate.specs.declared.oracle.Answer.{Answer}
use Rattle.strategy_certificate.specs.Tables.{IsSoundTable, IsTableSize}
use Rattle.bench_records.specs.declared.records.BenchRecord.{BenchRecord}
use Rattle.bench_records.specs.declared.records.BenchRecord.TheVariants.{Begin, Solve, Expand}
use Rattle.bench_core.specs.Records.{begun}
use Rattle.bench_core.specs.Growing.{GrowsWith, GrowsWithAll, IsForestOf}
use Rattle.bench_core.specs.States.{CoreState, IsSoundState, are_settled}
use Rattle.bench_core.proofs.EventLaws.{sound_values_are_true}
use Rattle.bench_core.proofs.Lists.{Contains-here, Contains-there, Contains-cases, Contains-map}
use Rattle.bench_core.proofs.OneForest.{roots_are_those_begun}
use Rattle.bench_core.proofs.SoundApplied.{roots_grown}
use Rattle.opening_report.specs.declared.roots.Root.{Root}
use Rattle.opening_report.specs.Lines.{IsLine}
use Rattle.opening_report.specs.Report.{report_of, summary_line, root_of, forest_roots, IsTrueRoot, AreTrueRoots, AreApart}
use Rattle.opening_report.proofs.BenchLemmas.{root_true}
use Rattle.turn_lock.specs.Growth.{GrowsTo}
use Rattle.tree_manager.specs.declared.entries.Entry.{Entry}
use Rattle.tree_manager.specs.declared.entries.Entry.TheVariants.{Put, Attached, Leased, Released, Acked, Broken}
use Rattle.tree_manager.specs.declared.refusals.BeginRefusal.{BeginRefusal}
use Rattle.tree_manager.specs.declared.refusals.BeginRefusal.TheVariants as begin
use Rattle.tree_manager.specs.Entries.{record_put, breaks}
use Rattle.tree_manager.specs.Lines.{recorded, applied_in, is_failed}
use Rattle.tree_manager.specs.Histories.{IsCoreOf, IsHistory}
use Rattle.tree_manager.specs.Sessions.{SessionState, with_roots, BeginsRoots, HasBegun, RefusesBegin, MayAddInTurn}
use Rattle.tree_manager.proofs.LineLemmas.{any_push_yes}
use Rattle.tree_manager.proofs.CoreLemmas.{contains_nothing}
use Rattle.worker_gate.specs.declared.worker.Ended.TheVariants.{Done, Spent}
use Rattle.journal_runs.specs.Ends.{IsIdle, IsEndedBy, GoesOnFrom, HasRun, HasWorked}
use Rattle.journal_runs.specs.Journals.{CountsRoots, ReportsTruth}
use Rattle.journal_runs.specs.FirstPass.{HasSearched}
use Rattle.journal_runs.proofs.AmpleLines.{ample_settles, records_sound}
use Rattle.journal_runs.proofs.AttachedLines.{all_applied, begun_append}
use Rattle.journal_runs.proofs.FirstLines.{reached_ends}

-- ---- no position is two of them

abbrev AreOnce : List Board → Type 0
AreOnce [] = Unit {0}
AreOnce (p ∷ ps) = (Contains ps p → ⊥) × AreOnce ps

push_once : (ps : List Board) (q : Board) → AreOnce ps → (Contains ps q → ⊥) → AreOnce (ps ++ q ∷ [])
push_once [] q once absent = ((λ there. contains_nothing q there), tt)
push_once (p ∷ ps) q once absent = (
  (λ there. ⊎_elim once.0 (λ same. absent (subst (λ (x : Board). Contains (p ∷ ps) x) (sym same) (Contains-here p ps))) (Contains-push_cases ps q p there)),
  push_once ps q once.1 (λ there. absent (Contains-there p q ps there)),
)

grown_once : (k : ℕ) (f g : Forest) (r : BenchRecord) → GrowsWith k f r g → AreOnce (root_positions f) → AreOnce (root_positions g)
grown_once k f g (Begin p) grows once = subst AreOnce (sym (roots_grown k f g (Begin p) grows)) (push_once (root_positions f) p once (let may = grows.lawful in may.absent))
grown_once k f g (Solve n p shown) grows once = subst AreOnce (sym (roots_grown k f g (Solve n p shown) grows ∙ append-nil (root_positions f))) once
grown_once k f g (Expand n) grows once = subst AreOnce (sym (roots_grown k f g (Expand n) grows ∙ append-nil (root_positions f))) once

all_once : (k : ℕ) (f : Forest) (rs : List BenchRecord) (g : Forest) → GrowsWithAll k f rs g → AreOnce (root_positions f) → AreOnce (root_positions g)
all_once k f [] g grows once = subst (λ (h : Forest). AreOnce (root_positions h)) (sym grows) once
all_once k f (r ∷ rs) g grows once = all_once k grows.0 rs g grows.1.1 (grown_once k f grows.0 r grows.1.0 once)

root_places : (xs : List Node) → map (λ (r : Root). r.position) (map root_of xs) ≡ map (λ (x : Node). x.own.position) xs
root_places [] = refl
root_places (x ∷ xs) = ap (λ (ps : List Board). x.own.position ∷ ps) (root_places xs)

are_apart : (xs : List Node) → AreOnce (map (λ (x : Node). x.own.position) xs) → AreApart (map root_of xs)
are_apart [] once = tt
are_apart (x ∷ xs) once = (
  (λ q there same. once.0
      (subst (λ (p : Board). Contains (map (λ (y : Node). y.own.position) xs) p) (sym same)
      (subst (λ (ps : List Board). Contains ps q.position) (root_places xs) (Contains-map (λ (r : Root). r.position) (map root_of xs) q there)))),
  are_apart xs once.1,
)

-- ---- each position is one of them

any_there : (q : Board) (ps : List Board) → list_any (same_board q) ps ≡ true → Contains ps q
any_there q [] h = absurd (true≢false (sym h))
any_there q (p ∷ ps) h = ⊎_elim
    (λ same. subst (λ (x : Board). Contains (p ∷ ps) x) (sym ((same_board-Decides q p).0 same)) (Contains-here p ps))
    (λ rest. Contains-there p q ps (any_there q ps rest))
    (or_cases (same_board q p) (list_any (same_board q) ps) h)

more_roots : (b : Bool) (ps : List Board) (q p : Board) → Contains ps p → Contains (cond b ps (ps ++ q ∷ [])) p
more_roots true ps q p there = there
more_roots false ps q p there = Contains-append_left ps (q ∷ []) p there

root_stays : (ps qs : List Board) (p : Board) → Contains ps p → Contains (with_roots ps qs) p
root_stays ps [] p there = there
root_stays ps (q ∷ qs) p there = root_stays (cond (list_any (same_board q) ps) ps (ps ++ q ∷ [])) qs p (more_roots (list_any (same_board q) ps) ps q p there)

root_comes : (b : Bool) (ps : List Board) (q : Board) → list_any (same_board q) ps ≡ b → Contains (cond b ps (ps ++ q ∷ [])) q
root_comes true ps q h = any_there q ps h
root_comes false ps q h = Contains-push ps q

each_comes : (ps qs : List Board) (p : Board) → Contains qs p → Contains (with_roots ps qs) p
each_comes ps [] p there = absurd (contains_nothing p there)
each_comes ps (q ∷ qs) p there = ⊎_elim
    (λ same. subst (λ (x : Board). Contains (with_roots ps (q ∷ qs)) x) same
    (root_stays (cond (list_any (same_board q) ps) ps (ps ++ q ∷ [])) qs q (root_comes (list_any (same_board q) ps) ps q refl)))
    (λ rest. each_comes (cond (list_any (same_board q) ps) ps (ps ++ q ∷ [])) qs p rest)
    (Contains-cases q p qs there)

abbrev RootAt : List Node → Board → Type 0
RootAt xs p = (r : Root) × (Contains (map root_of xs) r × (r.position ≡ p))

root_found : (xs : List Node) (p : Board) → Contains (map (λ (x : Node). x.own.position) xs) p → RootAt xs p
root_found [] p there = absurd (contains_nothing p there)
root_found (x ∷ xs) p there = ⊎_elim
    (λ same. (root_of x, (Contains-here (root_of x) (map root_of xs), same)))
    (λ rest. let found = root_found xs p rest in (found.0, (Contains-there (root_of x) found.0 (map root_of xs) found.1.0, found.1.1)))
    (Contains-cases x.own.position p (map (λ (y : Node). y.own.position) xs) there)

-- ---- the values of a forest of records are true

true_of : (roots : Forest) → IsSoundForest roots → (xs : List Node) → ((x : Node) → Contains xs x → Contains (nodes roots) x) → All (λ (x : Node). IfSome (value_of x) (HasValue draughts x.own.position)) xs
    → AreTrueRoots (map root_of xs)
true_of roots sound [] within right r there = absurd (contains_nothing r there)
true_of roots sound (x ∷ xs) within right r there = ⊎_elim
    (λ same. subst IsTrueRoot same (root_true roots sound x (within x (Contains-here x xs)) (All-head (λ (y : Node). IfSome (value_of y) (HasValue draughts y.own.position)) x xs right)))
    (λ rest. true_of roots sound xs (λ y h. within y (Contains-there x y xs h)) (All-tail (λ (y : Node). IfSome (value_of y) (HasValue draughts y.own.position)) x xs right) r rest)
    (Contains-cases (root_of x) r (map root_of xs) there)

values_true : (k : ℕ) (answer : Board → Option Answer) (rs : List BenchRecord) (f : Forest) → IsSoundTable draughts k answer → k ≤ 3 → IsForestOf k rs f → AreTrueRoots (forest_roots f)
values_true k answer rs f table few grown =
    let state : CoreState = record { forest = f; leases = record { limit = 1; rows = [] }; given = 0; work = 0; settings = record { budget = 0; depth = 0; pieces = k } } in
    let sound : IsSoundState state = records_sound rs state (omega arith) refl grown in
    true_of f sound.1.numbered (nodes f) (λ x there. there) (sound_values_are_true answer state table few sound)

module _ (k : ℕ) (rs : List BenchRecord) (f : Forest) (old positions : List Board) (grown : IsForestOf k rs f) (roots : root_positions f ≡ with_roots old positions) where
  each_held : (p : Board) → Contains positions p → RootAt (nodes f) p
  each_held p there = root_found (nodes f) p (subst (λ (ps : List Board). Contains ps p) (sym roots) (each_comes old positions p there))

  all_apart : AreApart (forest_roots f)
  all_apart = are_apart (nodes f) (all_once k no_node rs f grown tt)

  all_settled : (settled : Bool) → settled ≡ are_settled f → settled ≡ list_all (λ (r : Root). is_some r.value) (forest_roots f)
  all_settled settled is = is ∙ sym (list_all-map (λ (r : Root). is_some r.value) root_of (nodes f))

  pub reports_truth : (text : List ℕ) (settled : Bool) → settled ≡ are_settled f → AreTrueRoots (forest_roots f) → length (forest_roots f) ≤ 65536 → text ≡ report_of (forest_roots f) → ReportsTruth positions text settled
  reports_truth text settled told values few is =
      record { roots = forest_roots f; few = few; true_values = values; text_is = is; settled_is = all_settled settled told; each = each_held; apart = all_apart }

  pub counts_roots : (answer : Board → Option Answer) (text : List ℕ) (settled : Bool) → IsSoundTable draughts k answer → k ≤ 3 → settled ≡ are_settled f → IsLine (summary_line (forest_roots f)) → text ≡ summary_line (forest_roots f) → CountsRoots positions text settled
  counts_roots answer text settled table few told line is =
      record { roots = forest_roots f; true_values = values_true k answer rs f table few grown; text_is = is; settled_is = all_settled settled told; line = subst IsLine (sym is) line; each = each_held; apart = all_apart }

-- ---- lines

recorded_append : (xs ys : List Entry) → recorded (xs ++ ys) ≡ recorded xs ++ recorded ys
recorded_append [] ys = refl
recorded_append (e ∷ xs) ys = ap (λ (rs : List BenchRecord). record_put e ++ rs) (recorded_append xs ys) ∙ sym (append_assoc (record_put e) (recorded xs) (recorded ys))

abbrev begun_in : List Entry → List Board
begun_in line = begun (recorded line)

in_append : (xs ys : List Entry) → begun_in (xs ++ ys) ≡ begun_in xs ++ begun_in ys
in_append xs ys = ap begun (recorded_append xs ys) ∙ begun_append (recorded xs) (recorded ys)

abbrev pub root_puts : List Board → List Entry
root_puts added = map (λ p. Put (Begin p)) added

in_puts : (added : List Board) → begun_in (root_puts added) ≡ added
in_puts [] = refl
in_puts (p ∷ added) = ap (λ (ps : List Board). p ∷ ps) (in_puts added)

in_last : (m : ℕ) (last : List Entry) → (last ≡ []) ⊎ (last ≡ Acked m ∷ []) → begun_in last ≡ []
in_last m last (inl none) = ap begun_in none
in_last m last (inr acked) = ap begun_in acked

-- turns begin no root
in_turns : (added : List Entry) → All MayAddInTurn added → begun_in added ≡ []
in_turns [] all = refl
in_turns (Put (Begin p) ∷ es) all = absurd (true≢false (sym (All-head MayAddInTurn (Put (Begin p)) es all)))
in_turns (Put (Solve n p shown) ∷ es) all = in_turns es (All-tail MayAddInTurn (Put (Solve n p shown)) es all)
in_turns (Put (Expand n) ∷ es) all = in_turns es (All-tail MayAddInTurn (Put (Expand n)) es all)
in_turns (Attached a ∷ es) all = absurd (All-head MayAddInTurn (Attached a) es all)
in_turns (Leased l ∷ es) all = in_turns es (All-tail MayAddInTurn (Leased l) es all)
in_turns (Released id ∷ es) all = in_turns es (All-tail MayAddInTurn (Released id) es all)
in_turns (Acked m ∷ es) all = in_turns es (All-tail MayAddInTurn (Acked m) es all)
in_turns (Broken f ∷ es) all = in_turns es (All-tail MayAddInTurn (Broken f) es all)

-- the roots of an idle session's forest
idle_roots : {D : Type 0} (s : SessionState D) → IsIdle s → IsCoreOf s.line s.core → root_positions s.core.state.forest ≡ begun_in s.line
idle_roots s idle stands =
    roots_are_those_begun s.core.state.settings.pieces (applied_in s.line) s.core.state.forest stands.state.forest
    ∙ ap begun (sym (all_applied s.line (sym stands.staged ∙ idle.none_staged)))

-- ---- behind the beginning of roots

module _ {D : Type 0} (old mid : SessionState D) (positions : List Board) (m : ℕ) (begins : HasBegun old positions m mid) where
  pub begun_goes_on : GoesOnFrom old.line mid.line
  begun_goes_on = (root_puts begins.roots.added ++ begins.last, begins.roots.line)

  pub worked_goes_on : (new : List Entry) → GrowsTo MayAddInTurn mid.line new → GoesOnFrom old.line new
  worked_goes_on new grows = (
    (root_puts begins.roots.added ++ begins.last) ++ grows.added,
    sym grows.whole ∙ (ap (λ (l : List Entry). l ++ grows.added) begins.roots.line ∙ append_assoc old.line (root_puts begins.roots.added ++ begins.last) grows.added),
  )

  module _ (new : SessionState D) (was : IsIdle old) (stood : IsCoreOf old.line old.core) (grows : GrowsTo MayAddInTurn mid.line new.line) (idle : IsIdle new) (stands : IsCoreOf new.line new.core) where
    mid_roots : begun_in mid.line ≡ begun_in old.line ++ begins.roots.added
    mid_roots =
        let puts = root_puts begins.roots.added in
        ap begun_in begins.roots.line
        ∙ (in_append old.line (puts ++ begins.last)
        ∙ ap (λ (ps : List Board). begun_in old.line ++ ps)
        (in_append puts begins.last
        ∙ (ap (λ (ps : List Board). begun_in puts ++ ps) (in_last m begins.last begins.acknowledged) ∙ (append-nil (begun_in puts) ∙ in_puts begins.roots.added))))

    pub roots_after : root_positions new.core.state.forest ≡ with_roots (root_positions old.core.state.forest) positions
    roots_after =
        idle_roots new idle stands
        ∙ (ap begun_in (sym grows.whole)
        ∙ (in_append mid.line grows.added
        ∙ (ap (λ (ps : List Board). begun_in mid.line ++ ps) (in_turns grows.added grows.allowed)
        ∙ (append-nil (begun_in mid.line)
        ∙ (mid_roots
        ∙ (ap (λ (ps : List Board). ps ++ begins.roots.added) (sym (idle_roots old was stood)) ∙ begins.roots.all))))))

    worked_from : (text_of : Forest → List ℕ) (lease : ℕ) (text : List ℕ) (settled : Bool) → text ≡ text_of new.core.state.forest → settled ≡ are_settled new.core.state.forest
        → (settled ≡ false → new.core.state.settings.budget ≤ new.core.state.work) → IsCoreOf mid.line mid.core → HasSearched lease mid.core new.line → IsHistory new.line new.core
        → HasWorked text_of lease old positions new text settled
    worked_from text_of lease text settled text_is settled_is spent stood searched history = record {
      idle = idle;
      stands = stands;
      text_is = text_is;
      roots_are = roots_after;
      settled_is = settled_is;
      spent = spent;
      ample = λ replayed a budget core budget_is ample. ample_settles replayed a old mid positions m core begins budget new settled budget_is ample stood grows history settled_is spent;
      reached = λ replayed a budget core budget_is limit_is room. reached_ends replayed a old mid positions m core begins budget lease new budget_is limit_is room stood grows searched history;
    }

    truth_after : (text : List ℕ) (settled : Bool) → settled ≡ are_settled new.core.state.forest → AreTrueRoots (forest_roots new.core.state.forest) → length (forest_roots new.core.state.forest) ≤ 65536 → text ≡ report_of (forest_roots new.core.state.forest)
        → ReportsTruth positions text settled
    truth_after text settled told values few is =
        reports_truth new.core.state.settings.pieces (applied_in new.line) new.core.state.forest (root_positions old.core.state.forest) positions stands.state.forest roots_after text settled told values few is

    count_after : (answer : Board → Option Answer) (text : List ℕ) (settled : Bool) → IsSoundTable draughts new.core.state.settings.pieces answer → new.core.state.settings.pieces ≤ 3 → settled ≡ are_settled new.core.state.forest
        → IsLine (summary_line (forest_roots new.core.state.forest)) → text ≡ summary_line (forest_roots new.core.state.forest) → CountsRoots positions text settled
    count_after answer text settled table few told line is =
        counts_roots new.core.state.settings.pieces (applied_in new.line) new.core.state.forest (root_positions old.core.state.forest) positions stands.state.forest roots_after answer text settled table few told line is

-- by how the work ended
module _ {D : Type 0} (old mid new : SessionState D) (positions : List Board) (m : ℕ) (begins : HasBegun old positions m mid) (stood : IsCoreOf mid.line mid.core) (grows : GrowsTo MayAddInTurn mid.line new.line)
    (lease : ℕ) (searched : HasSearched lease mid.core new.line) where
  pub run_done : IsEndedBy Done new → HasRun lease old positions new true
  run_done done = record {
    begun = mid;
    moment = m;
    begins = begins;
    stood = stood;
    grows = grows;
    searched = searched;
    idle = done.0;
    settled_is = sym done.1;
    spent = λ h. absurd (true≢false h);
  }

  pub run_spent : IsEndedBy Spent new → HasRun lease old positions new false
  run_spent spent = record {
    begun = mid;
    moment = m;
    begins = begins;
    stood = stood;
    grows = grows;
    searched = searched;
    idle = spent.0;
    settled_is = sym spent.1.0;
    spent = λ h. spent.1.1;
  }

few_pieces : (k : ℕ) → IsTableSize k → k ≤ 3
few_pieces k (inl two) = omega (arith, two)
few_pieces k (inr three) = omega (arith, three)

-- and then written
module _ {D : Type 0} (lease : ℕ) (old new : SessionState D) (positions : List Board) (settled : Bool) (run : HasRun lease old positions new settled) (was : IsIdle old) (stood : IsCoreOf old.line old.core) (stands : IsCoreOf new.line new.core) where
  pub worked_run : (text_of : Forest → List ℕ) (text : List ℕ) (told : Bool) → text ≡ text_of new.core.state.forest → told ≡ settled → IsHistory new.line new.core → HasWorked text_of lease old positions new text told
  worked_run text_of text told text_is told_is history =
      worked_from old run.begun positions run.moment run.begins new was stood run.grows run.idle stands text_of lease text told text_is (told_is ∙ run.settled_is) (λ h. run.spent (sym told_is ∙ h)) run.stood run.searched history

  pub truth_run : (text : List ℕ) (told : Bool) → told ≡ settled → AreTrueRoots (forest_roots new.core.state.forest) → length (forest_roots new.core.state.forest) ≤ 65536 → text ≡ report_of (forest_roots new.core.state.forest) → ReportsTruth positions text told
  truth_run text told told_is values few is = truth_after old run.begun positions run.moment run.begins new was stood run.grows run.idle stands text told (told_is ∙ run.settled_is) values few is

  pub count_run : (k : ℕ) (answer : Board → Option Answer) (text : List ℕ) (told : Bool) → k ≡ new.core.state.settings.pieces → IsSoundTable draughts k answer → IsTableSize k → told ≡ settled
      → IsLine (summary_line (forest_roots new.core.state.forest)) → text ≡ summary_line (forest_roots new.core.state.forest) → CountsRoots positions text told
  count_run k answer text told same table size told_is line is =
      count_after old run.begun positions run.moment run.begins new was stood run.grows run.idle stands answer text told
      (subst (λ n. IsSoundTable draughts n answer) same table) (subst (λ n. n ≤ 3) same (few_pieces k size)) (told_is ∙ run.settled_is) line is

-- ---- refusals of the beginning

pub broken_fails : {D : Type 0} (old new : SessionState D) (positions : List Board) (f : ℕ) → BeginsRoots old positions (Broken f ∷ []) new → is_failed new.line ≡ true
broken_fails old new positions f h =
    ap is_failed (h.line ∙ sym (append_assoc old.line (root_puts h.added) (Broken f ∷ []))) ∙ any_push_yes breaks (old.line ++ root_puts h.added) (Broken f) refl

pub begin_failed : {D : Type 0} (faults : D → ℕ) (old new : SessionState D) (positions : List Board) (refusal : BeginRefusal) → RefusesBegin faults old positions new refusal → refusal ≡ begin.Disk → is_failed new.line ≡ true
begin_failed faults old new positions refusal h is =
    let broken = subst (RefusesBegin faults old positions new) is h in broken_fails old new positions (faults new.disk) broken.1.0

-- what stays as it was goes on from itself
same_goes_on : {D : Type 0} (old new : SessionState D) → new ≡ old → GoesOnFrom old.line new.line
same_goes_on old new is = ([], ap (λ (s : SessionState _). s.line) is ∙ sym (append-nil old.line))

module _ {D : Type 0} (faults : D → ℕ) (old new : SessionState D) (positions : List Board) (refusal : BeginRefusal) (refuses : RefusesBegin faults old positions new refusal) where
  pub failed_goes_on : refusal ≡ begin.Failed → GoesOnFrom old.line new.line
  failed_goes_on is = let failed = subst (RefusesBegin faults old positions new) is refuses in same_goes_on old new failed.1

  pub too_many_go_on : refusal ≡ begin.TooManyRoots → GoesOnFrom old.line new.line
  too_many_go_on is = let many = subst (RefusesBegin faults old positions new) is refuses in same_goes_on old new many.1.1

  pub memory_goes_on : (error : AllocError) → refusal ≡ begin.Memory error → GoesOnFrom old.line new.line
  memory_goes_on error is = let want = subst (RefusesBegin faults old positions new) is refuses in same_goes_on old new want.1
