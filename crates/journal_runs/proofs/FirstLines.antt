-- What a first pass has searched, the work behind it keeps.
use Rattle.std.proofs.Common.{◌≡◌, ◌≤◌, ◌+◌, ℕ, List, [], ◌∷◌, ◌++◌, map, Option, Some, refl, ap, sym, ◌∙◌, subst, arith}
use Rattle.std.specs.List.{AllByRecursion as Each}
use Rattle.std.proofs.lemmas.List.{append_cancel_left}
use Rattle.std.proofs.lemmas.List.Elements.{recursion_from_All}
use Rattle.draughts_board.specs.Board.{Board}
use Rattle.proof_tree.specs.Forest.{Forest, nodes}
use Rattle.proof_tree.specs.Sound.{root_positions}
use Rattle.bench_records.specs.declared.records.BenchRecord.{BenchRecord}
use Rattle.bench_records.specs.declared.records.BenchRecord.TheVariants as records
use Rattle.bench_core.specs.Records.{begun}
use Rattle.bench_core.specs.Growing.{IsForestOf}
use Rattle.bench_core.specs.States.{CoreState, SessionSettings, Event, AsksLease, Releases, Happens, IsRun, IsSoundState, after_answer, with_lease}
use Rattle.bench_core.specs.Cores.{Core, applied_by, applied_by_all}
use Rattle.bench_core.proofs.OneForest.{records_have_one_forest, roots_are_those_begun}
use Rattle.turn_lock.specs.Growth.{GrowsTo}
use Rattle.tree_manager.specs.declared.entries.Attachment.{Attachment}
use Rattle.tree_manager.specs.declared.entries.Entry.{Entry}
use Rattle.tree_manager.specs.declared.entries.Entry.TheVariants.{Put, Attached, Leased, Released, Acked, Broken}
use Rattle.tree_manager.specs.Lines.{attachment_of}
use Rattle.tree_manager.specs.Histories.{Enters, IsCoreOf, IsHistory, IsNewCore, settings_of}
use Rattle.tree_manager.specs.Sessions.{SessionState, HasBegun, MayAddInTurn, session_budget, with_roots}
use Rattle.tree_manager.proofs.HistoryLaws.{lines_tell_cores}
use Rattle.journal_runs.specs.Ample.{IsReached, IsRoomForEach, IsSettledOrFresh, unsettled_roots}
use Rattle.journal_runs.specs.FirstPass.{HasRoomForEach, HasSearched, IsSearched}
use Rattle.journal_runs.proofs.AloneLemmas.{attached_more}
use Rattle.journal_runs.proofs.AmpleLines.{begins_none, just_begun, kept_sound, line_keeps, one_core}
use Rattle.journal_runs.proofs.AmpleStates.{none_of_two}
use Rattle.journal_runs.proofs.AttachedLines.{begun_append}
use Rattle.journal_runs.proofs.FirstRuns.{IsReachedState, event_reached}

-- ---- an entry

of_state : (core : Core) → IsReachedState core.state → begun core.staged ≡ [] → IsSearched core
of_state core h rootless = record { sound = h.sound; rootless = rootless; reached = h.reached }

state_of : (core : Core) → IsSearched core → IsReachedState core.state
state_of core h = record { sound = h.sound; reached = h.reached }

run_reached : (s new : CoreState) (events : List Event) → begun (applied_by_all events) ≡ [] → IsRun s events new → IsReachedState s → IsReachedState new
run_reached s new [] none run h = subst IsReachedState (sym run) h
run_reached s new (e ∷ events) none run h =
    let both = none_of_two (begun (applied_by e)) (begun (applied_by_all events)) (sym (begun_append (applied_by e) (applied_by_all events)) ∙ none) in
    run_reached run.0 new events both.1 run.1.1 (event_reached s e run.0 both.0 run.1.0 h)

entry_searched : (old new : Core) (e : Entry) → MayAddInTurn e → Enters old e new → IsSearched old → IsSearched new
entry_searched old new (Put r) may enters h =
    subst IsSearched (sym enters.1)
    (record { sound = kept_sound old.state r h.sound; rootless = begun_append old.staged (r ∷ []) ∙ (λ i. h.rootless i ++ begins_none r may i); reached = h.reached })
entry_searched old new (Attached a) may enters h = absurd may
entry_searched old new (Leased lease) may enters h =
    subst IsSearched (sym enters.1)
    (of_state (record old { state = with_lease old.state lease }) (event_reached old.state (AsksLease lease.worker) (with_lease old.state lease) refl (ap (after_answer old.state) (sym enters.0)) (state_of old h)) h.rootless)
entry_searched old new (Released id) may enters h =
    subst IsSearched (sym enters.1)
    (of_state _ (event_reached old.state (Releases id) _ refl (record { row = enters.0; rest = refl }) (state_of old h)) h.rootless)
entry_searched old new (Acked moment) may enters h =
    of_state new (run_reached old.state new.state enters.events (ap begun enters.in_order ∙ h.rootless) enters.run (state_of old h)) (ap begun enters.staged)
entry_searched old new (Broken faults) may enters h = subst IsSearched (sym enters) h

-- ---- the beginning and the end

some_is : (x y : Attachment) → Some x ≡ Some y → x ≡ y
some_is x y e = cc e

module _ {D : Type 0} (replayed : List BenchRecord) (a : Attachment) (old mid : SessionState D) (positions : List Board) (m : ℕ) (new_core : IsNewCore replayed a old.core) (begins : HasBegun old positions m mid) where
  room_begun : (budget lease : ℕ) → a.budget ≡ session_budget budget replayed → a.limit ≡ lease → IsRoomForEach a.pieces budget lease positions replayed → HasRoomForEach mid.core lease
  room_begun budget lease budget_is limit_is room =
      let h = just_begun replayed a old mid positions m new_core begins in
      let roots_are : root_positions old.core.state.forest ≡ begun replayed = roots_are_those_begun a.pieces replayed old.core.state.forest new_core.forest in
      let all : begun replayed ++ begins.roots.added ≡ with_roots (begun replayed) positions = subst (λ (ps : List Board). ps ++ begins.roots.added ≡ with_roots ps positions) roots_are begins.roots.all in
      let same : begins.roots.added ≡ room.added = append_cancel_left (begun replayed) begins.roots.added room.added (all ∙ sym room.all) in
      let forest : mid.core.state.forest ≡ room.roots =
      records_have_one_forest a.pieces (replayed ++ map records.Begin room.added) mid.core.state.forest room.roots
      (subst (λ (ps : List Board). IsForestOf a.pieces (replayed ++ map records.Begin ps) mid.core.state.forest) same h.forest) room.begins in
      let enough = room.enough in
      let enough_now : unsettled_roots room.roots + 0 ≤ a.budget = omega (arith, enough, budget_is) in
      record {
        none_staged = begins.none_staged;
        unleased = h.rows;
        limit = h.limit ∙ limit_is;
        fresh = subst (λ (f : Forest). Each IsSettledOrFresh (nodes f)) (sym forest) room.fresh;
        enough = subst (λ (t : SessionSettings). unsettled_roots mid.core.state.forest + mid.core.state.work ≤ t.budget) (sym h.settings)
            (subst (λ n. unsettled_roots mid.core.state.forest + n ≤ a.budget) (sym h.work)
            (subst (λ (f : Forest). unsettled_roots f + 0 ≤ a.budget) (sym forest) enough_now));
        few = subst (λ (f : Forest). unsettled_roots f ≤ 4096) (sym forest) room.few;
        together = subst (λ (f : Forest). unsettled_roots f ≤ lease) (sym forest) room.together;
      }

  pub reached_ends : (budget lease : ℕ) (new : SessionState D) → a.budget ≡ session_budget budget replayed → a.limit ≡ lease → IsRoomForEach a.pieces budget lease positions replayed → IsCoreOf mid.line mid.core
      → GrowsTo MayAddInTurn mid.line new.line → HasSearched lease mid.core new.line → IsHistory new.line new.core → Each (IsReached a.pieces a.depth) (nodes new.core.state.forest)
  reached_ends budget lease new budget_is limit_is room stood grows searched history =
      let first : IsSearched searched.core = searched.searched (room_begun budget lease budget_is limit_is room) in
      let start : (core : Core) → IsHistory searched.front core → IsSearched core = λ core here.
      let same = one_core searched.front searched.core core searched.stands (lines_tell_cores searched.front core here) in
      record {
        sound = subst IsSoundState same.0 first.sound;
        rootless = ap begun (sym same.1) ∙ first.rootless;
        reached = subst (λ (s : CoreState). Each (IsReached s.settings.pieces s.settings.depth) (nodes s.forest)) same.0 first.reached;
      } in
      let ended = line_keeps IsSearched entry_searched searched.front searched.stands.state.attachment searched.stands.state.attached start new.line new.core searched.goes_on.added history (sym searched.goes_on.whole)
      (recursion_from_All MayAddInTurn searched.goes_on.added searched.goes_on.allowed) in
      let stands = lines_tell_cores new.line new.core history in
      let attached : attachment_of new.line ≡ Some stood.state.attachment =
      ap attachment_of (sym grows.whole) ∙ attached_more mid.line grows.added stood.state.attachment stood.state.attached in
      let same : stands.state.attachment ≡ stood.state.attachment = some_is stands.state.attachment stood.state.attachment (sym stands.state.attached ∙ attached) in
      let h = just_begun replayed a old mid positions m new_core begins in
      let settings : new.core.state.settings ≡ settings_of a = stands.state.settings ∙ (ap settings_of same ∙ (sym stood.state.settings ∙ h.settings)) in
      subst (λ (t : SessionSettings). Each (IsReached t.pieces t.depth) (nodes new.core.state.forest)) settings ended.reached
