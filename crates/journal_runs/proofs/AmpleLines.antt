-- A session whose budget is ample settles every root.
use Rattle.std.proofs.Common.{◌≡◌, ◌≤◌, ◌<◌, ◌+◌, ℕ, suc, Bool, true, false, cond, List, [], ◌∷◌, ◌++◌, map, Some, is_some, refl, ap, sym, ◌∙◌, subst, ⊎_elim, arith, append_assoc, append-nil}
use Rattle.std.specs.Prelude.{◌&&◌, nat_lt, not, filter, count_by}
use Rattle.std.specs.List.{IsDistinct, AllByRecursion as Each}
use Rattle.std.proofs.lemmas.Bool.{false≢true}
use Rattle.std.proofs.lemmas.Bool.Decides.{nat_tests}
use Rattle.std.proofs.lemmas.List.{append_cancel_left, same_from_push}
use Rattle.std.proofs.lemmas.List.Elements.{recursion_from_All}
use Rattle.draughts_board.specs.Board.{Board}
use Rattle.proof_tree.specs.Forest.{Forest, no_node, node, nodes, value_of}
use Rattle.proof_tree.specs.Sound.{root_positions}
use Rattle.lease_table.specs.declared.leases.Lease.{Lease}
use Rattle.lease_table.specs.declared.leases.Row.{Row}
use Rattle.lease_table.specs.Rows.{LeaseRows, is_live_row}
use Rattle.bench_records.specs.declared.records.BenchRecord.{BenchRecord}
use Rattle.bench_records.specs.declared.records.BenchRecord.TheVariants as records
use Rattle.bench_core.specs.Records.{is_work, is_work_on, begun}
use Rattle.bench_core.specs.Growing.{GrowsWithAll, IsForestOf, IsLeafWith}
use Rattle.bench_core.specs.States.{CoreState, SessionSettings, AsksLease, Releases, IsOpenFor, IsSoundRow, IsSoundBy, IsSoundState, after_answer, are_settled, with_lease, with_lease_rows}
use Rattle.bench_core.specs.Cores.{Core, IsCommitted, keep_for}
use Rattle.bench_core.proofs.Lists.{Each-map}
use Rattle.bench_core.proofs.OneForest.{records_have_one_forest, roots_are_those_begun}
use Rattle.bench_core.proofs.RowsApart.{apart_map}
use Rattle.bench_core.proofs.SoundApplied.{state_after, state_grown}
use Rattle.turn_lock.specs.Growth.{GrowsTo}
use Rattle.tree_manager.specs.declared.entries.Attachment.{Attachment}
use Rattle.tree_manager.specs.declared.entries.Entry.{Entry}
use Rattle.tree_manager.specs.declared.entries.Entry.TheVariants.{Put, Attached, Leased, Released, Acked, Broken}
use Rattle.tree_manager.specs.Lines.{applied_in, attachment_of}
use Rattle.tree_manager.specs.LiveLeases.{rows_left}
use Rattle.tree_manager.specs.Histories.{IsCoreOf, IsNewCore, Enters, IsHistory, Opens, Follows, settings_of}
use Rattle.tree_manager.specs.Sessions.{SessionState, HasBegun, MayAddInTurn, session_budget, with_roots, with_roots_staged}
use Rattle.tree_manager.proofs.CoreLemmas.{IsGrownState, grows_append, run_grown}
use Rattle.tree_manager.proofs.HistoryLaws.{begun_cut, lines_tell_cores, split_last}
use Rattle.journal_runs.specs.Ample.{IsAmple, IsWithinReach}
use Rattle.journal_runs.specs.FirstPass.{IsUnsettledRoot}
use Rattle.journal_runs.proofs.AmpleRoots.{left, left_is}
use Rattle.journal_runs.proofs.AmpleStates.{IsWithin, event_within, run_within}
use Rattle.journal_runs.proofs.AttachedLines.{begun_append}

-- ---- an entry

-- .. and no root is staged
pub record IsWithinCore (core : Core) : Type 0 where
  pub state : IsWithin core.state
  pub rootless : begun core.staged ≡ []

same_lease : (b : Bool) (row : Row) → (cond b (record row { kept = true }) row).lease ≡ row.lease
same_lease true row = refl
same_lease false row = refl

pub keep_lease : (r : BenchRecord) (row : Row) → (keep_for true r row).lease ≡ row.lease
keep_lease r row = same_lease (is_work_on row.lease.node r) row

lives_kept : (b : Bool) (limit now : ℕ) (row : Row) → is_live_row limit now row ≡ true → is_live_row limit now (cond b (record row { kept = true }) row) ≡ true
lives_kept true limit now row h = refl
lives_kept false limit now row h = h

pub begins_none : (r : BenchRecord) → is_work r ≡ true → begun (r ∷ []) ≡ []
begins_none (records.Begin p) h = absurd (false≢true h)
begins_none (records.Solve n p shown) h = refl
begins_none (records.Expand n) h = refl

module _ (s : CoreState) (r : BenchRecord) where
  abbrev kept_rows : List Row
  kept_rows = map (keep_for true r) s.leases.rows

  row_kept : (row : Row) → IsSoundRow s row → IsSoundRow (with_lease_rows s kept_rows) (keep_for true r row)
  row_kept row h =
      let e = keep_lease r row in
      record {
        leaf = subst (λ (l : Lease). IsLeafWith (IsOpenFor l) s.forest l.node) (sym e) h.leaf;
        lives = lives_kept (is_work_on row.lease.node r) s.leases.limit s.given row h.lives;
        given = subst (λ (l : Lease). l.id ≤ s.given) (sym e) h.given;
        depth = subst (λ (l : Lease). l.depth ≡ s.settings.depth) (sym e) h.depth;
        pieces = subst (λ (l : Lease). l.pieces ≡ s.settings.pieces) (sym e) h.pieces;
      }

  pub kept_sound : IsSoundState s → IsSoundState (with_lease_rows s kept_rows)
  kept_sound sound = (
    sound.0,
    record {
      lasts = sound.1.lasts;
      forest = sound.1.forest;
      numbered = sound.1.numbered;
      sight = sound.1.sight;
      certified = sound.1.certified;
      named = sound.1.named;
      apart = apart_map (keep_for true r) (λ row. keep_lease r row) s.leases.rows sound.1.apart;
      rows = Each-map (IsSoundRow s) (IsSoundRow (with_lease_rows s kept_rows)) (keep_for true r) row_kept s.leases.rows sound.1.rows;
    },
  )

  kept_within : IsWithin s → IsWithin (with_lease_rows s kept_rows)
  kept_within h = record {
    sound = kept_sound h.sound;
    within = h.within;
    rows = Each-map (λ (row : Row). IsUnsettledRoot row.lease.node s.forest) (λ (row : Row). IsUnsettledRoot row.lease.node s.forest) (keep_for true r)
        (λ row names. subst (λ (l : Lease). IsUnsettledRoot l.node s.forest) (sym (keep_lease r row)) names) s.leases.rows h.rows;
    few = h.few;
  }

entry_within : (old new : Core) (e : Entry) → MayAddInTurn e → Enters old e new → IsWithinCore old → IsWithinCore new
entry_within old new (Put r) may enters h =
    subst IsWithinCore (sym enters.1)
    (record { state = kept_within old.state r h.state; rootless = begun_append old.staged (r ∷ []) ∙ (λ i. h.rootless i ++ begins_none r may i) })
entry_within old new (Attached a) may enters h = absurd may
entry_within old new (Leased lease) may enters h =
    subst IsWithinCore (sym enters.1)
    (record { state = event_within old.state h.state (AsksLease lease.worker) (with_lease old.state lease) refl (ap (after_answer old.state) (sym enters.0)); rootless = h.rootless })
entry_within old new (Released id) may enters h =
    subst IsWithinCore (sym enters.1)
    (record { state = event_within old.state h.state (Releases id) _ refl (record { row = enters.0; rest = refl }); rootless = h.rootless })
entry_within old new (Acked moment) may enters h = record {
  state = run_within old.state new.state enters.events (ap begun enters.in_order ∙ h.rootless) enters.run h.state;
  rootless = ap begun enters.staged;
}
entry_within old new (Broken faults) may enters h = subst IsWithinCore (sym enters) h

-- ---- a line

each_front : {X : Type 0} (P : X → Type 0) (xs ys : List X) → Each P (xs ++ ys) → Each P xs
each_front P [] ys each = tt
each_front P (x ∷ xs) ys each = (each.0, each_front P xs ys each.1)

each_last : {X : Type 0} (P : X → Type 0) (xs : List X) (y : X) → Each P (xs ++ y ∷ []) → P y
each_last P [] y each = each.0
each_last P (x ∷ xs) y each = each_last P xs y each.1

-- what each entry keeps, a line keeps
module _ (P : Core → Type 0) (keeps : (old new : Core) (e : Entry) → MayAddInTurn e → Enters old e new → P old → P new)
    (first : List Entry) (b : Attachment) (attached : attachment_of first ≡ Some b) (start : (core : Core) → IsHistory first core → P core) where
  opens_kept : (core : Core) (replayed : List BenchRecord) (a : Attachment) (line rest : List Entry) → line ≡ map Put replayed ++ Attached a ∷ [] → IsHistory line core → line ≡ first ++ rest → P core
  opens_kept core replayed a line [] is history cut = start core (subst (λ l. IsHistory l core) (cut ∙ append-nil first) history)
  opens_kept core replayed a line (x ∷ rest) is history cut = absurd (begun_cut replayed a b first rest x (sym is ∙ cut) attached)

  pub line_keeps : (line : List Entry) (core : Core) (rest : List Entry) → IsHistory line core → line ≡ first ++ rest → Each MayAddInTurn rest → P core
  line_keeps _ _ rest (Opens line core replayed a is new) cut may = opens_kept core replayed a line rest is (Opens line core replayed a is new) cut
  line_keeps _ _ rest (Follows line core before old e is history whole enters) cut may = ⊎_elim
      (λ none. start core (subst (λ l. IsHistory l core) (cut ∙ (ap (λ l. first ++ l) none ∙ append-nil first)) (Follows line core before old e is history whole enters)))
      (λ more.
      let same = same_from_push before (first ++ more.0) e more.1 (sym is ∙ (cut ∙ (ap (λ l. first ++ l) more.2 ∙ sym (append_assoc first more.0 (more.1 ∷ []))))) in
      let all : Each MayAddInTurn (more.0 ++ more.1 ∷ []) = subst (Each MayAddInTurn) more.2 may in
      keeps old core e (subst MayAddInTurn (sym same.1) (each_last MayAddInTurn more.0 more.1 all)) enters
      (line_keeps before old more.0 history same.0 (each_front MayAddInTurn more.0 (more.1 ∷ []) all)))
      (split_last rest)

-- ---- one line stands for one core

pub one_core : (line : List Entry) (one other : Core) → IsCoreOf line one → IsCoreOf line other → (one.state ≡ other.state) × (one.staged ≡ other.staged)
one_core line one other p q =
    let some_is : (x y : Attachment) → Some x ≡ Some y → x ≡ y = λ x y e. cc e in
    let same : p.state.attachment ≡ q.state.attachment = some_is p.state.attachment q.state.attachment (sym p.state.attached ∙ q.state.attached) in
    let settings : one.state.settings ≡ other.state.settings = p.state.settings ∙ (ap settings_of same ∙ sym q.state.settings) in
    let limit : one.state.leases.limit ≡ other.state.leases.limit = p.state.limit ∙ (ap (λ (a : Attachment). a.limit) same ∙ sym q.state.limit) in
    let given : one.state.given ≡ other.state.given = p.state.given ∙ sym q.state.given in
    let rows : one.state.leases.rows ≡ other.state.leases.rows = p.state.rows ∙ ((λ i. rows_left (limit i) (given i) line) ∙ sym q.state.rows) in
    let forest : one.state.forest ≡ other.state.forest =
    records_have_one_forest other.state.settings.pieces (applied_in line) one.state.forest other.state.forest (subst (λ (t : SessionSettings). IsForestOf t.pieces (applied_in line) one.state.forest) settings p.state.forest) q.state.forest in (
      λ i. record {
        forest = forest i;
        leases = record { limit = limit i; rows = rows i };
        given = given i;
        work = (p.state.work ∙ sym q.state.work) i;
        settings = settings i;
      },
      p.staged ∙ sym q.staged,
    )

-- ---- a forest of records is sound

none_below : (n : ℕ) → ◌≡◌ {A = ℕ} 0 (cond (nat_lt n 0) 1 0)
none_below n = by (nat_lt n 0) refl
  where
    by : (b : Bool) → nat_lt n 0 ≡ b → ◌≡◌ {A = ℕ} 0 (cond b 1 0)
    by true e = let below : n < 0 = grind (arith, nat_tests, e) in absurd (omega (arith, below))
    by false e = refl

nothing_sound : (limit given work : ℕ) (settings : SessionSettings) → 1 ≤ limit → IsSoundBy [] (record { forest = no_node; leases = record { limit = limit; rows = [] }; given = given; work = work; settings = settings })
unfolding IsDistinct
nothing_sound limit given work settings lasts = record {
  lasts = lasts;
  forest = refl;
  numbered = record { each = tt; numbered = none_below; apart = tt };
  sight = tt;
  certified = tt;
  named = λ n le. refl;
  apart = tt;
  rows = tt;
}

grown_sound : (before rs : List BenchRecord) (s : CoreState) (g : Forest) → s.leases.rows ≡ [] → IsSoundBy before s → GrowsWithAll s.settings.pieces s.forest rs g → IsSoundState (state_after s g s.work [])
grown_sound before [] s g none sound grows = (before, subst (IsSoundBy before) (λ i. record { forest = sym grows i; leases = record { limit = s.leases.limit; rows = none i }; given = s.given; work = s.work; settings = s.settings }) sound)
grown_sound before (r ∷ rs) s g none sound grows =
    grown_sound (before ++ r ∷ []) rs (state_after s grows.0 s.work []) g refl (state_grown before s r grows.0 s.work [] grows.1.0 sound tt tt) grows.1.1

pub records_sound : (rs : List BenchRecord) (s : CoreState) → 1 ≤ s.leases.limit → s.leases.rows ≡ [] → IsForestOf s.settings.pieces rs s.forest → IsSoundState s
records_sound rs s lasts none grown =
    let empty : CoreState = record { forest = no_node; leases = record { limit = s.leases.limit; rows = [] }; given = s.given; work = s.work; settings = s.settings } in
    subst IsSoundState (λ i. record { forest = s.forest; leases = record { limit = s.leases.limit; rows = sym none i }; given = s.given; work = s.work; settings = s.settings })
    (grown_sound [] rs empty s.forest refl (nothing_sound s.leases.limit s.given s.work s.settings lasts) grown)

-- ---- nothing is left

none_over : (b : Bool) (m : ℕ) → cond b m (suc m) ≡ 0 → (b ≡ true) × (m ≡ 0)
none_over true m e = (refl, e)
none_over false m e = absurd (omega arith)

all_settled : (t : Forest) → left t ≡ 0 → are_settled t ≡ true
all_settled no_node e = refl
all_settled (node own children others) e =
    let both = none_over (is_some (value_of (record { own = own; children = children }))) (left others) e in
    λ i. both.0 i && all_settled others both.1 i

settled_by : (s : CoreState) (b : Bool) → b ≡ are_settled s.forest → (b ≡ false → s.settings.budget ≤ s.work) → left s.forest + s.work ≤ s.settings.budget → b ≡ true
settled_by s true is spent few = refl
settled_by s false is spent few = is ∙ all_settled s.forest (let done = spent refl in omega (arith, done, few))

-- ---- roots are begun

no_work : (added : List Board) → count_by is_work (map records.Begin added) ≡ 0
no_work [] = refl
no_work (p ∷ added) = no_work added

begun_all : (added : List Board) → begun (map records.Begin added) ≡ added
begun_all [] = refl
begun_all (p ∷ added) = ap (λ (ps : List Board). p ∷ ps) (begun_all added)

module _ {D : Type 0} (replayed : List BenchRecord) (a : Attachment) (old mid : SessionState D) (positions : List Board) (m : ℕ) (new_core : IsNewCore replayed a old.core) (begins : HasBegun old positions m mid) where
  -- what the roots leave of a session that applied nothing
  pub record IsJustBegun : Type 0 where
    pub settings : mid.core.state.settings ≡ settings_of a
    pub limit : mid.core.state.leases.limit ≡ a.limit
    pub lasts : 1 ≤ mid.core.state.leases.limit
    pub rows : mid.core.state.leases.rows ≡ []
    pub work : mid.core.state.work ≡ 0
    pub forest : IsForestOf a.pieces (replayed ++ map records.Begin begins.roots.added) mid.core.state.forest

  staged_nothing : mid.core ≡ with_roots_staged old.core begins.roots.added → IsJustBegun
  staged_nothing same =
      let none : map records.Begin begins.roots.added ≡ [] = ap (λ (rs : List BenchRecord). rs ++ map records.Begin begins.roots.added) (sym new_core.staged) ∙ (sym (ap (λ (c : Core). c.staged) same) ∙ begins.none_staged) in
      let state : mid.core.state ≡ old.core.state = ap (λ (c : Core). c.state) same in
      record {
        settings = ap (λ (s : CoreState). s.settings) state ∙ new_core.settings;
        limit = ap (λ (s : CoreState). s.leases.limit) state ∙ ap (λ (t : LeaseRows). t.limit) new_core.leases;
        lasts = subst (λ n. 1 ≤ n) (sym (ap (λ (s : CoreState). s.leases.limit) state ∙ ap (λ (t : LeaseRows). t.limit) new_core.leases)) new_core.lasts;
        rows = ap (λ (s : CoreState). s.leases.rows) state ∙ ap (λ (t : LeaseRows). t.rows) new_core.leases;
        work = ap (λ (s : CoreState). s.work) state ∙ new_core.work;
        forest = subst (λ rs. IsForestOf a.pieces rs mid.core.state.forest) (sym (append-nil replayed) ∙ ap (λ (rs : List BenchRecord). replayed ++ rs) (sym none))
            (subst (λ (s : CoreState). IsForestOf a.pieces replayed s.forest) (sym state) new_core.forest);
      }

  applied_roots : IsCommitted (with_roots_staged old.core begins.roots.added) mid.core → IsJustBegun
  applied_roots committed =
      let staged : old.core.staged ++ map records.Begin begins.roots.added ≡ map records.Begin begins.roots.added = ap (λ (rs : List BenchRecord). rs ++ map records.Begin begins.roots.added) new_core.staged in
      let grown : IsGrownState old.core.state mid.core.state (map records.Begin begins.roots.added) =
      subst (IsGrownState old.core.state mid.core.state) (committed.in_order ∙ staged) (run_grown old.core.state mid.core.state committed.events committed.run) in
      let pieces : old.core.state.settings.pieces ≡ a.pieces = ap (λ (t : SessionSettings). t.pieces) new_core.settings in
      record {
        settings = grown.settings ∙ new_core.settings;
        limit = grown.limit ∙ ap (λ (t : LeaseRows). t.limit) new_core.leases;
        lasts = subst (λ n. 1 ≤ n) (sym (grown.limit ∙ ap (λ (t : LeaseRows). t.limit) new_core.leases)) new_core.lasts;
        rows = committed.ended ∙ ap (λ (t : LeaseRows). filter (λ row. not row.kept) t.rows) new_core.leases;
        work = grown.work ∙ (λ i. new_core.work i + no_work begins.roots.added i);
        forest = grows_append a.pieces no_node old.core.state.forest mid.core.state.forest replayed (map records.Begin begins.roots.added) new_core.forest
            (subst (λ k. GrowsWithAll k old.core.state.forest (map records.Begin begins.roots.added) mid.core.state.forest) pieces grown.forest);
      }

  pub just_begun : IsJustBegun
  just_begun = ⊎_elim staged_nothing applied_roots begins.applied

  begun_within : (budget : ℕ) → a.budget ≡ session_budget budget replayed → IsAmple a.pieces a.depth budget positions replayed → IsWithin mid.core.state
  begun_within budget budget_is ample =
      let h = just_begun in
      let roots_are : root_positions old.core.state.forest ≡ begun replayed = roots_are_those_begun a.pieces replayed old.core.state.forest new_core.forest in
      let all : begun replayed ++ begins.roots.added ≡ with_roots (begun replayed) positions = subst (λ (ps : List Board). ps ++ begins.roots.added ≡ with_roots ps positions) roots_are begins.roots.all in
      let same : begins.roots.added ≡ ample.added = append_cancel_left (begun replayed) begins.roots.added ample.added (all ∙ sym ample.all) in
      let forest : mid.core.state.forest ≡ ample.roots =
      records_have_one_forest a.pieces (replayed ++ map records.Begin ample.added) mid.core.state.forest ample.roots
      (subst (λ (ps : List Board). IsForestOf a.pieces (replayed ++ map records.Begin ps) mid.core.state.forest) same h.forest) ample.begins in
      record {
        sound = records_sound (replayed ++ map records.Begin begins.roots.added) mid.core.state h.lasts h.rows
            (subst (λ (t : SessionSettings). IsForestOf t.pieces (replayed ++ map records.Begin begins.roots.added) mid.core.state.forest) (sym h.settings) h.forest);
        within = subst (λ (t : SessionSettings). Each (IsWithinReach t.pieces t.depth) (nodes mid.core.state.forest)) (sym h.settings)
            (subst (λ (f : Forest). Each (IsWithinReach a.pieces a.depth) (nodes f)) (sym forest) ample.within);
        rows = subst (Each (λ (row : Row). IsUnsettledRoot row.lease.node mid.core.state.forest)) (sym h.rows) tt;
        few = subst (λ (t : SessionSettings). left mid.core.state.forest + mid.core.state.work ≤ t.budget) (sym h.settings)
            (subst (λ n. left mid.core.state.forest + n ≤ a.budget) (sym h.work)
            (subst (λ (f : Forest). left f + 0 ≤ a.budget) (sym forest) (let is = left_is ample.roots in let enough = ample.enough in omega (arith, is, enough, budget_is))));
      }

  -- ---- the end

  pub ample_settles : (budget : ℕ) (new : SessionState D) (settled : Bool) → a.budget ≡ session_budget budget replayed → IsAmple a.pieces a.depth budget positions replayed → IsCoreOf mid.line mid.core
      → GrowsTo MayAddInTurn mid.line new.line → IsHistory new.line new.core → settled ≡ are_settled new.core.state.forest → (settled ≡ false → new.core.state.settings.budget ≤ new.core.state.work) → settled ≡ true
  ample_settles budget new settled budget_is ample stands grows history settled_is spent =
      let within = begun_within budget budget_is ample in
      let start : (core : Core) → IsHistory mid.line core → IsWithinCore core = λ core here.
      let same = one_core mid.line mid.core core stands (lines_tell_cores mid.line core here) in
      record { state = subst IsWithin same.0 within; rootless = ap begun (sym same.1 ∙ begins.none_staged) } in
      let ended = line_keeps IsWithinCore entry_within mid.line stands.state.attachment stands.state.attached start new.line new.core grows.added history (sym grows.whole) (recursion_from_All MayAddInTurn grows.added grows.allowed) in
      settled_by new.core.state settled settled_is spent ended.state.few
