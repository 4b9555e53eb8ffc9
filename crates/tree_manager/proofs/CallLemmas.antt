-- What each call does to a session, in the terms of its contract.
use Rattle.std.proofs.Common.{◌≡◌, ◌≤◌, ◌<◌, ◌+◌, ◌-◌, ℕ, suc, List, [], ◌∷◌, ◌++◌, length, refl, ap, sym, ◌∙◌, subst, inl, inr, ◌⊎◌, arith, length-append}
use Rattle.std.specs.Prelude.{false, Ok}
use Rattle.std.proofs.lemmas.List.Sums.{count_by-le-length}
use Rattle.bench_disk.specs.declared.disk.Disk.{Ghosts}
use Rattle.bench_disk.specs.Disk.{IsHonest}
use Rattle.disk_journal.specs.Log.{Log}
use Rattle.certificate_checker.specs.declared.outcomes.Outcome.{Outcome}
use Rattle.certificate_checker.specs.declared.outcomes.Outcome.TheVariants.{Solved, Exhausted}
use Rattle.lease_table.specs.declared.leases.Lease.{Lease}
use Rattle.lease_table.specs.Rows.{is_live_row, without}
use Rattle.bench_records.specs.declared.records.BenchRecord.{BenchRecord}
use Rattle.bench_records.specs.declared.records.BenchRecord.TheVariants.{Begin, Solve, Expand}
use Rattle.bench_records.specs.Texts.{IsFullText, IsShortText, IsText, named_in}
use Rattle.bench_core.specs.Growing.{IsForestOf}
use Rattle.bench_core.specs.States.{HasRow, lease_answer, with_lease, with_lease_rows}
use Rattle.bench_core.specs.Cores.{CanApplyAll, Core, IsResult, MayStage, with_staged, record_of}
use Rattle.tree_manager.specs.declared.entries.Entry.{Entry}
use Rattle.tree_manager.specs.declared.entries.Entry.TheVariants as entry
use Rattle.tree_manager.specs.declared.marks.Mark.{Mark}
use Rattle.tree_manager.specs.declared.marks.Mark.TheVariants.{Put, Attached, Leased, Released, Acked, Broken}
use Rattle.tree_manager.specs.Entries.{gives_lease}
use Rattle.tree_manager.specs.Lines.{recorded, applied_in}
use Rattle.tree_manager.specs.Histories.{IsHistory}
use Rattle.tree_manager.specs.Receipts.{AreLawfulInTurn, KeepsReceipts}
use Rattle.tree_manager.specs.Weaving.{woven, puts_marked}
use Rattle.tree_manager.specs.Keeping.{entries_owed, IsSession}
use Rattle.tree_manager.specs.Sessions.{SessionState, Appends}
use Rattle.tree_manager.proofs.LineLemmas.{recorded_split}
use Rattle.tree_manager.proofs.CoreLemmas.{grows_append}
use Rattle.tree_manager.proofs.PickLemmas.{lease_worker}
use Rattle.tree_manager.proofs.HistoryLaws.{history_stands}
use Rattle.tree_manager.proofs.OwedLemmas.{waiting_leased, waiting_without, waiting_staged}
use Rattle.tree_manager.proofs.ReceiptLemmas.{receipts_kept}
use Rattle.tree_manager.proofs.KeptLemmas.{kept_quiet, kept_put}

-- what holds of the fields holds of the session
pub appends_from : {D : Type 0} (old old' new : SessionState D) (e : Entry) → old ≡ old' → Appends old e new → Appends old' e new
appends_from old old' new e same h = subst (λ s. Appends s e new) same h

-- ---- lengths

pub woven_length : (marks : List Mark) (rs : List BenchRecord) → puts_marked marks ≡ length rs → length (woven marks rs) ≡ length marks
woven_length [] [] h = refl
woven_length [] (r ∷ rs) h = refl
woven_length (Put ∷ marks) [] h = absurd (omega (arith, h))
woven_length (Put ∷ marks) (r ∷ rs) h = ap suc (woven_length marks rs (omega (arith, h)))
woven_length (Attached a ∷ marks) rs h = ap suc (woven_length marks rs h)
woven_length (Leased l ∷ marks) rs h = ap suc (woven_length marks rs h)
woven_length (Released id ∷ marks) rs h = ap suc (woven_length marks rs h)
woven_length (Acked m ∷ marks) rs h = ap suc (woven_length marks rs h)
woven_length (Broken f ∷ marks) rs h = ap suc (woven_length marks rs h)

-- there are as many entries as marks
pub line_length : (marks : List Mark) (core : Core) → puts_marked marks ≡ length core.records + length core.staged → length (woven marks (core.records ++ core.staged)) ≡ length marks
line_length marks core filled = woven_length marks (core.records ++ core.staged) (filled ∙ sym (length-append core.records core.staged))

-- no more leases were given than there are marks
pub given_few : (marks : List Mark) (core : Core) → puts_marked marks ≡ length core.records + length core.staged → IsHistory (woven marks (core.records ++ core.staged)) core → core.state.given ≤ length marks
given_few marks core filled history =
    let line : List Entry = woven marks (core.records ++ core.staged) in
    omega (arith, (history_stands line core history).0.state.given, count_by-le-length gives_lease line, line_length marks core filled)

-- ---- outcomes

-- the record of an outcome is a result
pub outcome_result : (core : Core) (lease : Lease) (outcome : Outcome) → MayStage core (record_of lease outcome) → IsResult core (record_of lease outcome)
outcome_result core lease (Solved found) may = may
outcome_result core lease (Exhausted e) may = may

-- its text is not empty
pub text_some : (k : ℕ) (before : List BenchRecord) (r : BenchRecord) (text : List ℕ) → IsText k before r text → 0 < length text
text_some k before r text h = by h.spelled
  where
    by : IsFullText r text ⊎ IsShortText (named_in [] before) r text → 0 < length text
    by (inl is) = omega (arith, ap length is)
    by (inr (is, few)) = omega (arith, ap length is)

-- a session whose bench and journal are as they were
pub seen_back : {D : Type 0} (marks : List Mark) (core core' : Core) (log log' : Log D) → core' ≡ core → log' ≡ log
    → let old : SessionState D = record { line = woven marks (core.records ++ core.staged); core = core; disk = log.disk } in
    let new : SessionState D = record { line = woven marks (core'.records ++ core'.staged); core = core'; disk = log'.disk } in new ≡ old
seen_back marks core core' log log' x y = rw (x, y) refl

module _ {D : Type 0} (g : Ghosts D) where
  abbrev Keeps : List Mark → ℕ → ℕ → Core → Log D → Type 0
  Keeps marks capacity due core log = IsSession g (woven marks (core.records ++ core.staged)) marks capacity due core log

  pub keeps_back : (marks : List Mark) (capacity due : ℕ) (core core' : Core) (log log' : Log D) → core' ≡ core → log' ≡ log → Keeps marks capacity due core log → Keeps marks capacity due core' log'
  keeps_back marks capacity due core core' log log' x y kept = subst (λ l. Keeps marks capacity due core' l) (sym y) (subst (λ c. Keeps marks capacity due c log) (sym x) kept)

  pub kept_leased : (marks marks' : List Mark) (capacity capacity' due : ℕ) (core core' : Core) (log : Log D) (worker : ℕ) (lease : Lease)
      → Keeps marks capacity due core log → log.failed ≡ false → marks' ≡ marks ++ Leased lease ∷ [] → lease_answer core.state worker ≡ Ok lease → core' ≡ record core { state = with_lease core.state lease }
      → length marks' + (due + 2) ≤ capacity' → Keeps marks' capacity' (due + 2) core' log
  kept_leased marks marks' capacity capacity' due core core' log worker lease kept unfailed is answer same room =
      let s = core.state in
      subst (λ c. Keeps marks' capacity' (due + 2) c log) (sym same)
      (kept_quiet g marks marks' capacity capacity' due (due + 2) (Leased lease) (entry.Leased lease) core (record core { state = with_lease core.state lease }) log
      kept unfailed is refl refl (record { no_moment = refl; no_put = refl; unacknowledged = refl; whole = refl; no_faults = refl }) refl refl refl kept.grows
      (subst (λ w. lease_answer core.state w ≡ Ok lease) (sym (lease_worker core.state worker lease answer)) answer, refl)
      (omega (arith, waiting_leased (is_live_row s.leases.limit (s.given + 1)) s.leases.rows lease, kept.owed unfailed)) room)

  pub kept_released : (marks marks' : List Mark) (capacity capacity' due : ℕ) (core core' : Core) (log : Log D) (id : ℕ)
      → Keeps marks capacity due core log → log.failed ≡ false → marks' ≡ marks ++ Released id ∷ [] → HasRow (λ row. row.kept ≡ false) core.state id
      → core' ≡ record core { state = with_lease_rows core.state (without id core.state.leases.rows) } → capacity ≤ capacity'
      → Keeps marks' capacity' (due - 2) core' log
  kept_released marks marks' capacity capacity' due core core' log id kept unfailed is has same more =
      let fewer = waiting_without core.state.leases.rows id has.row has.there has.number has.holds in
      subst (λ c. Keeps marks' capacity' (due - 2) c log) (sym same)
      (kept_quiet g marks marks' capacity capacity' due (due - 2) (Released id) (entry.Released id) core
      (record core { state = with_lease_rows core.state (without id core.state.leases.rows) }) log
      kept unfailed is refl refl (record { no_moment = refl; no_put = refl; unacknowledged = refl; whole = refl; no_faults = refl }) refl refl refl kept.grows (has, refl)
      (omega (arith, fewer, kept.owed unfailed))
      (omega (arith, fewer, kept.owed unfailed, kept.room unfailed, ap length is, length-append marks (Released id ∷ []), more)))

  pub kept_result : (marks marks' : List Mark) (capacity capacity' due : ℕ) (core core' : Core) (r : BenchRecord) (text : List ℕ) (log log' : Log D)
      → Keeps marks capacity due core log → log.failed ≡ false → marks' ≡ marks ++ Put ∷ [] → MayStage core r → IsResult core r → IsText core.state.settings.pieces (core.records ++ core.staged) r text
      → core' ≡ with_staged core r → CanApplyAll core' → log' ≡ record log { staged = log.staged ++ text ∷ [] } → capacity ≤ capacity'
      → Keeps marks' capacity' (due - 1) core' log'
  kept_result marks marks' capacity capacity' due core core' r text log log' kept unfailed is may result is_text same grows logged more =
      let fewer = waiting_staged core r result in
      let owed : entries_owed (with_staged core r) ≤ due - 1 = omega (arith, fewer, kept.owed unfailed, length-append core.staged (r ∷ [])) in
      kept_put g marks marks' capacity capacity' due (due - 1) core core' r text log log' kept unfailed is may is_text same grows
      (subst (λ c. entries_owed c ≤ due - 1) (sym same) owed)
      (omega (arith, fewer, kept.owed unfailed, kept.room unfailed, ap length is, length-append marks (Put ∷ []), more)) logged

  -- all its records are lawful in turn
  pub lawful_of : (marks : List Mark) (capacity due : ℕ) (core : Core) (log : Log D) → Keeps marks capacity due core log → AreLawfulInTurn log.pieces (recorded (woven marks (core.records ++ core.staged)))
  lawful_of marks capacity due core log kept =
      let line : List Entry = woven marks (core.records ++ core.staged) in
      let stands = (history_stands line core kept.history).0 in
      let k : ℕ = core.state.settings.pieces in
      let all : IsForestOf k (applied_in line ++ core.staged) kept.grows.0 = grows_append k _ core.state.forest kept.grows.0 (applied_in line) core.staged stands.state.forest kept.grows.1 in
      subst (λ n. AreLawfulInTurn n (recorded line)) (sym kept.pieces)
      (kept.grows.0, subst (λ rs. IsForestOf k rs kept.grows.0) (ap (λ rs. applied_in line ++ rs) stands.staged ∙ sym (recorded_split line)) all)

  pub receipts_of : (marks : List Mark) (capacity due : ℕ) (core : Core) (log : Log D) → Keeps marks capacity due core log → IsHonest g.TELLS
      → KeepsReceipts core.state.settings.pieces g (woven marks (core.records ++ core.staged)) log.disk
  receipts_of marks capacity due core log kept honest =
      subst (λ n. KeepsReceipts n g (woven marks (core.records ++ core.staged)) log.disk) kept.pieces
      (receipts_kept g (woven marks (core.records ++ core.staged)) log (lawful_of marks capacity due core log kept) (kept.synced honest))
