-- What one entry more does to the core that a line stands for.
use Rattle.std.proofs.Common.{◌≡◌, ◌≤◌, ◌+◌, ℕ, List, [], ◌∷◌, ◌++◌, map, refl, ap, sym, ◌∙◌, subst, inl, inr, ⊎_elim, arith, append-nil}
use Rattle.std.specs.Prelude.{◌⊎◌, Bool, true, false, cond, not, filter, count_by, Contains, Some, Result, Ok, Err}
use Rattle.std.specs.List.{list_any}
use Rattle.std.proofs.lemmas.List.{map-append}
use Rattle.std.proofs.lemmas.List.Sums.{sum_by-append}
use Rattle.std.proofs.lemmas.Bool.{true≢false, false≢true, or_left, or_right, or_cases}
use Rattle.std.proofs.lemmas.List.Elements.{Contains-append_cases, Contains-push_cases}
use Rattle.proof_tree.specs.Forest.{Forest}
use Rattle.lease_table.specs.declared.leases.Lease.{Lease}
use Rattle.lease_table.specs.declared.leases.Row.{Row}
use Rattle.lease_table.specs.Rows.{LeaseRows, is_of, is_live_row, live_rows, without}
use Rattle.bench_records.specs.declared.records.BenchRecord.{BenchRecord}
use Rattle.bench_records.specs.declared.records.BenchRecord.TheVariants.{Begin, Solve, Expand}
use Rattle.bench_core.specs.declared.refusals.LeaseRefusal.{LeaseRefusal}
use Rattle.bench_core.specs.Records.{is_work, is_work_on}
use Rattle.bench_core.specs.Growing.{GrowsWithAll, IsForestOf}
use Rattle.bench_core.specs.States.{CoreState, SessionSettings, Event, AsksLease, Finds, BeginsRoot, Releases, Happens, IsRun, lease_answer, after_answer, with_lease, with_lease_rows}
use Rattle.bench_core.specs.Cores.{Core, MayStage, IsResult, with_staged, keep_for, applied_by, applied_by_all, IsCommitted}
use Rattle.tree_manager.specs.declared.entries.Attachment.{Attachment}
use Rattle.tree_manager.specs.declared.entries.Entry.{Entry}
use Rattle.tree_manager.specs.declared.entries.Entry.TheVariants.{Put, Attached, Leased, Released, Acked, Broken}
use Rattle.tree_manager.specs.Entries.{record_put, acknowledges, attaches, gives_lease, ends_lease}
use Rattle.tree_manager.specs.Lines.{recorded, applied_in, unapplied_in, attachment_of, behind_attached, work_applied, leases_given}
use Rattle.tree_manager.specs.LiveLeases.{rows_left}
use Rattle.tree_manager.specs.Histories.{IsStateOf, IsCoreOf, IsNewCore, Enters}
use Rattle.tree_manager.proofs.LineLemmas.{applied_more, applied_all, staged_more, staged_none, recorded_split}
use Rattle.tree_manager.proofs.RowLemmas.{rows_push, rows_released, rows_broken, rows_acked, rows_later, rows_leased, new_row, rows_put, put_other, keep_other, begin_of_none}
use Rattle.tree_manager.proofs.PickLemmas.{lease_number, lease_free}

-- ---- counts

count_by-append : {X : Type 0} (p : X → Bool) (xs ys : List X) → count_by p (xs ++ ys) ≡ count_by p xs + count_by p ys
count_by-append p xs ys = sum_by-append (λ x. cond (p x) 1 0) xs ys

given_push : (line : List Entry) (e : Entry) → leases_given (line ++ e ∷ []) ≡ leases_given line + count_by gives_lease (e ∷ [])
given_push line e = count_by-append gives_lease line (e ∷ [])

plus_none : (n : ℕ) → n + (0 + 0) ≡ n
plus_none n = omega arith

given_more : (line : List Entry) (e : Entry) → gives_lease e ≡ false → leases_given (line ++ e ∷ []) ≡ leases_given line
given_more line e no_lease = given_push line e ∙ (ap (λ b. leases_given line + (0 + cond b 1 0)) no_lease ∙ plus_none (leases_given line))

given_one : (line : List Entry) (l : Lease) → leases_given (line ++ Leased l ∷ []) ≡ leases_given line + 1
given_one line l = given_push line (Leased l) ∙ omega arith

-- ---- the Attached

pub attachment_push : (line : List Entry) (e : Entry) (a : Attachment) → attachment_of line ≡ Some a → attachment_of (line ++ e ∷ []) ≡ Some a
attachment_push [] e a h = absurd (cc h)
attachment_push (Put r ∷ line) e a h = attachment_push line e a h
attachment_push (Attached b ∷ line) e a h = h
attachment_push (Leased l ∷ line) e a h = attachment_push line e a h
attachment_push (Released id ∷ line) e a h = attachment_push line e a h
attachment_push (Acked m ∷ line) e a h = attachment_push line e a h
attachment_push (Broken f ∷ line) e a h = attachment_push line e a h

pub attached_any : (line : List Entry) (a : Attachment) → attachment_of line ≡ Some a → list_any attaches line ≡ true
attached_any [] a h = absurd (cc h)
attached_any (Put r ∷ line) a h = attached_any line a h
attached_any (Attached b ∷ line) a h = refl
attached_any (Leased l ∷ line) a h = attached_any line a h
attached_any (Released id ∷ line) a h = attached_any line a h
attached_any (Acked m ∷ line) a h = attached_any line a h
attached_any (Broken f ∷ line) a h = attached_any line a h

behind_cond : (b : Bool) (line : List Entry) (e : Entry) → (b ≡ false → behind_attached (line ++ e ∷ []) ≡ behind_attached line ++ e ∷ [])
    → cond b (line ++ e ∷ []) (behind_attached (line ++ e ∷ [])) ≡ cond b line (behind_attached line) ++ e ∷ []
behind_cond true line e rest = refl
behind_cond false line e rest = rest refl

pub behind_push : (line : List Entry) (e : Entry) → list_any attaches line ≡ true → behind_attached (line ++ e ∷ []) ≡ behind_attached line ++ e ∷ []
behind_push [] e h = absurd (false≢true h)
behind_push (x ∷ line) e h =
    behind_cond (attaches x) line e
    (λ other. behind_push line e (⊎_elim (λ here. absurd (true≢false (sym here ∙ other))) (λ rest. rest) (or_cases (attaches x) (list_any attaches line) h)))

pub attached_acknowledges : (line : List Entry) → list_any attaches line ≡ true → list_any acknowledges line ≡ true
attached_acknowledges [] h = h
attached_acknowledges (Put r ∷ line) h = attached_acknowledges line h
attached_acknowledges (Attached a ∷ line) h = refl
attached_acknowledges (Leased l ∷ line) h = attached_acknowledges line h
attached_acknowledges (Released id ∷ line) h = attached_acknowledges line h
attached_acknowledges (Acked m ∷ line) h = refl
attached_acknowledges (Broken f ∷ line) h = attached_acknowledges line h

-- what is staged stands behind the Attached
staged_behind : (line : List Entry) → list_any attaches line ≡ true → unapplied_in (behind_attached line) ≡ unapplied_in line
staged_behind [] h = absurd (false≢true h)
staged_behind (Put r ∷ line) h = rw (attached_acknowledges line h) (staged_behind line h)
staged_behind (Attached a ∷ line) h = refl
staged_behind (Leased l ∷ line) h = rw (attached_acknowledges line h) (staged_behind line h)
staged_behind (Released id ∷ line) h = rw (attached_acknowledges line h) (staged_behind line h)
staged_behind (Acked m ∷ line) h = staged_behind line h
staged_behind (Broken f ∷ line) h = rw (attached_acknowledges line h) (staged_behind line h)

work_more : (line : List Entry) (e : Entry) → list_any attaches line ≡ true → acknowledges e ≡ false → work_applied (line ++ e ∷ []) ≡ work_applied line
work_more line e h quiet =
    ap (λ l. count_by is_work (applied_in l)) (behind_push line e h) ∙ ap (count_by is_work) (applied_more (behind_attached line) e quiet)

work_acked : (line : List Entry) (moment : ℕ) → list_any attaches line ≡ true → work_applied (line ++ Acked moment ∷ []) ≡ work_applied line + count_by is_work (unapplied_in line)
work_acked line moment h =
    ap (λ l. count_by is_work (applied_in l)) (behind_push line (Acked moment) h)
    ∙ (ap (count_by is_work) (applied_all (behind_attached line) (Acked moment) refl)
    ∙ (ap (count_by is_work) (recorded_split (behind_attached line))
    ∙ (count_by-append is_work (applied_in (behind_attached line)) (unapplied_in (behind_attached line))
    ∙ ap (λ rs. work_applied line + count_by is_work rs) (staged_behind line h))))

-- ---- entries that apply nothing and give no lease

quiet_state : (line : List Entry) (s : CoreState) (e : Entry) (rows : List Row) → IsStateOf line s → acknowledges e ≡ false → gives_lease e ≡ false
    → rows ≡ rows_left s.leases.limit s.given (line ++ e ∷ []) → IsStateOf (line ++ e ∷ []) (with_lease_rows s rows)
quiet_state line s e rows h quiet no_lease same = record {
  forest = rw (applied_more line e quiet) h.forest;
  rows = same;
  given = h.given ∙ sym (given_more line e no_lease);
  work = h.work ∙ sym (work_more line e (attached_any line h.attachment h.attached) quiet);
  attachment = h.attachment;
  attached = attachment_push line e h.attachment h.attached;
  settings = h.settings;
  limit = h.limit;
}

rows_begin : (limit now : ℕ) (line : List Entry) (r : BenchRecord) → is_work r ≡ false → rows_left limit now (line ++ Put r ∷ []) ≡ map (keep_for true r) (rows_left limit now line)
rows_begin limit now line r begins =
    rows_push (map (keep_for true r)) (map-append (keep_for true r)) refl limit now now (Put r)
    (λ l behind. put_other limit now behind r l (begin_of_none r l.node begins)
    ∙ sym (keep_other r (list_any (ends_lease l) behind) (list_any (is_work_on l.node) (unapplied_in behind)) (list_any (is_work_on l.node) (recorded behind)) _ l (begin_of_none r l.node begins)))
    line
    ∙ append-nil (map (keep_for true r) (rows_left limit now line))

-- ---- a record is put

pub contains_nothing : {X : Type 0} (x : X) → Contains [] x → ⊥
contains_nothing x there = omega (arith, there.1)

pub Contains-cases : {X : Type 0} (x y : X) (xs : List X) → Contains (x ∷ xs) y → (x ≡ y) ⊎ Contains xs y
Contains-cases x y xs there = ⊎_elim
    (λ first. ⊎_elim (λ nothing. absurd (contains_nothing y nothing)) (λ same. inl same) (Contains-push_cases [] x y first))
    (λ rest. inr rest)
    (Contains-append_cases (x ∷ []) xs y there)

pub any_contains : {X : Type 0} (t : X → Bool) (xs : List X) (x : X) → Contains xs x → t x ≡ true → list_any t xs ≡ true
any_contains t [] x there pass = absurd (contains_nothing x there)
any_contains t (y ∷ xs) x there pass = ⊎_elim
    (λ same. or_left (t y) (list_any t xs) (ap t same ∙ pass))
    (λ rest. or_right (t y) (list_any t xs) (any_contains t xs x rest pass))
    (Contains-cases y x xs there)

result_rows : (line : List Entry) (old : Core) (r : BenchRecord) → IsCoreOf line old → IsResult old r
    → map (keep_for true r) old.state.leases.rows ≡ rows_left old.state.leases.limit old.state.given (line ++ Put r ∷ [])
result_rows line old r h result =
    let there : Contains (rows_left old.state.leases.limit old.state.given line) result.row = subst (λ rows. Contains rows result.row) h.state.rows result.there in
    ap (map (keep_for true r)) h.state.rows
    ∙ sym (rows_put old.state.leases.limit old.state.given line r
    (any_contains (λ row. is_work_on row.lease.node r) (rows_left old.state.leases.limit old.state.given line) result.row there result.found.own))

put_rows : (line : List Entry) (old : Core) (r : BenchRecord) → IsCoreOf line old → MayStage old r
    → map (keep_for true r) old.state.leases.rows ≡ rows_left old.state.leases.limit old.state.given (line ++ Put r ∷ [])
put_rows line old (Begin p) h may = ap (map (keep_for true (Begin p))) h.state.rows ∙ sym (rows_begin old.state.leases.limit old.state.given line (Begin p) refl)
put_rows line old (Solve n p shown) h may = result_rows line old (Solve n p shown) h may
put_rows line old (Expand n) h may = result_rows line old (Expand n) h may

put_core : (line : List Entry) (old : Core) (r : BenchRecord) → IsCoreOf line old → MayStage old r → IsCoreOf (line ++ Put r ∷ []) (with_staged old r)
put_core line old r h may = record {
  state = quiet_state line old.state (Put r) (map (keep_for true r) old.state.leases.rows) h.state refl refl (put_rows line old r h may);
  records = h.records ∙ sym (applied_more line (Put r) refl);
  staged = ap (λ rs. rs ++ r ∷ []) h.staged ∙ sym (staged_more line (Put r) refl);
}

-- ---- an entry that stages nothing either

quiet_core : (line : List Entry) (old : Core) (e : Entry) (rows : List Row) → IsCoreOf line old → acknowledges e ≡ false → gives_lease e ≡ false → record_put e ≡ []
    → rows ≡ rows_left old.state.leases.limit old.state.given (line ++ e ∷ []) → IsCoreOf (line ++ e ∷ []) (record old { state = with_lease_rows old.state rows })
quiet_core line old e rows h quiet no_lease none same = record {
  state = quiet_state line old.state e rows h.state quiet no_lease same;
  records = h.records ∙ sym (applied_more line e quiet);
  staged = h.staged ∙ sym (staged_more line e quiet ∙ (ap (λ rs. unapplied_in line ++ rs) none ∙ append-nil (unapplied_in line)));
}

released_core : (line : List Entry) (old : Core) (id : ℕ) → IsCoreOf line old
    → IsCoreOf (line ++ Released id ∷ []) (record old { state = with_lease_rows old.state (without id old.state.leases.rows) })
released_core line old id h =
    quiet_core line old (Released id) (without id old.state.leases.rows) h refl refl refl
    (ap (without id) h.state.rows ∙ sym (rows_released old.state.leases.limit old.state.given line id))

broken_core : (line : List Entry) (old : Core) (faults : ℕ) → IsCoreOf line old → IsCoreOf (line ++ Broken faults ∷ []) old
broken_core line old faults h =
    quiet_core line old (Broken faults) old.state.leases.rows h refl refl refl
    (h.state.rows ∙ sym (rows_broken old.state.leases.limit old.state.given line faults))

-- ---- a lease

leased_core : (line : List Entry) (old : Core) (lease : Lease) → 1 ≤ old.state.leases.limit → IsCoreOf line old → lease_answer old.state lease.worker ≡ Ok lease
    → IsCoreOf (line ++ Leased lease ∷ []) (record old { state = with_lease old.state lease })
leased_core line old lease lasts h answer =
    let s = old.state in
    let limit = s.leases.limit in
    let now = s.given + 1 in
    let number : lease.id ≡ now = lease_number s lease.worker lease answer in
    let later : rows_left limit now line ≡ live_rows s.leases now = rows_later limit s.given now line (omega arith) ∙ ap (filter (is_live_row limit now)) (sym h.state.rows) in
    let free : list_any (is_of lease.node) (rows_left limit now line) ≡ false = ap (list_any (is_of lease.node)) later ∙ lease_free s lease.worker lease answer in
    record {
      state = record {
        forest = rw (applied_more line (Leased lease) refl) h.state.forest;
        rows = sym (rows_leased limit now line lease free ∙ rw (later, new_row limit now lease number lasts) refl);
        given = ap (λ n. n + 1) h.state.given ∙ sym (given_one line lease);
        work = h.state.work ∙ sym (work_more line (Leased lease) (attached_any line h.state.attachment h.state.attached) refl);
        attachment = h.state.attachment;
        attached = attachment_push line (Leased lease) h.state.attachment h.state.attached;
        settings = h.state.settings;
        limit = h.state.limit;
      };
      records = h.records ∙ sym (applied_more line (Leased lease) refl);
      staged = h.staged ∙ sym (staged_more line (Leased lease) refl ∙ append-nil (unapplied_in line));
    }

-- ---- a commit

pub grows_append : (k : ℕ) (old mid new : Forest) (rs qs : List BenchRecord) → GrowsWithAll k old rs mid → GrowsWithAll k mid qs new → GrowsWithAll k old (rs ++ qs) new
grows_append k old mid new [] qs p q = subst (λ f. GrowsWithAll k f qs new) p q
grows_append k old mid new (r ∷ rs) qs p q = (p.0, (p.1.0, grows_append k p.0 mid new rs qs p.1.1 q))

-- what a run of events leaves, and what it grows
pub record IsGrownState (s new : CoreState) (rs : List BenchRecord) : Type 0 where
  pub settings : new.settings ≡ s.settings
  pub limit : new.leases.limit ≡ s.leases.limit
  pub work : new.work ≡ s.work + count_by is_work rs
  pub forest : GrowsWithAll s.settings.pieces s.forest rs new.forest

stays_grown : (s : CoreState) → IsGrownState s s []
stays_grown s = record { settings = refl; limit = refl; work = omega arith; forest = refl }

answer_grown : (s : CoreState) (answer : Result Lease LeaseRefusal) → IsGrownState s (after_answer s answer) []
answer_grown s (Ok lease) = record { settings = refl; limit = refl; work = omega arith; forest = refl }
answer_grown s (Err refusal) = stays_grown s

one_work : (n : ℕ) (r : BenchRecord) (w : ℕ) → is_work_on n r ≡ true → w + 1 ≡ w + count_by is_work (r ∷ [])
one_work n (Begin p) w own = absurd (false≢true own)
one_work n (Solve m p shown) w own = omega arith
one_work n (Expand m) w own = omega arith

event_grown : (s new : CoreState) (e : Event) → Happens s e new → IsGrownState s new (applied_by e)
event_grown s new (AsksLease worker) h = subst (λ t. IsGrownState s t []) (sym h) (answer_grown s (lease_answer s worker))
event_grown s new (Finds id r) h =
    let settings : new.settings ≡ s.settings = ap (λ (t : CoreState). t.settings) h.rest in
    let limit : new.leases.limit ≡ s.leases.limit = ap (λ (t : CoreState). t.leases.limit) h.rest in
    let work : new.work ≡ s.work + 1 = ap (λ (t : CoreState). t.work) h.rest in
    record { settings = settings; limit = limit; work = work ∙ one_work h.row.row.lease.node r s.work h.row.holds.own; forest = (new.forest, (h.grown, refl)) }
event_grown s new (BeginsRoot p) h =
    let settings : new.settings ≡ s.settings = ap (λ (t : CoreState). t.settings) h.rest in
    let limit : new.leases.limit ≡ s.leases.limit = ap (λ (t : CoreState). t.leases.limit) h.rest in
    let work : new.work ≡ s.work = ap (λ (t : CoreState). t.work) h.rest in
    record { settings = settings; limit = limit; work = work ∙ omega arith; forest = (new.forest, (h.grown, refl)) }
event_grown s new (Releases id) h = subst (λ t. IsGrownState s t []) (sym h.rest) (record { settings = refl; limit = refl; work = omega arith; forest = refl })

grown_then : (s mid new : CoreState) (rs qs : List BenchRecord) → IsGrownState s mid rs → IsGrownState mid new qs → IsGrownState s new (rs ++ qs)
grown_then s mid new rs qs p q = record {
  settings = q.settings ∙ p.settings;
  limit = q.limit ∙ p.limit;
  work = omega (arith, q.work, p.work, count_by-append is_work rs qs);
  forest = grows_append s.settings.pieces s.forest mid.forest new.forest rs qs p.forest (subst (λ (t : SessionSettings). GrowsWithAll t.pieces mid.forest qs new.forest) p.settings q.forest);
}

pub run_grown : (s new : CoreState) (events : List Event) → IsRun s events new → IsGrownState s new (applied_by_all events)
run_grown s new [] h = subst (λ t. IsGrownState s t []) (sym h) (stays_grown s)
run_grown s new (e ∷ events) h = grown_then s h.0 new (applied_by e) (applied_by_all events) (event_grown s h.0 e h.1.0) (run_grown h.0 new events h.1.1)

acked_core : (line : List Entry) (old new : Core) (moment : ℕ) → IsCoreOf line old → IsCommitted old new
    → IsCoreOf (line ++ Acked moment ∷ []) new
acked_core line old new moment h committed =
    let given : new.state.given ≡ old.state.given = committed.given in
    let e = Acked moment in
    let grown : IsGrownState old.state new.state old.staged = subst (IsGrownState old.state new.state) committed.in_order (run_grown old.state new.state committed.events committed.run) in
    let all : applied_in (line ++ e ∷ []) ≡ old.records ++ old.staged = applied_all line e refl ∙ (recorded_split line ∙ sym (rw (h.records, h.staged) refl)) in
    let forest : IsForestOf old.state.settings.pieces (applied_in (line ++ e ∷ [])) new.state.forest =
    subst (λ rs. IsForestOf old.state.settings.pieces rs new.state.forest) (sym all)
    (grows_append old.state.settings.pieces _ old.state.forest new.state.forest old.records old.staged (subst (λ rs. IsForestOf old.state.settings.pieces rs old.state.forest) (sym h.records) h.state.forest) grown.forest) in
    record {
      state = record {
        forest = subst (λ (t : SessionSettings). IsForestOf t.pieces (applied_in (line ++ e ∷ [])) new.state.forest) (sym grown.settings) forest;
        rows = committed.ended ∙ (ap (filter (λ row. not row.kept)) h.state.rows ∙ (sym (rows_acked old.state.leases.limit old.state.given line moment)
            ∙ rw (grown.limit, given) refl));
        given = given ∙ (h.state.given ∙ sym (given_more line e refl));
        work = grown.work ∙ (rw (h.state.work, h.staged) refl ∙ sym (work_acked line moment (attached_any line h.state.attachment h.state.attached)));
        attachment = h.state.attachment;
        attached = attachment_push line e h.state.attachment h.state.attached;
        settings = grown.settings ∙ h.state.settings;
        limit = grown.limit ∙ h.state.limit;
      };
      records = committed.records ∙ sym all;
      staged = committed.staged ∙ sym (staged_none line e refl);
    }

-- ---- any entry

enters_lasts : (old new : Core) (e : Entry) → Enters old e new → new.state.leases.limit ≡ old.state.leases.limit
enters_lasts old new (Put r) h = ap (λ (c : Core). c.state.leases.limit) h.1
enters_lasts old new (Attached a) h = absurd h
enters_lasts old new (Leased lease) h = ap (λ (c : Core). c.state.leases.limit) h.1
enters_lasts old new (Released id) h = ap (λ (c : Core). c.state.leases.limit) h.1
enters_lasts old new (Acked moment) h = (run_grown old.state new.state h.events h.run).limit
enters_lasts old new (Broken faults) h = ap (λ (c : Core). c.state.leases.limit) h

enters_stands : (line : List Entry) (old new : Core) (e : Entry) → 1 ≤ old.state.leases.limit → IsCoreOf line old → Enters old e new → IsCoreOf (line ++ e ∷ []) new
enters_stands line old new (Put r) lasts h enters = subst (IsCoreOf (line ++ Put r ∷ [])) (sym enters.1) (put_core line old r h enters.0)
enters_stands line old new (Attached a) lasts h enters = absurd enters
enters_stands line old new (Leased lease) lasts h enters = subst (IsCoreOf (line ++ Leased lease ∷ [])) (sym enters.1) (leased_core line old lease lasts h enters.0)
enters_stands line old new (Released id) lasts h enters = subst (IsCoreOf (line ++ Released id ∷ [])) (sym enters.1) (released_core line old id h)
enters_stands line old new (Acked moment) lasts h enters = acked_core line old new moment h enters
enters_stands line old new (Broken faults) lasts h enters = subst (IsCoreOf (line ++ Broken faults ∷ [])) (sym enters) (broken_core line old faults h)

pub enters_core : (line : List Entry) (old new : Core) (e : Entry) → 1 ≤ old.state.leases.limit → IsCoreOf line old → Enters old e new
    → IsCoreOf (line ++ e ∷ []) new × (1 ≤ new.state.leases.limit)
enters_core line old new e lasts h enters = (enters_stands line old new e lasts h enters, omega (arith, lasts, enters_lasts old new e enters))

-- ---- the beginning

replayed_recorded : (rs : List BenchRecord) → recorded (map Put rs) ≡ rs
replayed_recorded [] = refl
replayed_recorded (r ∷ rs) = ap (λ (l : List BenchRecord). r ∷ l) (replayed_recorded rs)

pub replayed_applied : (rs : List BenchRecord) (a : Attachment) → applied_in (map Put rs ++ Attached a ∷ []) ≡ rs
replayed_applied rs a = applied_all (map Put rs) (Attached a) refl ∙ replayed_recorded rs

replayed_rows : (limit now : ℕ) (rs : List BenchRecord) (a : Attachment) → rows_left limit now (map Put rs ++ Attached a ∷ []) ≡ []
replayed_rows limit now [] a = refl
replayed_rows limit now (r ∷ rs) a = replayed_rows limit now rs a

replayed_given : (rs : List BenchRecord) (a : Attachment) → leases_given (map Put rs ++ Attached a ∷ []) ≡ 0
replayed_given [] a = refl
replayed_given (r ∷ rs) a = replayed_given rs a

replayed_behind : (rs : List BenchRecord) (a : Attachment) → behind_attached (map Put rs ++ Attached a ∷ []) ≡ []
replayed_behind [] a = refl
replayed_behind (r ∷ rs) a = replayed_behind rs a

pub replayed_attachment : (rs : List BenchRecord) (a : Attachment) → attachment_of (map Put rs ++ Attached a ∷ []) ≡ Some a
replayed_attachment [] a = refl
replayed_attachment (r ∷ rs) a = replayed_attachment rs a

pub new_core_stands : (replayed : List BenchRecord) (a : Attachment) (core : Core) → IsNewCore replayed a core → IsCoreOf (map Put replayed ++ Attached a ∷ []) core × (1 ≤ core.state.leases.limit)
new_core_stands replayed a core h =
    let limit : core.state.leases.limit ≡ a.limit = ap (λ (t : LeaseRows). t.limit) h.leases in (
      record {
        state = record {
          forest = rw (replayed_applied replayed a) (subst (λ (t : SessionSettings). IsForestOf t.pieces replayed core.state.forest) (sym h.settings) h.forest);
          rows = ap (λ (t : LeaseRows). t.rows) h.leases ∙ sym (replayed_rows core.state.leases.limit core.state.given replayed a);
          given = h.given ∙ sym (replayed_given replayed a);
          work = h.work ∙ sym (ap (λ l. count_by is_work (applied_in l)) (replayed_behind replayed a));
          attachment = a;
          attached = replayed_attachment replayed a;
          settings = h.settings;
          limit = limit;
        };
        records = h.records ∙ sym (replayed_applied replayed a);
        staged = h.staged ∙ sym (staged_none (map Put replayed) (Attached a) refl);
      },
      omega (arith, limit, h.lasts),
    )
