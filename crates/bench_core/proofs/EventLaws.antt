-- Every list of events keeps a sound state sound.
use Rattle.std.proofs.Common.{◌≡◌, ◌+◌, ℕ, List, [], ◌∷◌, ◌++◌, refl, ap, sym, ◌∙◌, subst, inl}
use Rattle.std.specs.Prelude.{true, false, not, Contains}
use Rattle.std.proofs.lemmas.Bool.{true≢false, eq-eqb, false_from_ne_true, not-true}
use Rattle.draughts_board.specs.Board.{Board}
use Rattle.lease_table.specs.declared.leases.Row.{Row}
use Rattle.lease_table.specs.Rows.{has_id, without}
use Rattle.certificate_joiner.proofs.Joined.{settled_values_are_true}
use Rattle.bench_records.specs.declared.records.BenchRecord.{BenchRecord}
use Rattle.bench_records.specs.declared.records.BenchRecord.TheVariants as records
use Rattle.bench_core.specs.Records.{is_work_on, batches_shown}
use Rattle.bench_core.specs.States.{CoreState, Event, AsksLease, Finds, BeginsRoot, Releases, Happens, IsAfterResult, IsAfterBegin, IsSoundRow, IsSoundBy, IsSoundState}
use Rattle.bench_core.specs.Laws.{EventsKeepSound, SoundValuesAreTrue, LeavesAreLeasedOnce}
use Rattle.bench_core.proofs.Lists.{Each-weaker, Each-filter, Each-both, each_of_contains}
use Rattle.bench_core.proofs.RowsApart.{apart_one, apart_filter}
use Rattle.bench_core.proofs.SoundLeases.{sound_filtered, sound_asked}
use Rattle.bench_core.proofs.SoundApplied.{state_after, row_stays, state_grown, one_node}

-- a row of another number is of another node than the record
apart_from : (s : CoreState) (id : ℕ) (r : BenchRecord) (new : CoreState) (records : List BenchRecord) → IsSoundBy records s → IsAfterResult s id r new
    → (row : Row) → Contains s.leases.rows row → not (has_id id row) ≡ true → is_work_on row.lease.node r ≡ false
apart_from s id r new records sound h row there pass = false_from_ne_true (is_work_on row.lease.node r) (λ own.
    let same : row ≡ h.row.row = apart_one s.leases.rows row h.row.row sound.apart there h.row.there (inl (one_node row.lease.node h.row.row.lease.node r own h.row.holds.own)) in
    true≢false (sym (eq-eqb id row.lease.id (sym h.row.number ∙ ap (λ (x : Row). x.lease.id) (sym same))) ∙ not-true (has_id id row) pass))

sound_result : (records : List BenchRecord) (s : CoreState) (id : ℕ) (r : BenchRecord) (new : CoreState) → IsSoundBy records s → IsAfterResult s id r new → IsSoundBy (records ++ r ∷ []) new
sound_result records s id r new sound h =
    let rows = without id s.leases.rows in
    let after = state_after s new.forest (s.work + 1) rows in
    subst (IsSoundBy (records ++ r ∷ [])) (sym h.rest)
    (state_grown records s r new.forest (s.work + 1) rows h.grown sound (apart_filter (λ row. not (has_id id row)) s.leases.rows sound.apart)
    (Each-filter (λ row. IsSoundRow s row × Contains s.leases.rows row) (IsSoundRow after) (λ row. not (has_id id row))
    (λ row k pass. row_stays records s r new.forest (s.work + 1) rows sound.numbered h.grown row k.0 (apart_from s id r new records sound h row k.1 pass)) s.leases.rows
    (Each-both (IsSoundRow s) (Contains s.leases.rows) s.leases.rows sound.rows (each_of_contains (Contains s.leases.rows) s.leases.rows (λ row there. there)))))

sound_begin : (recs : List BenchRecord) (s : CoreState) (p : Board) (new : CoreState) → IsSoundBy recs s → IsAfterBegin s p new → IsSoundBy (recs ++ records.Begin p ∷ []) new
sound_begin recs s p new sound h =
    subst (IsSoundBy (recs ++ records.Begin p ∷ [])) (sym h.rest)
    (state_grown recs s (records.Begin p) new.forest s.work s.leases.rows h.grown sound sound.apart
    (Each-weaker (IsSoundRow s) (IsSoundRow (state_after s new.forest s.work s.leases.rows)) (λ row k. row_stays recs s (records.Begin p) new.forest s.work s.leases.rows sound.numbered h.grown row k refl) s.leases.rows sound.rows))

sound_event : (s : CoreState) (e : Event) (new : CoreState) → IsSoundState s → Happens s e new → IsSoundState new
sound_event s (AsksLease worker) new sound h = (sound.0, subst (IsSoundBy sound.0) (sym h) (sound_asked sound.0 s worker sound.1))
sound_event s (Finds id r) new sound h = (sound.0 ++ r ∷ [], sound_result sound.0 s id r new sound.1 h)
sound_event s (BeginsRoot p) new sound h = (sound.0 ++ records.Begin p ∷ [], sound_begin sound.0 s p new sound.1 h)
sound_event s (Releases id) new sound h = (sound.0, subst (IsSoundBy sound.0) (sym h.rest) (sound_filtered sound.0 s (λ row. not (has_id id row)) sound.1))

pub events_keep_sound : EventsKeepSound
events_keep_sound old new [] sound run = subst IsSoundState (sym run) sound
events_keep_sound old new (e ∷ events) sound run = events_keep_sound run.0 new events (sound_event old e run.0 sound run.1.0) run.1.1

pub sound_values_are_true : SoundValuesAreTrue
sound_values_are_true answer s table few sound =
    settled_values_are_true s.settings.pieces answer (batches_shown sound.0) s.forest few table sound.1.numbered.each sound.1.certified

pub leaves_are_leased_once : LeavesAreLeasedOnce
leaves_are_leased_once s one another sound here there same = apart_one s.leases.rows one another sound.1.apart here there (inl same)
