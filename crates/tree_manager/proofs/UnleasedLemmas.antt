-- Where nothing is staged, no lease that lives has its result.
use Rattle.std.proofs.Common.{◌≡◌, ℕ, List, [], ◌∷◌, ◌++◌, refl, ap, sym, ◌∙◌, subst}
use Rattle.std.specs.Prelude.{Bool, true, false, cond}
use Rattle.std.specs.List.{list_any, AllByRecursion as Each}
use Rattle.std.proofs.lemmas.Bool.{true≢false}
use Rattle.bench_records.specs.declared.records.BenchRecord.{BenchRecord}
use Rattle.bench_core.specs.Records.{is_work_on}
use Rattle.bench_core.specs.Cores.{Core}
use Rattle.lease_table.specs.declared.leases.Lease.{Lease}
use Rattle.lease_table.specs.declared.leases.Row.{Row}
use Rattle.tree_manager.specs.declared.entries.Entry.{Entry}
use Rattle.tree_manager.specs.declared.entries.Entry.TheVariants.{Put, Attached, Leased, Released, Acked, Broken}
use Rattle.tree_manager.specs.Entries.{record_put, acknowledges}
use Rattle.tree_manager.specs.Lines.{unapplied_in}
use Rattle.tree_manager.specs.LiveLeases.{lives_on, has_staged, row_left, rows_left}
use Rattle.tree_manager.specs.Histories.{IsCoreOf}
use Rattle.bench_core.proofs.Lists.{Each-append}

none_cond : (b : Bool) (rs qs : List BenchRecord) → cond b qs (rs ++ qs) ≡ [] → qs ≡ []
none_cond true rs qs h = h
none_cond false [] qs h = h
none_cond false (r ∷ rs) qs h = absurd (cc h)

none_behind : (e : Entry) (line : List Entry) → unapplied_in (e ∷ line) ≡ [] → unapplied_in line ≡ []
none_behind e line h = none_cond (list_any acknowledges (e ∷ line)) (record_put e) (unapplied_in line) h

abbrev IsWaiting : Row → Type 0
IsWaiting row = row.kept ≡ false

waiting_row : (b : Bool) (lease : Lease) (behind : List Entry) → unapplied_in behind ≡ [] → Each IsWaiting (cond b (record { lease = lease; kept = has_staged lease behind } ∷ []) [])
waiting_row true lease behind none = (ap (λ (rs : List BenchRecord). list_any (is_work_on lease.node) rs) none, tt)
waiting_row false lease behind none = tt

waiting_left : (limit now : ℕ) (behind : List Entry) (e : Entry) → unapplied_in behind ≡ [] → Each IsWaiting (row_left limit now behind e)
waiting_left limit now behind (Put r) none = tt
waiting_left limit now behind (Attached a) none = tt
waiting_left limit now behind (Leased lease) none = waiting_row (lives_on limit now lease behind) lease behind none
waiting_left limit now behind (Released id) none = tt
waiting_left limit now behind (Acked m) none = tt
waiting_left limit now behind (Broken f) none = tt

all_wait : (limit now : ℕ) (line : List Entry) → unapplied_in line ≡ [] → Each IsWaiting (rows_left limit now line)
all_wait limit now [] none = tt
all_wait limit now (e ∷ line) none =
    let behind = none_behind e line none in Each-append IsWaiting (row_left limit now line e) (rows_left limit now line) (waiting_left limit now line e behind) (all_wait limit now line behind)

none_lives : (rows : List Row) → Each (λ row. row.kept ≡ true) rows → Each IsWaiting rows → rows ≡ []
none_lives [] kept waiting = refl
none_lives (row ∷ rows) kept waiting = absurd (true≢false (sym kept.0 ∙ waiting.0))

-- so none lives where each that lives has its result
pub none_leased : (line : List Entry) (core : Core) → IsCoreOf line core → core.staged ≡ [] → Each (λ row. row.kept ≡ true) core.state.leases.rows → core.state.leases.rows ≡ []
none_leased line core stands none kept =
    none_lives core.state.leases.rows kept
    (subst (λ (rows : List Row). Each IsWaiting rows) (sym stands.state.rows) (all_wait core.state.leases.limit core.state.given line (sym stands.staged ∙ none)))
