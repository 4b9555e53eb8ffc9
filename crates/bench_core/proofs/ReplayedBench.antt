-- A record that is replayed leaves a bench sound, where nothing is leased or staged.
use Rattle.std.proofs.Common.{◌≡◌, ◌≤◌, ◌+◌, ℕ, List, [], ◌∷◌, ◌++◌, map, length, ap, sym, ◌∙◌, subst, arith, append-nil, length-append}
use Rattle.std.specs.Prelude.{Result, Ok, Err, OnOk, OnErr}
use Rattle.std.specs.List.{IsDistinct, AllByRecursion as Each}
use Rattle.std.proofs.lemmas.List.Elements.{All-nil}
use Rattle.draughts_board.specs.Board.{Board, IsLawful, same_board}
use Rattle.proof_tree.specs.Forest.{Forest}
use Rattle.proof_tree.specs.Sound.{root_positions}
use Rattle.lease_table.specs.Rows.{LeaseRows}
use Rattle.lease_table.specs.declared.leases.Row.{Row}
use Rattle.bench_records.specs.declared.records.BenchRecord.{BenchRecord}
use Rattle.bench_records.specs.declared.records.BenchRecord.TheVariants.{Begin, Solve, Expand}
use Rattle.bench_core.specs.declared.settings.Settings.{Settings}
use Rattle.bench_core.specs.declared.staged.Staged.{Staged}
use Rattle.bench_core.specs.Records.{batches_shown}
use Rattle.bench_core.specs.Growing.{GrowsWith}
use Rattle.bench_core.specs.Grown.{GrownState}
use Rattle.bench_core.specs.States.{CoreState, IsSoundRow}
use Rattle.bench_core.specs.Cores.{Core, IsSoundCore}
use Rattle.bench_core.specs.Benches.{seen, record_staged, IsBench}
use Rattle.bench_core.specs.Replaying.{IsReplayed}
use Rattle.bench_core.proofs.SoundGrowth.{grown_sound}
use Rattle.bench_core.proofs.SoundApplied.{state_grown, roots_grown}

each_of_none : {X : Type 0} (P : X → Type 0) (xs : List X) → xs ≡ [] → Each P xs
each_of_none P xs none = subst (Each P) (sym none) tt

few_roots : (k : ℕ) (f g : Forest) (r : BenchRecord) → GrowsWith k f r g → length (root_positions f) ≤ 65536 → length (root_positions g) ≤ 65536
few_roots k f g (Begin p) grows few =
    let is : length (root_positions g) ≡ length (root_positions f) + 1 = ap length (roots_grown k f g (Begin p) grows) ∙ length-append (root_positions f) (p ∷ []) in
    let room = grows.lawful.room in omega (arith, is, room)
few_roots k f g (Solve n p shown) grows few = subst (λ (ps : List Board). length ps ≤ 65536) (sym (roots_grown k f g (Solve n p shown) grows ∙ append-nil (root_positions f))) few
few_roots k f g (Expand n) grows few = subst (λ (ps : List Board). length ps ≤ 65536) (sym (roots_grown k f g (Expand n) grows ∙ append-nil (root_positions f))) few

-- the core, where nothing is staged
abbrev idle : CoreState → List BenchRecord → Core
idle s records = record { state = s; records = records; staged = [] }

core_replayed : (s : CoreState) (records : List BenchRecord) (r : BenchRecord) (g : Forest) → s.leases.rows ≡ [] → GrowsWith s.settings.pieces s.forest r g → IsSoundCore (idle s records)
    → IsSoundCore (idle (record s { forest = g }) (records ++ r ∷ []))
core_replayed s records r g none grows sound =
    let k = s.settings.pieces in
    let new : CoreState = record s { forest = g } in
    let grown = grown_sound k (batches_shown records) s.forest g r sound.state.numbered sound.state.certified grows in
    let no_more = append-nil (root_positions s.forest) in
    record {
      state = state_grown records s r g s.work s.leases.rows grows sound.state sound.state.apart (each_of_none (IsSoundRow new) s.leases.rows none);
      kept = tt;
      awaited = each_of_none (λ (row : Row). row.kept ≡ _ → _) s.leases.rows none;
      own = tt;
      lawful = All-nil IsLawful;
      distinct = subst (IsDistinct same_board) (sym (append-nil (root_positions g))) grown.apart;
      room = subst (λ (ps : List Board). length ps ≤ 65536) (sym (append-nil (root_positions g))) (few_roots k s.forest g r grows (subst (λ (ps : List Board). length ps ≤ 65536) no_more sound.room));
    }

-- ---- the bench

module _ (grown new : GrownState) (leases : LeaseRows) (given work due : ℕ) (settings : Settings) where
  abbrev Before : List Staged → Type 0
  Before waiting = IsBench (seen grown leases waiting given work settings) grown leases waiting due

  abbrev After : List Staged → Type 0
  After waiting = IsBench (seen new leases waiting given work settings) new leases waiting due

  with_core : Before [] → IsSoundCore (seen new leases [] given work settings) → After []
  with_core bench core = record {
    table = bench.table;
    few = bench.few;
    core = core;
    numbers = bench.numbers;
    apart = bench.apart;
    ready = tt;
    made = bench.made;
    nodes = (let made = bench.made in omega (arith, made));
    room = omega arith;
    countable = bench.countable;
  }

  pub bench_unchanged : Before [] → new.forest ≡ grown.forest → new.records ≡ grown.records → After []
  bench_unchanged bench forest records =
      with_core bench (subst IsSoundCore (λ i. seen (record { forest = sym forest i; records = sym records i; nodes = grown.nodes; room = grown.room }) leases [] given work settings) bench.core)

  pub bench_replayed : (r : BenchRecord) → Before [] → (seen grown leases [] given work settings).state.leases.rows ≡ [] → IsReplayed settings.pieces grown r new → After []
  bench_replayed r bench none replayed =
      let s = (seen grown leases [] given work settings).state in
      with_core bench (subst (λ (rs : List BenchRecord). IsSoundCore (idle (record s { forest = new.forest }) rs)) (sym replayed.added)
      (core_replayed s grown.records r new.forest none replayed.grown bench.core))

  -- either way
  pub bench_kept : {T E : Type 0} (k : ℕ) (r : BenchRecord) (answer : Result T E) (waiting : List Staged) → k ≡ settings.pieces → Before waiting → map record_staged waiting ≡ []
      → (seen grown leases waiting given work settings).state.leases.rows ≡ [] → OnOk answer (IsReplayed k grown r new) → OnErr answer (new.forest ≡ grown.forest) → OnErr answer (new.records ≡ grown.records) → After waiting
  bench_kept k r (Ok v) [] pieces bench staged none ok forest records = bench_replayed r bench none (subst (λ n. IsReplayed n grown r new) pieces ok)
  bench_kept k r (Err e) [] pieces bench staged none ok forest records = bench_unchanged bench forest records
  bench_kept k r answer (item ∷ waiting) pieces bench staged none ok forest records = absurd (cc)
