-- While every unsettled root is within reach, each work record that is applied settles one.
use Rattle.std.proofs.Common.{◌≡◌, ◌≤◌, ◌+◌, ℕ, Bool, true, false, cond, List, [], ◌∷◌, ◌++◌, Option, Some, None, is_some, refl, ap, sym, ◌∙◌, subst, inl, inr, ⊎_elim, arith}
use Rattle.std.specs.Prelude.{not, nat_le, Contains, Result, Err}
use Rattle.std.specs.List.{AllByRecursion as Each}
use Rattle.std.proofs.lemmas.Bool.{true≢false, false≢true, eqb-true, eq-eqb, not-true}
use Rattle.draughts_board.specs.Board.{Board}
use Rattle.draughts_board.specs.declared.pieces.Side.{Side}
use Rattle.strategy_certificate.specs.declared.certificates.Certificate.{Certificate}
use Rattle.certificate_checker.specs.Told.{facts_shown}
use Rattle.proof_numbers.specs.Known.{Known, joined}
use Rattle.proof_tree.specs.Forest.{Own, Forest, Node, nodes, node_at, value_of}
use Rattle.proof_tree.specs.Changes.{changed, learn, with_facts}
use Rattle.proof_tree.specs.Picking.{pick}
use Rattle.proof_tree.proofs.Numbered.{at_most_once}
use Rattle.lease_table.specs.declared.leases.Lease.{Lease}
use Rattle.lease_table.specs.declared.leases.Row.{Row}
use Rattle.lease_table.specs.Rows.{is_live_row, is_leased, has_id, live_rows, without}
use Rattle.bench_records.specs.declared.records.BenchRecord.{BenchRecord}
use Rattle.bench_records.specs.declared.records.BenchRecord.TheVariants as records
use Rattle.bench_core.specs.declared.refusals.LeaseRefusal.{LeaseRefusal}
use Rattle.bench_core.specs.declared.refusals.LeaseRefusal.TheVariants.{Done, Spent}
use Rattle.bench_core.specs.Records.{begun}
use Rattle.bench_core.specs.States.{CoreState, Event, AsksLease, Finds, BeginsRoot, Releases, Happens, IsRun, IsAfterResult, IsSoundState, lease_answer, lease_of, lease_of_picked, after_answer, are_settled}
use Rattle.bench_core.specs.Cores.{applied_by, applied_by_all}
use Rattle.bench_core.proofs.Lists.{Each-append, Each-contains, Each-filter, Each-weaker, each_of_contains, Contains-unfilter}
use Rattle.bench_core.proofs.EventLaws.{events_keep_sound}
use Rattle.bench_core.proofs.RowsApart.{apart_one}
use Rattle.journal_runs.specs.Ample.{ShowsValue, IsWithinReach}
use Rattle.journal_runs.specs.FirstPass.{IsUnsettledRoot}
use Rattle.journal_runs.proofs.AttachedLines.{begun_append}
use Rattle.journal_runs.proofs.AmpleRoots.{IsLeafOrSettled, IsSettledOne, left, number_named, picked_root, settled_one, shown_for, shown_settles, the_root}

abbrev NamesRoot : Forest → Row → Type 0
NamesRoot roots row = IsUnsettledRoot row.lease.node roots

-- Each unsettled root is within reach, each lease is of one, and those that are left and the work done
-- come to no more than the budget.
pub record IsWithin (s : CoreState) : Type 0 where
  pub sound : IsSoundState s
  pub within : Each (IsWithinReach s.settings.pieces s.settings.depth) (nodes s.forest)
  pub rows : Each (NamesRoot s.forest) s.leases.rows
  pub few : left s.forest + s.work ≤ s.settings.budget

reach_leaf : (k depth : ℕ) (root : Node) → IsWithinReach k depth root → IsLeafOrSettled root
reach_leaf k depth root (inl settled) = inl settled
reach_leaf k depth root (inr h) = inr h.0

-- ---- a lease

module _ (s : CoreState) (h : IsWithin s) where
  sound_after : (e : Event) (new : CoreState) → Happens s e new → IsSoundState new
  sound_after e new happens = events_keep_sound s new (e ∷ []) h.sound (new, (happens, refl))

  abbrev IsWithinRows : CoreState → Type 0
  IsWithinRows new = Each (IsWithinReach new.settings.pieces new.settings.depth) (nodes new.forest) × (Each (NamesRoot new.forest) new.leases.rows × (left new.forest + new.work ≤ new.settings.budget))

  with_picked : (worker : ℕ) (o : Option (ℕ × Side)) → pick (λ n. is_leased s.leases n (s.given + 1)) s.forest ≡ o → IsWithinRows (after_answer s (lease_of_picked s worker o))
  with_picked worker None is = (h.within, (h.rows, h.few))
  with_picked worker (Some leaf) is =
      let taken = λ (n : ℕ). is_leased s.leases n (s.given + 1) in
      let root = picked_root taken s.forest leaf (Each-weaker (IsWithinReach s.settings.pieces s.settings.depth) IsLeafOrSettled (reach_leaf s.settings.pieces s.settings.depth) (nodes s.forest) h.within) is in (
        h.within,
        (
          Each-append (NamesRoot s.forest) (live_rows s.leases (s.given + 1)) (record { lease = lease_of s worker leaf; kept = false } ∷ [])
              (Each-filter (NamesRoot s.forest) (NamesRoot s.forest) (is_live_row s.leases.limit (s.given + 1)) (λ row names lives. names) s.leases.rows h.rows) (root, tt),
          h.few,
        ),
      )

  with_cond : (b : Bool) (x y : Result Lease LeaseRefusal) → IsWithinRows (after_answer s x) → IsWithinRows (after_answer s y) → IsWithinRows (after_answer s (cond b x y))
  with_cond true x y p q = p
  with_cond false x y p q = q

  with_answer : (worker : ℕ) → IsWithinRows (after_answer s (lease_answer s worker))
  with_answer worker =
      let o = pick (λ n. is_leased s.leases n (s.given + 1)) s.forest in
      let inner = lease_of_picked s worker o in
      with_cond (are_settled s.forest) (Err Done) (cond (nat_le s.settings.budget s.work) (Err (Spent s.work s.settings.budget)) inner) (h.within, (h.rows, h.few))
      (with_cond (nat_le s.settings.budget s.work) (Err (Spent s.work s.settings.budget)) inner (h.within, (h.rows, h.few)) (with_picked worker o refl))

  within_from : (new : CoreState) → IsSoundState new → IsWithinRows new → IsWithin new
  within_from new sound all = record { sound = sound; within = all.0; rows = all.1.0; few = all.1.1 }

  within_asked : (worker : ℕ) (new : CoreState) → Happens s (AsksLease worker) new → IsWithin new
  within_asked worker new happens = within_from new (sound_after (AsksLease worker) new happens) (subst IsWithinRows (sym happens) (with_answer worker))

  -- ---- a lease that ends

  within_released : (id : ℕ) (new : CoreState) → Happens s (Releases id) new → IsWithin new
  within_released id new happens =
      within_from new (sound_after (Releases id) new happens)
      (subst IsWithinRows (sym happens.rest)
      (h.within, (Each-filter (NamesRoot s.forest) (NamesRoot s.forest) (λ row. not (has_id id row)) (λ row names passes. names) s.leases.rows h.rows, h.few)))

  -- ---- a result

  abbrev k : ℕ
  k = s.settings.pieces

  abbrev depth : ℕ
  depth = s.settings.depth

  -- the root that a row names
  named_shows : (row : Row) → Contains s.leases.rows row → (x : Node) → node_at row.lease.node s.forest ≡ Some x → ShowsValue k depth x.own.position
  named_shows row there x at =
      let root = Each-contains (NamesRoot s.forest) s.leases.rows row h.rows there in
      let its = the_root (IsWithinReach k depth) row.lease.node s.forest x (at_most_once row.lease.node s.forest h.sound.1.numbered.numbered) root at h.within in
      ⊎_elim (λ settled. absurd (false≢true (sym (ap is_some its.0) ∙ settled))) (λ reach. reach.1) its.1

  learnt_own : (n : ℕ) (facts : Known) (own : Own) → own.number ≡ n → learn n facts own ≡ record own { facts = joined own.facts facts }
  learnt_own n facts own is = ap (λ b. cond b (record own { facts = joined own.facts facts }) own) (eq-eqb own.number n is)

  within_solved : (id n : ℕ) (p : Board) (shown : List Certificate) (new : CoreState) → IsAfterResult s id (records.Solve n p shown) new → IsWithinRows new
  within_solved id n p shown new happens =
      let row = happens.row.row in
      let facts = facts_shown shown in
      let same : n ≡ row.lease.node = eqb-true n row.lease.node happens.row.holds.own in
      let found = happens.row.holds.found in
      let x = found.leaf in
      let shows : ShowsValue k depth x.own.position = named_shows row happens.row.there x found.there in
      let at : node_at n s.forest ≡ Some x = ap (λ m. node_at m s.forest) same ∙ found.there in
      let own_is = learnt_own n facts x.own (number_named n s.forest x at) in
      let settles : is_some (value_of (record { own = learn n facts x.own; children = changed (learn n facts) x.children })) ≡ true =
      subst (λ (own : Own). is_some (value_of (record { own = own; children = changed (learn n facts) x.children })) ≡ true) (sym own_is)
      (shown_settles k depth (record x.own { facts = joined x.own.facts facts }) (changed (learn n facts) x.children) shows found.holds.wins found.holds.holds) in
      let root = subst (λ m. IsUnsettledRoot m s.forest) (sym same) (Each-contains (NamesRoot s.forest) s.leases.rows row h.rows happens.row.there) in
      let one : IsSettledOne n facts (IsWithinReach k depth) (λ root settled. inl settled) s.forest (with_facts n facts s.forest) =
      settled_one n facts (IsWithinReach k depth) (λ root settled. inl settled) s.forest x (at_most_once n s.forest h.sound.1.numbered.numbered) root at settles h.within in
      let forest : new.forest ≡ with_facts n facts s.forest = happens.grown.applied in
      let rows : Each (NamesRoot (with_facts n facts s.forest)) (without id s.leases.rows) =
      each_of_contains (NamesRoot (with_facts n facts s.forest)) (without id s.leases.rows) (λ other there.
      let was = Contains-unfilter (λ r. not (has_id id r)) s.leases.rows other there in
      one.others other.lease.node (λ e.
      let twin : other ≡ row = apart_one s.leases.rows other row h.sound.1.apart was.0 happens.row.there (inl (e ∙ same)) in
      true≢false (sym (eq-eqb id other.lease.id (sym happens.row.number ∙ ap (λ (r : Row). r.lease.id) (sym twin))) ∙ not-true (has_id id other) was.1))
      (Each-contains (NamesRoot s.forest) s.leases.rows other h.rows was.0)) in
      subst IsWithinRows (sym happens.rest)
      (subst (λ (f : Forest). Each (IsWithinReach k depth) (nodes f) × (Each (NamesRoot f) (without id s.leases.rows) × (left f + (s.work + 1) ≤ s.settings.budget))) (sym forest)
      (one.within, (rows, (let fewer = one.fewer in let few = h.few in omega (arith, fewer, few)))))

  -- no search under a lease gives an expansion
  never_expands : (id n : ℕ) (new : CoreState) → IsAfterResult s id (records.Expand n) new → ⊥
  never_expands id n new happens =
      let row = happens.row.row in
      let found = happens.row.holds.found in
      ⊎_elim found.holds.no_win found.holds.no_hold (shown_for k depth row.lease.goal found.leaf.own.position (named_shows row happens.row.there found.leaf found.there))

  within_found : (id : ℕ) (r : BenchRecord) (new : CoreState) → IsAfterResult s id r new → IsWithinRows new
  within_found id (records.Begin p) new happens = absurd (false≢true happens.row.holds.own)
  within_found id (records.Solve n p shown) new happens = within_solved id n p shown new happens
  within_found id (records.Expand n) new happens = absurd (never_expands id n new happens)

  -- ---- any event that begins no root

  pub event_within : (e : Event) (new : CoreState) → begun (applied_by e) ≡ [] → Happens s e new → IsWithin new
  event_within (AsksLease worker) new none happens = within_asked worker new happens
  event_within (Finds id r) new none happens = within_from new (sound_after (Finds id r) new happens) (within_found id r new happens)
  event_within (BeginsRoot p) new none happens = absurd (cc none)
  event_within (Releases id) new none happens = within_released id new happens

pub none_of_two : {X : Type 0} (xs ys : List X) → xs ++ ys ≡ [] → (xs ≡ []) × (ys ≡ [])
none_of_two [] ys e = (refl, e)
none_of_two (x ∷ xs) ys e = absurd (cc e)

pub run_within : (s new : CoreState) (events : List Event) → begun (applied_by_all events) ≡ [] → IsRun s events new → IsWithin s → IsWithin new
run_within s new [] none run h = subst IsWithin (sym run) h
run_within s new (e ∷ events) none run h =
    let both = none_of_two (begun (applied_by e)) (begun (applied_by_all events)) (sym (begun_append (applied_by e) (applied_by_all events)) ∙ none) in
    run_within run.0 new events both.1 run.1.1 (event_within s h e run.0 both.0 run.1.0)
