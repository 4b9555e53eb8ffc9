-- What is applied in a first pass, and what later growth keeps of it.
use Rattle.std.proofs.Common.{◌≡◌, ◌≤◌, ◌+◌, ℕ, suc, Bool, true, false, cond, eqb, List, [], ◌∷◌, ◌++◌, length, Option, Some, None, is_some, IsSome, refl, ap, sym, ◌∙◌, subst, inl, inr, ⊎_elim, arith}
use Rattle.std.specs.Prelude.{◌⊎◌, ◌||◌, Result, Ok, Err}
use Rattle.std.specs.List.{AllByRecursion as Each}
use Rattle.std.proofs.lemmas.Bool.{true≢false, false≢true, eqb-true, eq-eqb}
use Rattle.draughts_board.specs.Board.{Board}
use Rattle.strategy_certificate.specs.declared.certificates.Certificate.{Certificate}
use Rattle.certificate_checker.specs.Told.{facts_shown}
use Rattle.proof_numbers.specs.declared.leaves.Child.{Child}
use Rattle.proof_numbers.specs.Known.{Known, joined, known_value, IsConsistent}
use Rattle.proof_tree.specs.Forest.{Own, Forest, Node, nodes, node_at, value_of}
use Rattle.proof_tree.specs.Changes.{changed, learn, with_facts, with_children}
use Rattle.proof_tree.proofs.Numbered.{at_most_once}
use Rattle.proof_tree.proofs.Settled.{AllStay, all_with_facts, all_with_children}
use Rattle.lease_table.specs.declared.leases.Lease.{Lease}
use Rattle.bench_records.specs.declared.records.BenchRecord.{BenchRecord}
use Rattle.bench_records.specs.declared.records.BenchRecord.TheVariants as records
use Rattle.bench_core.specs.declared.refusals.LeaseRefusal.{LeaseRefusal}
use Rattle.bench_core.specs.Records.{begun, batches_shown}
use Rattle.bench_core.specs.States.{CoreState, SessionSettings, Event, AsksLease, Finds, BeginsRoot, Releases, Happens, IsRun, IsAfterResult, IsSoundState, lease_answer, after_answer}
use Rattle.bench_core.specs.Cores.{applied_by, applied_by_all}
use Rattle.bench_core.proofs.EventLaws.{events_keep_sound}
use Rattle.bench_core.proofs.SoundGrowth.{solved_agrees}
use Rattle.journal_runs.specs.Ample.{IsSettledOrFresh, IsReached}
use Rattle.journal_runs.specs.FirstPass.{IsUnsettledRoot}
use Rattle.journal_runs.proofs.AmpleRoots.{IsSettledOne, left, number_named, settled_one}
use Rattle.journal_runs.proofs.FirstRoots.{AreOnce, has}
use Rattle.journal_runs.proofs.FirstReached.{IsDue, due_expanded, due_solved, reached_expanded, reached_learnt, value_settles}

-- the nodes of work records
abbrev pub work_nodes : List BenchRecord → List ℕ
work_nodes [] = []
work_nodes (records.Begin p ∷ rs) = work_nodes rs
work_nodes (records.Solve n p shown ∷ rs) = n ∷ work_nodes rs
work_nodes (records.Expand n ∷ rs) = n ∷ work_nodes rs

after_forest : (s : CoreState) (answer : Result Lease LeaseRefusal) → (after_answer s answer).forest ≡ s.forest
after_forest s (Ok lease) = refl
after_forest s (Err refusal) = refl

after_work : (s : CoreState) (answer : Result Lease LeaseRefusal) → (after_answer s answer).work ≡ s.work
after_work s (Ok lease) = refl
after_work s (Err refusal) = refl

after_settings : (s : CoreState) (answer : Result Lease LeaseRefusal) → (after_answer s answer).settings ≡ s.settings
after_settings s (Ok lease) = refl
after_settings s (Err refusal) = refl

sound_then : (s new : CoreState) (e : Event) → IsSoundState s → Happens s e new → IsSoundState new
sound_then s new e sound happens = events_keep_sound s new (e ∷ []) sound (new, (happens, refl))

-- ---- a work record

module _ (s new : CoreState) (id n : ℕ) (sound : IsSoundState s) where
  module _ (p : Board) (shown : List Certificate) (happens : IsAfterResult s id (records.Solve n p shown) new) where
    abbrev facts : Known
    facts = facts_shown shown

    pub solved_forest : new.forest ≡ with_facts n facts s.forest
    solved_forest = happens.grown.applied

    pub solved_stay : AllStay (nodes s.forest) (nodes (with_facts n facts s.forest))
    solved_stay =
        let l = happens.grown.lawful in
        all_with_facts s.forest n l.leaf sound.1.numbered l.there l.unexpanded facts
        (solved_agrees s.settings.pieces n (batches_shown sound.0) s.forest p shown l sound.1.numbered sound.1.certified)

    pub solved_due : (ns : List ℕ) → Each (IsDue s.settings.pieces s.settings.depth (n ∷ ns)) (nodes s.forest) → Each (IsDue s.settings.pieces s.settings.depth ns) (nodes new.forest)
    solved_due ns due =
        let row = happens.row.row in
        let same : row.lease.node ≡ n = sym (eqb-true n row.lease.node happens.row.holds.own) in
        let found = happens.row.holds.found in
        let there : node_at n s.forest ≡ Some found.leaf = ap (λ m. node_at m s.forest) (sym same) ∙ found.there in
        subst (λ (f : Forest). Each (IsDue s.settings.pieces s.settings.depth ns) (nodes f)) (sym solved_forest)
        (due_solved s.settings.pieces s.settings.depth s.forest n ns found.leaf there (at_most_once n s.forest sound.1.numbered.numbered) facts solved_stay (number_named n s.forest found.leaf there) found.holds.wins found.holds.holds due)

  module _ (happens : IsAfterResult s id (records.Expand n) new) where
    pub expanded_stay : AllStay (nodes s.forest) (nodes (with_children n happens.grown.applied.0 s.forest))
    expanded_stay =
        let l = happens.grown.lawful in
        all_with_children s.forest n l.leaf sound.1.numbered l.there l.unexpanded happens.grown.applied.0

    pub expanded_due : (ns : List ℕ) → Each (IsDue s.settings.pieces s.settings.depth (n ∷ ns)) (nodes s.forest) → Each (IsDue s.settings.pieces s.settings.depth ns) (nodes new.forest)
    expanded_due ns due =
        let row = happens.row.row in
        let same : row.lease.node ≡ n = sym (eqb-true n row.lease.node happens.row.holds.own) in
        let found = happens.row.holds.found in
        let there : node_at n s.forest ≡ Some found.leaf = ap (λ m. node_at m s.forest) (sym same) ∙ found.there in
        subst (λ (f : Forest). Each (IsDue s.settings.pieces s.settings.depth ns) (nodes f)) (sym happens.grown.applied.1.1)
        (due_expanded s.settings.pieces s.settings.depth s.forest n ns found.leaf there (at_most_once n s.forest sound.1.numbered.numbered) row.lease.goal happens.grown.applied.0 expanded_stay found.holds.no_win found.holds.no_hold due)

-- ---- all that is due is applied

abbrev pub AreDue : SessionSettings → List ℕ → Forest → Type 0
AreDue settings ns t = Each (IsDue settings.pieces settings.depth ns) (nodes t)

pub run_due : (s new : CoreState) (events : List Event) → IsSoundState s → IsRun s events new → begun (applied_by_all events) ≡ [] → AreDue s.settings (work_nodes (applied_by_all events)) s.forest → AreDue s.settings [] new.forest
run_due s new [] sound run none due = subst (λ (z : CoreState). AreDue s.settings [] z.forest) (sym run) due
run_due s new (AsksLease worker ∷ events) sound run none due =
    let next = run.0 in
    let forest : next.forest ≡ s.forest = ap (λ (z : CoreState). z.forest) run.1.0 ∙ after_forest s (lease_answer s worker) in
    let settings : next.settings ≡ s.settings = ap (λ (z : CoreState). z.settings) run.1.0 ∙ after_settings s (lease_answer s worker) in
    subst (λ (z : SessionSettings). AreDue z [] new.forest) settings
    (run_due next new events (sound_then s next (AsksLease worker) sound run.1.0) run.1.1 none
    (subst (λ (z : SessionSettings). AreDue z (work_nodes (applied_by_all events)) next.forest) (sym settings) (subst (λ (f : Forest). AreDue s.settings (work_nodes (applied_by_all events)) f) (sym forest) due)))
run_due s new (Finds id (records.Begin p) ∷ events) sound run none due = absurd (cc none)
run_due s new (Finds id (records.Solve n p shown) ∷ events) sound run none due =
    let next = run.0 in
    let settings : next.settings ≡ s.settings = ap (λ (z : CoreState). z.settings) run.1.0.rest in
    subst (λ (z : SessionSettings). AreDue z [] new.forest) settings
    (run_due next new events (sound_then s next (Finds id (records.Solve n p shown)) sound run.1.0) run.1.1 none
    (subst (λ (z : SessionSettings). AreDue z (work_nodes (applied_by_all events)) next.forest) (sym settings) (solved_due s next id n sound p shown run.1.0 (work_nodes (applied_by_all events)) due)))
run_due s new (Finds id (records.Expand n) ∷ events) sound run none due =
    let next = run.0 in
    let settings : next.settings ≡ s.settings = ap (λ (z : CoreState). z.settings) run.1.0.rest in
    subst (λ (z : SessionSettings). AreDue z [] new.forest) settings
    (run_due next new events (sound_then s next (Finds id (records.Expand n)) sound run.1.0) run.1.1 none
    (subst (λ (z : SessionSettings). AreDue z (work_nodes (applied_by_all events)) next.forest) (sym settings) (expanded_due s next id n sound run.1.0 (work_nodes (applied_by_all events)) due)))
run_due s new (BeginsRoot p ∷ events) sound run none due = absurd (cc none)
run_due s new (Releases id ∷ events) sound run none due =
    let next = run.0 in
    let forest : next.forest ≡ s.forest = ap (λ (z : CoreState). z.forest) run.1.0.rest in
    let settings : next.settings ≡ s.settings = ap (λ (z : CoreState). z.settings) run.1.0.rest in
    subst (λ (z : SessionSettings). AreDue z [] new.forest) settings
    (run_due next new events (sound_then s next (Releases id) sound run.1.0) run.1.1 none
    (subst (λ (z : SessionSettings). AreDue z (work_nodes (applied_by_all events)) next.forest) (sym settings) (subst (λ (f : Forest). AreDue s.settings (work_nodes (applied_by_all events)) f) (sym forest) due)))

-- ---- what is reached stays so

abbrev pub AreReached : SessionSettings → Forest → Type 0
AreReached settings t = Each (IsReached settings.pieces settings.depth) (nodes t)

-- sound, with each root that looking ahead shows settled
pub record IsReachedState (s : CoreState) : Type 0 where
  pub sound : IsSoundState s
  pub reached : AreReached s.settings s.forest

reached_from : (s new : CoreState) → IsSoundState new → new.settings ≡ s.settings → AreReached s.settings new.forest → IsReachedState new
reached_from s new sound same reached = record { sound = sound; reached = subst (λ (z : SessionSettings). AreReached z new.forest) (sym same) reached }

pub event_reached : (s : CoreState) (e : Event) (new : CoreState) → begun (applied_by e) ≡ [] → Happens s e new → IsReachedState s → IsReachedState new
event_reached s (AsksLease worker) new none happens h =
    let forest : new.forest ≡ s.forest = ap (λ (z : CoreState). z.forest) happens ∙ after_forest s (lease_answer s worker) in
    let settings : new.settings ≡ s.settings = ap (λ (z : CoreState). z.settings) happens ∙ after_settings s (lease_answer s worker) in
    reached_from s new (sound_then s new (AsksLease worker) h.sound happens) settings (subst (AreReached s.settings) (sym forest) h.reached)
event_reached s (Finds id (records.Begin p)) new none happens h = absurd (cc none)
event_reached s (Finds id (records.Solve n p shown)) new none happens h =
    reached_from s new (sound_then s new (Finds id (records.Solve n p shown)) h.sound happens) (ap (λ (z : CoreState). z.settings) happens.rest)
    (subst (AreReached s.settings) (sym (solved_forest s new id n h.sound p shown happens))
    (reached_learnt s.settings.pieces s.settings.depth n (facts_shown shown) s.forest (solved_stay s new id n h.sound p shown happens) h.reached))
event_reached s (Finds id (records.Expand n)) new none happens h =
    reached_from s new (sound_then s new (Finds id (records.Expand n)) h.sound happens) (ap (λ (z : CoreState). z.settings) happens.rest)
    (subst (AreReached s.settings) (sym happens.grown.applied.1.1)
    (reached_expanded s.settings.pieces s.settings.depth n happens.grown.applied.0 s.forest (expanded_stay s new id n h.sound happens) h.reached))
event_reached s (BeginsRoot p) new none happens h = absurd (cc none)
event_reached s (Releases id) new none happens h =
    let forest : new.forest ≡ s.forest = ap (λ (z : CoreState). z.forest) happens.rest in
    reached_from s new (sound_then s new (Releases id) h.sound happens) (ap (λ (z : CoreState). z.settings) happens.rest) (subst (AreReached s.settings) (sym forest) h.reached)

-- ---- results that tell a value

abbrev pub TellsValue : BenchRecord → Type 0
TellsValue (records.Begin p) = ⊥
TellsValue (records.Solve n p shown) = is_some (known_value (facts_shown shown)) ≡ true
TellsValue (records.Expand n) = ⊥

-- what such results leave of the roots
pub record AreSettledBy (rs : List BenchRecord) (s new : CoreState) : Type 0 where
  pub sound : IsSoundState new
  pub fresh : Each IsSettledOrFresh (nodes new.forest)
  pub fewer : left new.forest + length rs ≡ left s.forest
  pub more : new.work ≡ s.work + length rs
  pub others : (m : ℕ) → has m (work_nodes rs) ≡ false → IsUnsettledRoot m s.forest → IsUnsettledRoot m new.forest
  pub settings : new.settings ≡ s.settings

neither : (a b : Bool) → a || b ≡ false → (a ≡ false) × (b ≡ false)
neither true b e = absurd (true≢false e)
neither false b e = (refl, e)

each_rest : (P Q : ℕ → Type 0) (n : ℕ) (ns : List ℕ) → has n ns ≡ false → ((m : ℕ) → (m ≡ n → ⊥) → P m → Q m) → Each P ns → Each Q ns
each_rest P Q n [] none f each = tt
each_rest P Q n (m ∷ ns) none f each =
    let both = neither (eqb n m) (has n ns) none in
    (f m (λ same. true≢false (sym (eq-eqb n m (sym same)) ∙ both.0)) each.0, each_rest P Q n ns both.1 f each.1)

-- one of them
module _ (s new : CoreState) (id n : ℕ) (p : Board) (shown : List Certificate) (sound : IsSoundState s) (happens : IsAfterResult s id (records.Solve n p shown) new)
    (tells : is_some (known_value (facts_shown shown)) ≡ true) (fresh : Each IsSettledOrFresh (nodes s.forest)) (root : IsUnsettledRoot n s.forest) where
  abbrev x : Node
  x = happens.grown.lawful.leaf

  settles : is_some (value_of (record { own = learn n (facts_shown shown) x.own; children = changed (learn n (facts_shown shown)) x.children })) ≡ true
  settles =
      let l = happens.grown.lawful in
      let number : x.own.number ≡ n = number_named n s.forest x l.there in
      let own_is : learn n (facts_shown shown) x.own ≡ record x.own { facts = joined x.own.facts (facts_shown shown) } = ap (λ b. cond b (record x.own { facts = joined x.own.facts (facts_shown shown) }) x.own) (eq-eqb x.own.number n number) in
      subst (λ (own : Own). is_some (value_of (record { own = own; children = changed (learn n (facts_shown shown)) x.children })) ≡ true) (sym own_is)
      (value_settles (facts_shown shown) x.own (changed (learn n (facts_shown shown)) x.children) tells)

  settled_by_one : IsSettledOne n (facts_shown shown) IsSettledOrFresh (λ y settled. inl settled) s.forest (with_facts n (facts_shown shown) s.forest)
  settled_by_one =
      let l = happens.grown.lawful in
      settled_one n (facts_shown shown) IsSettledOrFresh (λ y settled. inl settled) s.forest x (at_most_once n s.forest sound.1.numbered.numbered) root l.there settles fresh

  one_settled : IsSettledOne n (facts_shown shown) IsSettledOrFresh (λ y settled. inl settled) s.forest new.forest
  one_settled = subst (IsSettledOne n (facts_shown shown) IsSettledOrFresh (λ y settled. inl settled) s.forest) (sym (solved_forest s new id n sound p shown happens)) settled_by_one

pub run_settled : (s new : CoreState) (events : List Event) → IsSoundState s → IsRun s events new → Each TellsValue (applied_by_all events) → Each IsSettledOrFresh (nodes s.forest) → AreOnce (work_nodes (applied_by_all events))
    → Each (λ n. IsUnsettledRoot n s.forest) (work_nodes (applied_by_all events)) → AreSettledBy (applied_by_all events) s new
run_settled s new [] sound run tells fresh once roots =
    subst (AreSettledBy [] s) (sym run)
    (record { sound = sound; fresh = fresh; fewer = omega arith; more = omega arith; others = λ m none h. h; settings = refl })
run_settled s new (AsksLease worker ∷ events) sound run tells fresh once roots =
    let next = run.0 in
    let forest : next.forest ≡ s.forest = ap (λ (z : CoreState). z.forest) run.1.0 ∙ after_forest s (lease_answer s worker) in
    let settings : next.settings ≡ s.settings = ap (λ (z : CoreState). z.settings) run.1.0 ∙ after_settings s (lease_answer s worker) in
    let work : next.work ≡ s.work = ap (λ (z : CoreState). z.work) run.1.0 ∙ after_work s (lease_answer s worker) in
    let h = run_settled next new events (sound_then s next (AsksLease worker) sound run.1.0) run.1.1 tells (subst (λ (f : Forest). Each IsSettledOrFresh (nodes f)) (sym forest) fresh) once
    (subst (λ (f : Forest). Each (λ n. IsUnsettledRoot n f) (work_nodes (applied_by_all events))) (sym forest) roots) in
    record {
      sound = h.sound;
      fresh = h.fresh;
      fewer = h.fewer ∙ ap left forest;
      more = h.more ∙ ap (λ n. n + length (applied_by_all events)) work;
      others = λ m none u. h.others m none (subst (IsUnsettledRoot m) (sym forest) u);
      settings = h.settings ∙ settings;
    }
run_settled s new (Finds id (records.Begin p) ∷ events) sound run tells fresh once roots = absurd tells.0
run_settled s new (Finds id (records.Solve n p shown) ∷ events) sound run tells fresh once roots =
    let next = run.0 in
    let one = one_settled s next id n p shown sound run.1.0 tells.0 fresh roots.0 in
    let settings : next.settings ≡ s.settings = ap (λ (z : CoreState). z.settings) run.1.0.rest in
    let work : next.work ≡ s.work + 1 = ap (λ (z : CoreState). z.work) run.1.0.rest in
    let h = run_settled next new events (sound_then s next (Finds id (records.Solve n p shown)) sound run.1.0) run.1.1 tells.1 one.within once.1
    (each_rest (λ m. IsUnsettledRoot m s.forest) (λ m. IsUnsettledRoot m next.forest) n (work_nodes (applied_by_all events)) once.0 one.others roots.1) in
    let fewer = h.fewer in
    let first = one.fewer in
    let more = h.more in
    record {
      sound = h.sound;
      fresh = h.fresh;
      fewer = omega (arith, fewer, first);
      more = omega (arith, more, work);
      others = λ m none u.
          let both = neither (eqb m n) (has m (work_nodes (applied_by_all events))) none in
          h.others m both.1 (one.others m (λ same. true≢false (sym (eq-eqb m n same) ∙ both.0)) u);
      settings = h.settings ∙ settings;
    }
run_settled s new (Finds id (records.Expand n) ∷ events) sound run tells fresh once roots = absurd tells.0
run_settled s new (BeginsRoot p ∷ events) sound run tells fresh once roots = absurd tells.0
run_settled s new (Releases id ∷ events) sound run tells fresh once roots =
    let next = run.0 in
    let forest : next.forest ≡ s.forest = ap (λ (z : CoreState). z.forest) run.1.0.rest in
    let settings : next.settings ≡ s.settings = ap (λ (z : CoreState). z.settings) run.1.0.rest in
    let work : next.work ≡ s.work = ap (λ (z : CoreState). z.work) run.1.0.rest in
    let h = run_settled next new events (sound_then s next (Releases id) sound run.1.0) run.1.1 tells (subst (λ (f : Forest). Each IsSettledOrFresh (nodes f)) (sym forest) fresh) once
    (subst (λ (f : Forest). Each (λ n. IsUnsettledRoot n f) (work_nodes (applied_by_all events))) (sym forest) roots) in
    record {
      sound = h.sound;
      fresh = h.fresh;
      fewer = h.fewer ∙ ap left forest;
      more = h.more ∙ ap (λ n. n + length (applied_by_all events)) work;
      others = λ m none u. h.others m none (subst (IsUnsettledRoot m) (sym forest) u);
      settings = h.settings ∙ settings;
    }
