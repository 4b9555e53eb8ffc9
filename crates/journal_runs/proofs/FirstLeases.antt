-- What the next lease of a first pass leaves of its core, and what a refusal tells.
use Rattle.std.proofs.Common.{◌≡◌, ◌≤◌, ◌<◌, ◌+◌, ◌-◌, ℕ, suc, true, false, List, [], ◌∷◌, ◌++◌, length, map, refl, ap, sym, ◌∙◌, subst, ⊎_elim, arith, append_assoc, append-nil, length-append}
use Rattle.std.specs.Prelude.{◌⊎◌, Option, Some, None, Result, Ok, Err}
use Rattle.std.specs.List.{AllByRecursion as Each}
use Rattle.std.proofs.lemmas.List.{map-append}
use Rattle.proof_tree.specs.Forest.{nodes}
use Rattle.lease_table.specs.declared.leases.Lease.{Lease}
use Rattle.lease_table.specs.declared.leases.Row.{Row}
use Rattle.bench_core.specs.Answers.{RefusesLease, unkept}
use Rattle.bench_core.specs.declared.refusals.LeaseRefusal.{LeaseRefusal}
use Rattle.bench_core.specs.declared.refusals.LeaseRefusal.TheVariants as refusal
use Rattle.bench_core.specs.States.{CoreState, IsSoundState, lease_answer, with_lease}
use Rattle.bench_core.specs.Cores.{Core}
use Rattle.tree_manager.specs.declared.entries.Entry.{Entry}
use Rattle.tree_manager.specs.Lines.{is_failed}
use Rattle.tree_manager.specs.Sessions.{RefusesLeaseIn, SessionState}
use Rattle.journal_runs.specs.Ample.{IsSettledOrFresh, unsettled_roots}
use Rattle.journal_runs.specs.FirstPass.{AreAllLeased, HasRoomForEach, IsAllLeased, IsPassing, IsPassingWith, IsUnsettledRoot, LeasesNext}
use Rattle.journal_runs.proofs.FirstStates.{all_leased_done, all_leased_full, all_leased_none, all_leased_spent, passes_leased, rows_leased}

-- ---- one lease more

pub leased_next : (core new : Core) (leased : List Lease) (rest worker : ℕ) (lease : Lease) → IsPassingWith core leased (rest + 1) → lease_answer core.state worker ≡ Ok lease
    → new ≡ record core { state = with_lease core.state lease } → IsPassingWith new (leased ++ lease ∷ []) rest
leased_next core new leased rest worker lease h given is =
    let one : rest + 1 ≡ suc rest = omega arith in
    let passing : IsPassing core.state (suc rest) = subst (IsPassing core.state) one h.passing in
    subst (λ (x : Core). IsPassingWith x (leased ++ lease ∷ []) rest) (sym is)
    (record {
      passing = passes_leased core.state rest worker lease passing given;
      none_staged = h.none_staged;
      rows_are = rows_leased core.state rest worker lease passing given ∙ (ap (λ (rows : List Row). rows ++ unkept lease ∷ []) h.rows_are ∙ sym (map-append unkept leased (lease ∷ [])));
    })

-- ---- none is left

all_with : (core : Core) (leased : List Lease) (rest : ℕ) → IsPassingWith core leased rest → AreAllLeased core.state → IsAllLeased core leased
all_with core leased rest h all = record { sound = h.passing.sound; none_staged = h.none_staged; rows_are = h.rows_are; all = all }

pub all_given : (core : Core) (leased : List Lease) → IsPassingWith core leased 0 → IsAllLeased core leased
all_given core leased h = all_with core leased 0 h (all_leased_full core.state h.passing)

-- the answer is no want of memory, and no failure
abbrev TellsNone : LeaseRefusal → Type 0
TellsNone refusal.Failed = ⊥
TellsNone refusal.Done = Unit {0}
TellsNone (refusal.Spent records budget) = Unit {0}
TellsNone (refusal.NoLeaf live) = Unit {0}
TellsNone (refusal.Memory error) = ⊥

module _ (core : Core) (leased : List Lease) (rest worker : ℕ) (h : IsPassingWith core leased rest) where
  answered_none : (r : LeaseRefusal) → TellsNone r → RefusesLease (lease_answer core.state worker) r → IsAllLeased core leased
  answered_none refusal.Failed tells answer = absurd tells
  answered_none refusal.Done tells answer = all_with core leased rest h (all_leased_done core.state rest worker h.passing answer)
  answered_none (refusal.Spent records budget) tells answer = all_with core leased rest h (all_leased_spent core.state rest worker h.passing records budget answer)
  answered_none (refusal.NoLeaf live) tells answer = all_with core leased rest h (all_leased_none core.state rest worker h.passing live answer)
  answered_none (refusal.Memory error) tells answer = absurd tells

  failed_tells : (r : LeaseRefusal) → TellsNone r → r ≡ refusal.Failed → ⊥
  failed_tells r tells is = subst TellsNone is tells

  pub refused_none : (line : List Entry) (r : LeaseRefusal) → TellsNone r → RefusesLeaseIn line (lease_answer core.state worker) r → IsAllLeased core leased
  refused_none line r tells = ⊎_elim (λ failed. absurd (failed_tells r tells failed.1)) (λ free. answered_none r tells free.1)

-- ---- the beginning

pub passes_first : (core : Core) (lease most : ℕ) → HasRoomForEach core lease → IsSoundState core.state → most ≡ unsettled_roots core.state.forest → IsPassingWith core [] most
passes_first core lease most room sound most_is =
    let together = room.together in
    let limit = room.limit in
    let some : unsettled_roots core.state.forest ≤ 0 + most = omega (arith, most_is) in
    let lasts : most ≤ core.state.leases.limit = omega (arith, most_is, together, limit) in
    record {
      passing = record {
        sound = sound;
        fresh = room.fresh;
        rows = subst (Each (λ (row : Row). IsUnsettledRoot row.lease.node core.state.forest)) (sym room.unleased) tt;
        enough = room.enough;
        few = subst (λ (rows : List Row). unsettled_roots core.state.forest ≤ length rows + most) (sym room.unleased) some;
        lives = subst (Each (λ (row : Row). core.state.given + most < row.lease.id + core.state.leases.limit)) (sym room.unleased) tt;
        lasts = lasts;
      };
      none_staged = room.none_staged;
      rows_are = room.unleased;
    }

-- ---- one lease after another

pub next_refused : {D : Type 0} (old new : SessionState D) (worker rest : ℕ) (leased : List Lease) (r q : LeaseRefusal) → r ≡ q → TellsNone q → new ≡ old → RefusesLeaseIn old.line (lease_answer old.core.state worker) r
    → IsPassingWith old.core leased (rest + 1) → IsAllLeased new.core leased
next_refused old new worker rest leased r q is tells same refused h =
    subst (λ (s : SessionState _). IsAllLeased s.core leased) (sym same) (refused_none old.core leased (rest + 1) worker h old.line r (subst TellsNone (sym is) tells) refused)

pub passes_none : (core : Core) (leased items : List Lease) (rest : ℕ) → items ≡ [] → IsPassingWith core leased rest → IsPassingWith core (leased ++ items) (rest - length items)
passes_none core leased items rest none h =
    let same : leased ++ items ≡ leased = ap (λ (ls : List Lease). leased ++ ls) none ∙ append-nil leased in
    let as_before : rest - length items ≡ rest = ap (λ (ls : List Lease). rest - length ls) none ∙ omega arith in
    subst (λ (ls : List Lease). IsPassingWith core ls (rest - length items)) (sym same) (subst (IsPassingWith core leased) (sym as_before) h)

pub passes_one : (core new : Core) (leased items more : List Lease) (rest most : ℕ) (root : Lease) (next : Option Lease) → IsPassingWith core (leased ++ items) (rest - length items) → length items < most → most ≤ rest
    → ((left : ℕ) → IsPassingWith core (leased ++ items) (left + 1) → LeasesNext new (leased ++ items) left next) → next ≡ Some root → more ≡ items ++ root ∷ []
    → IsPassingWith new (leased ++ more) (rest - length more)
passes_one core new leased items more rest most root next h below within then is more_is =
    let one = length-append items (root ∷ []) in
    let count : length more ≡ length items + 1 = ap length more_is ∙ one in
    let left_is : rest - length items ≡ (rest - length more) + 1 = omega (arith, count, below, within) in
    let leases : leased ++ more ≡ (leased ++ items) ++ root ∷ [] = ap (λ (ls : List Lease). leased ++ ls) more_is ∙ sym (append_assoc leased items (root ∷ [])) in
    subst (λ (ls : List Lease). IsPassingWith new ls (rest - length more)) (sym leases)
    (subst (LeasesNext new (leased ++ items) (rest - length more)) is (then (rest - length more) (subst (IsPassingWith core (leased ++ items)) left_is h)))

pub all_when_none : (core new : Core) (leased items : List Lease) (rest most : ℕ) (next : Option Lease) → IsPassingWith core (leased ++ items) (rest - length items) → 1 ≤ most → most ≤ rest
    → ((left : ℕ) → IsPassingWith core (leased ++ items) (left + 1) → LeasesNext new (leased ++ items) left next) → next ≡ None → items ≡ [] → IsAllLeased new leased
all_when_none core new leased items rest most next h some within then is none =
    let count : length items ≡ 0 = ap length none in
    let left_is : rest - length items ≡ (rest - 1) + 1 = omega (arith, count, some, within) in
    let same : leased ++ items ≡ leased = ap (λ (ls : List Lease). leased ++ ls) none ∙ append-nil leased in
    subst (IsAllLeased new) same (subst (LeasesNext new (leased ++ items) (rest - 1)) is (then (rest - 1) (subst (IsPassingWith core (leased ++ items)) left_is h)))
