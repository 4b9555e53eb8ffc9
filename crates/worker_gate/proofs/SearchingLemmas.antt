-- What can be searched, and that it stays so as the line grows. Crates above cite these too.
use Rattle.std.proofs.Common.{◌≡◌, ◌≤◌, ◌++◌, ◌∷◌, [], ℕ, List, refl, ap, sym, ◌∙◌, subst}
use Rattle.std.specs.Prelude.{false, All, Option, Some, Ok, Err}
use Rattle.std.specs.Option.{option_map_or}
use Rattle.std.proofs.lemmas.List.Elements.{All-weaker, All-push}
use Rattle.bench_disk.specs.declared.disk.Disk.{Ghosts}
use Rattle.draughts_board.specs.Board.{Board}
use Rattle.draughts_board.specs.Draughts.{draughts}
use Rattle.draughts_board.specs.Game.{is_at_sight}
use Rattle.certificate_checker.specs.declared.outcomes.TheConstants.{MOST_DEPTH}
use Rattle.certificate_checker.specs.declared.outcomes.Outcome.{Outcome}
use Rattle.certificate_checker.specs.declared.outcomes.Outcome.TheVariants.{Solved, Exhausted}
use Rattle.strategy_certificate.specs.declared.certificates.Certificate.{Certificate}
use Rattle.certificate_checker.specs.Answers.{IsFinding}
use Rattle.leaf_search.specs.Search.{IsOutcome}
use Rattle.lease_table.specs.declared.leases.Lease.{Lease}
use Rattle.bench_core.specs.declared.refusals.LeaseRefusal.TheVariants as lease
use Rattle.bench_core.specs.declared.settings.Settings.{Settings}
use Rattle.bench_core.specs.States.{CoreState, lease_answer}
use Rattle.bench_core.specs.Cores.{IsOutcomeOf}
use Rattle.tree_manager.specs.declared.entries.Attachment.{Attachment}
use Rattle.tree_manager.specs.declared.entries.Entry.{Entry}
use Rattle.tree_manager.specs.Lines.{attachment_of}
use Rattle.tree_manager.specs.Sessions.{SessionState, IsAttachedTo}
use Rattle.tree_manager.specs.Turns.{GrowsByTurns, AsksForSearch, Leases}
use Rattle.tree_manager.proofs.CoreLemmas.{replayed_attachment}
use Rattle.tree_manager.proofs.PickLemmas.{lease_settings}
use Rattle.tree_manager.proofs.SearchLemmas.{pieces_stay, depth_stays, asks_for_search}
use Rattle.tree_manager.proofs.TurnLemmas.{grows_same}
use Rattle.worker_gate.specs.declared.worker.Ended.TheVariants.{Spent, Failed}
use Rattle.worker_gate.specs.Work.{CanSearch, CanSearchLeaf, ShowsEnd}

-- the outcome of a search of the lease's leaf is of the lease
pub outcome_is : (k : ℕ) (given : Lease) (outcome : Outcome) → k ≡ given.pieces → IsOutcome k given.goal given.depth given.position outcome → IsOutcomeOf given outcome
outcome_is k given (Solved found) same h = subst (λ n. IsOutcome n given.goal given.depth given.position (Solved found)) same h
outcome_is k given (Exhausted e) same h = (h.position, (h.goal, (h.depth, h.pieces ∙ same)))

-- what was found is of one position
pub found_here : (given : Lease) (outcome : Outcome) (found : List Certificate) → outcome ≡ Solved found → IsOutcomeOf given outcome → (p : Board) × All (λ c. c.position ≡ p) found
found_here given outcome found is h =
    let answer = subst (IsOutcomeOf given) is h in
    (given.position, All-weaker (IsFinding given.pieces given.position) (λ c. c.position ≡ given.position) (λ c finding. finding.position) found answer.each)

-- a lease that a state answers can be searched with the state's tables
pub leased_can_be : (k : ℕ) (s : CoreState) (worker : ℕ) (given : Lease) → k ≡ s.settings.pieces → s.settings.depth ≤ MOST_DEPTH → lease_answer s worker ≡ Ok given
    → is_at_sight draughts s.settings.pieces given.position ≡ false → CanSearchLeaf k given
leased_can_be k s worker given tables shallow answered sight =
    let settings = lease_settings s worker given answered in
    record {
      tables = tables ∙ sym settings.0;
      depth = subst (λ n. n ≤ MOST_DEPTH) (sym settings.1) shallow;
      undecided = subst (λ n. is_at_sight draughts n given.position ≡ false) (sym tables) sight;
    }

pub leaf_can_be : (k : ℕ) (front : List Entry) (given : Lease) → CanSearch k front → AsksForSearch front given → CanSearchLeaf k given
leaf_can_be k front given can asks =
    let same : k ≡ given.pieces = can.tables ∙ sym asks.pieces in
    record {
      tables = same;
      depth = subst (λ n. n ≤ MOST_DEPTH) (sym asks.depth) can.depth;
      undecided = subst (λ n. is_at_sight draughts n given.position ≡ false) (sym same) asks.undecided;
    }

pub can_search_on : (k : ℕ) (old new : List Entry) → CanSearch k old → GrowsByTurns old new → CanSearch k new
can_search_on k old new can grows = record {
  tables = can.tables ∙ sym (pieces_stay old new grows);
  depth = subst (λ n. n ≤ MOST_DEPTH) (sym (depth_stays old new grows)) can.depth;
}

-- the settings that a session was attached with are those of its line
pub can_search_attached : {D : Type 0} (g : Ghosts D) (s : Settings) (disk : D) (new : SessionState D) (k : ℕ) (front : List Entry)
    → IsAttachedTo g s disk new → s.pieces ≡ k → front ≡ new.line → CanSearch k front
can_search_attached g s disk new k front begins pieces same =
    let attached : attachment_of front ≡ Some begins.attachment = ap attachment_of (same ∙ begins.line) ∙ replayed_attachment begins.replayed begins.attachment in
    let first : (of : Attachment → ℕ) → option_map_or of (attachment_of front) 0 ≡ of begins.attachment = λ of. ap (λ (o : Option Attachment). option_map_or of o 0) attached in
    record {
      tables = sym pieces ∙ sym (first (λ a. a.pieces) ∙ ap (λ (a : Attachment). a.pieces) begins.is);
      depth = subst (λ n. n ≤ MOST_DEPTH) (sym (first (λ a. a.depth) ∙ ap (λ (a : Attachment). a.depth) begins.is)) s.shallow;
    }

-- ---- what a turn leaves a worker with

asks_on : (old new : List Entry) (given : Lease) → GrowsByTurns old new → AsksForSearch old given → AsksForSearch new given
asks_on old new given grows asks = record {
  pieces = asks.pieces ∙ sym (pieces_stay old new grows);
  depth = asks.depth ∙ sym (depth_stays old new grows);
  undecided = asks.undecided;
}

-- leases ask for their searches by the line as it goes on, too
pub all_ask_on : (old new : List Entry) (given : List Lease) → GrowsByTurns old new → All (AsksForSearch old) given → All (AsksForSearch new) given
all_ask_on old new given grows all = All-weaker (AsksForSearch old) (AsksForSearch new) (λ lease asks. asks_on old new lease grows asks) given all

-- .. and so does one that is leased in the last step
pub one_more_asks : (old new : List Entry) (before after : List Lease) (given : Lease) → GrowsByTurns old new → All (AsksForSearch old) before → AsksForSearch new given → after ≡ before ++ given ∷ [] → All (AsksForSearch new) after
one_more_asks old new before after given grows all asks is = subst (λ leases. All (AsksForSearch new) leases) (sym is) (All-push (AsksForSearch new) before given (all_ask_on old new before grows all) asks)

pub leased_asks : (old new : List Entry) (s : CoreState) (worker : ℕ) (given : Lease) → GrowsByTurns old new → Leases old new worker (Ok given) → lease_answer s worker ≡ Ok given → is_at_sight draughts s.settings.pieces given.position ≡ false → AsksForSearch new given
leased_asks old new s worker given grows leases answered sight = asks_on old new given grows (asks_for_search old old s worker given (grows_same old old refl) leases.1 answered sight)

pub leaves_can_be : (k : ℕ) (front : List Entry) (given : List Lease) → CanSearch k front → All (AsksForSearch front) given → All (CanSearchLeaf k) given
leaves_can_be k front given can all = All-weaker (AsksForSearch front) (CanSearchLeaf k) (λ lease asks. leaf_can_be k front lease can asks) given all

-- what a refusal to lease shows of the end of a worker
pub spent_shown : (found new : List Entry) (worker records budget : ℕ) → Leases found new worker (Err (lease.Spent records budget)) → ShowsEnd Spent new
spent_shown found new worker records budget leases = (worker, records, budget, leases.1)

pub failed_shown : (found new : List Entry) (worker : ℕ) → Leases found new worker (Err lease.Failed) → ShowsEnd Failed new
failed_shown found new worker leases = leases.1
