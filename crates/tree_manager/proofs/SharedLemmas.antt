-- What a turn adds to the front of its pass.
use Rattle.std.proofs.Common.{◌≡◌, ℕ, List, refl, sym, subst}
use Rattle.std.specs.Prelude.{Result, Err}
use Rattle.std.specs.declared.alloc.AllocError.{AllocError}
use Rattle.certificate_checker.specs.declared.outcomes.Outcome.{Outcome}
use Rattle.lease_table.specs.declared.leases.Lease.{Lease}
use Rattle.tree_manager.specs.declared.entries.Entry.{Entry}
use Rattle.tree_manager.specs.declared.refusals.StageRefusal.{StageRefusal}
use Rattle.tree_manager.specs.declared.refusals.StageRefusal.TheVariants as stage
use Rattle.tree_manager.specs.Turns.{GrowsByTurns, InOneTurn, StagesNumbered}
use Rattle.tree_manager.proofs.TurnLemmas.{grows_same, grows_then}

-- the pass enters, the session goes on, and the pass leaves with its line
pub grows_turn : (old entered found left new : List Entry) → GrowsByTurns old entered → entered ≡ found → GrowsByTurns found left → new ≡ left → GrowsByTurns old new
grows_turn old entered found left new entering whole going leaving =
    subst (λ line. GrowsByTurns old line) (sym leaving) (grows_then old found left (subst (λ line. GrowsByTurns old line) whole entering) going)

-- a result for which there is no memory takes no turn
pub stages_nothing : (line : List Entry) (given : Lease) (outcome : Outcome) (error : AllocError) (answer : Result ℕ StageRefusal) → answer ≡ Err (stage.Memory error) → InOneTurn line line (λ found new. StagesNumbered found new given outcome answer)
stages_nothing line given outcome error answer is =
    subst (λ a. InOneTurn line line (λ found new. StagesNumbered found new given outcome a)) (sym is)
    (record { found = line; grows = grows_same line line refl; goes_on = grows_same line line refl; does = refl })
