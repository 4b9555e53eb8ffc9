-- What work on a session needs, and what it comes to.
use Rattle.std.specs.Prelude.{◌≡◌, ◌≤◌, ℕ, Bool, false, List, is_some, Err}
use Rattle.certificate_checker.specs.declared.outcomes.TheConstants.{MOST_DEPTH}
use Rattle.draughts_board.specs.Draughts.{draughts}
use Rattle.draughts_board.specs.Game.{is_at_sight}
use Rattle.certificate_checker.specs.declared.outcomes.Outcome.{Outcome}
use Rattle.certificate_checker.specs.declared.outcomes.Outcome.TheVariants.{Solved, Exhausted}
use Rattle.certificate_checker.specs.Told.{facts_shown}
use Rattle.proof_numbers.specs.Known.{known_value}
use Rattle.lease_table.specs.declared.leases.Lease.{Lease}
use Rattle.bench_core.specs.declared.refusals.LeaseRefusal.TheVariants as lease
use Rattle.tree_manager.specs.declared.entries.Entry.{Entry}
use Rattle.tree_manager.specs.Lines.{session_pieces, session_depth, EndsBroken}
use Rattle.tree_manager.specs.Turns.{AnswersWorker}
use Rattle.worker_gate.specs.declared.worker.Ended.{Ended}
use Rattle.worker_gate.specs.declared.worker.Ended.TheVariants.{Done, Spent, Failed, Memory}

-- Leaves of the line's session can be searched with tables of this number of pieces: these are its tables,
-- and it searches no deeper than may be.
pub record CanSearch (pieces : ℕ) (front : List Entry) : Type 0 where
  pub tables : pieces ≡ session_pieces front
  pub depth : session_depth front ≤ MOST_DEPTH

-- .. and so this lease's leaf, which is not decided at sight
pub record CanSearchLeaf (pieces : ℕ) (given : Lease) : Type 0 where
  pub tables : pieces ≡ given.pieces
  pub depth : given.depth ≤ MOST_DEPTH
  pub undecided : is_at_sight draughts pieces given.position ≡ false

-- the certificates that were found tell the value of their position
abbrev pub is_value_told : Outcome → Bool
is_value_told (Solved found) = is_some (known_value (facts_shown found))
is_value_told (Exhausted e) = false

-- What the front of a worker's pass shows of its end: in the state of the front a worker is answered
-- that every root is settled, or that the budget is spent; or the front ends with a fault of the
-- disk. Of want of memory it shows nothing.
abbrev pub ShowsEnd : Ended → List Entry → Type 0
ShowsEnd Done front = (worker : ℕ) × AnswersWorker worker (Err lease.Done) front
ShowsEnd Spent front =
    (worker : ℕ) × (records : ℕ) × (budget : ℕ)
    × AnswersWorker worker (Err (lease.Spent records budget)) front
ShowsEnd Failed front = EndsBroken front
ShowsEnd Memory front = Unit {0}
