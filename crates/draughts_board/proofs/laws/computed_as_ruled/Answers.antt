use Rattle.draughts_board.proofs.Legal.{legal_paths_are_legal}
use Rattle.draughts_board.proofs.Successors.{successors_are, successor-of_path, path-to_successor, is_lawful-true, lawful-from_test}
use Rattle.draughts_board.proofs.laws.computed_as_ruled.Goals as goal
use Rattle.std.proofs.Common.{subst}
use Rattle.std.specs.Prelude.{Contains}
use Rattle.draughts_board.specs.Play.{successors_of}

pub returns : goal.returns
returns c = record {
  paths = legal_paths_are_legal;
  successors = successors_are;
  reached = λ p q lawful. (path-to_successor p q lawful, λ h. subst (Contains (successors_of p)) h.1.1 (successor-of_path p h.0 lawful h.1.0));
  pieces = λ p. (lawful-from_test p, is_lawful-true p);
}
