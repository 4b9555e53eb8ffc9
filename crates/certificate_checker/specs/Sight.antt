-- The positions after a position, as children in a tree.
use Rattle.std.specs.Prelude.{◌≡◌, ℕ, List, All, map}
use Rattle.draughts_board.specs.Board.{Board}
use Rattle.draughts_board.specs.Play.{successors_of}
use Rattle.proof_numbers.specs.Facts.{known}
use Rattle.proof_numbers.specs.Sight.{AreFactsAtSight}
use Rattle.proof_numbers.specs.declared.leaves.Child.{Child}

-- what is known of the child is what is known at sight, with tables of k pieces
abbrev pub IsAtSight : ℕ → Child → Type 0
IsAtSight k child = AreFactsAtSight k child.position (known child.facts)

-- the children are the successors in order, each with its facts at sight
pub record AreChildren (k : ℕ) (p : Board) (children : List Child) : Type 0 where
  pub positions : map (λ child. child.position) children ≡ successors_of p
  pub facts : All (IsAtSight k) children
