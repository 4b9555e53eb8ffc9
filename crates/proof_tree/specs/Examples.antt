-- Worked examples, one a field, on the start of a game.
use Rattle.std.specs.Prelude.{◌≡◌, false, List, [], ◌∷◌, map, Some, refl}
use Rattle.std.specs.Option.{option_map}
use Rattle.draughts_board.specs.Board.{Board, start_board}
use Rattle.draughts_board.specs.Rules.{after}
use Rattle.draughts_board.specs.Play.{successors_of}
use Rattle.draughts_board.specs.declared.pieces.Side.TheVariants.{Black, White}
use Rattle.proof_numbers.specs.Facts.{no_facts}
use Rattle.proof_numbers.specs.Known.{nothing_known}
use Rattle.proof_numbers.specs.Numbers.{mobility}
use Rattle.proof_numbers.specs.declared.leaves.Child.{Child}
use Rattle.proof_numbers.specs.declared.numbers.Number.TheVariants.{Finite}
use Rattle.proof_tree.specs.Forest.{Forest, no_node, node_at, node_numbers, numbers, size}
use Rattle.proof_tree.specs.Changes.{with_root, with_children}
use Rattle.proof_tree.specs.Picking.{pick}

-- the successors, of which nothing is known
abbrev pub children_of : Board → List Child
children_of p =
    map (λ q. record { position = q; facts = no_facts; moves = mobility q; counted = refl })
    (successors_of p)

-- the start, expanded
abbrev pub once : Forest
once = with_children 0 (children_of start_board) (with_root start_board nothing_known no_node)

-- and the position after 9-13 expanded too, which is node 1
abbrev pub twice : Forest
twice = with_children 1 (children_of (after start_board (9 ∷ 13 ∷ []))) once

pub record WorkedTrees : Type 0 where
  -- Black has seven moves, and so has White after each of them. The node after 9-13 comes first.
  pub many : size once ≡ 8
  pub black : numbers Black once ≡ record { proof = Finite 7; disproof = Finite 7 } ∷ []
  pub white : numbers White once ≡ record { proof = Finite 7; disproof = Finite 7 } ∷ []
  pub first : pick (λ n. false) once ≡ Some (1, Black)
  -- After it is expanded it takes seven leaves to show there that Black wins, and one to refute it:
  -- node 9 after 22-17, where Black has the one reply 13x22.
  pub more : size twice ≡ 15
  pub black_there : option_map (node_numbers Black) (node_at 1 twice)
      ≡ Some (record { proof = Finite 7; disproof = Finite 1 })
  pub black_after : numbers Black twice ≡ record { proof = Finite 7; disproof = Finite 7 } ∷ []
  pub second : pick (λ n. false) twice ≡ Some (9, Black)
