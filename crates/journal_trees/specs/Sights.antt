-- What is shown of a node of a tree.
use Rattle.std.specs.Prelude.{ℕ, ◌==◌, Bool, false, List, Option, Some, None}
use Rattle.draughts_board.specs.Board.{Board}
use Rattle.draughts_board.specs.Play.{first_to, legal_paths}
use Rattle.draughts_board.specs.declared.pieces.Side.TheVariants.{Black, White}
use Rattle.proof_numbers.specs.Facts.{known}
use Rattle.proof_numbers.specs.Known.{Known}
use Rattle.proof_numbers.specs.declared.numbers.Numbers.{Numbers}
use Rattle.certificate_joiner.specs.Strategy.{named}
use Rattle.proof_tree.specs.Forest.{Forest, Node, node_numbers}
use Rattle.proof_tree.specs.declared.rows.Mark.{Mark}
use Rattle.journal_trees.specs.declared.nodes.ShownNode.{ShownNode}
use Rattle.journal_trees.specs.declared.nodes.Spot.{Spot}

-- how deep it lies, its number, the move that leads there, and what the tree has of it
pub record Sight : Type 0 where
  pub depth : ℕ
  pub number : ℕ
  pub path : Option (List ℕ)
  pub position : Board
  pub mark : Mark
  pub facts : Known
  pub black : Numbers
  pub white : Numbers
  pub is_next : Bool

abbrev pub sight_of : ShownNode → Sight
sight_of node = record {
  depth = node.depth;
  number = node.number;
  path = node.path;
  position = node.position;
  mark = node.mark;
  facts = known node.facts;
  black = node.black;
  white = node.white;
  is_next = node.is_next;
}

-- the first move from the position above that leads there; none at a root
abbrev pub path_to : Option Board → Board → Option (List ℕ)
path_to None p = None
path_to (Some above) p = first_to above p (legal_paths above)

-- the node is the one that would be worked on next
abbrev pub is_picked : Option ℕ → ℕ → Bool
is_picked None n = false
is_picked (Some m) n = m == n

-- a node at this depth, below this position
unfoldable pub sight : Option ℕ → ℕ → Option Board → Node → Sight
sight next depth above x = record {
  depth = depth;
  number = x.own.number;
  path = path_to above x.own.position;
  position = x.own.position;
  mark = x.own.mark;
  facts = x.own.facts;
  black = node_numbers Black x;
  white = node_numbers White x;
  is_next = is_picked next x.own.number;
}

-- the node of a forest that lies on this spot
abbrev pub spot_sight : Option ℕ → Forest → Spot → Sight
spot_sight next roots spot = sight next spot.depth spot.above (named roots spot.node)
