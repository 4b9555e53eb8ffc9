-- Short names for what a node has.
use Rattle.std.proofs.Common.{ℕ, List, Bool}
use Rattle.draughts_board.specs.Board.{Board}
use Rattle.draughts_board.specs.declared.pieces.Side.{Side}
use Rattle.proof_numbers.specs.Known.{Known}
use Rattle.proof_numbers.specs.Numbers.{is_zero}
use Rattle.proof_tree.specs.declared.rows.Mark.{Mark}
use Rattle.proof_tree.specs.Forest.{Node, nodes, node_numbers}

abbrev pub number_of : Node → ℕ
number_of x = x.own.number

abbrev pub position_of : Node → Board
position_of x = x.own.position

abbrev pub facts_of : Node → Known
facts_of x = x.own.facts

abbrev pub mark_of : Node → Mark
mark_of x = x.own.mark

abbrev pub children_of : Node → List Node
children_of x = nodes x.children

abbrev pub is_proved : Side → Node → Bool
is_proved goal x = is_zero (node_numbers goal x).proof

abbrev pub is_disproved : Side → Node → Bool
is_disproved goal x = is_zero (node_numbers goal x).disproof
