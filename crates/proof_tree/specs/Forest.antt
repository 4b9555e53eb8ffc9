-- A forest of positions as a recursive value, and the numbers of its nodes.
use Rattle.std.specs.Prelude.{ℕ, ◌+◌, Bool, true, false, ◌&&◌, List, [], ◌∷◌, map, Option, Some, None, if◌then◌else◌, ◌==◌}
use Rattle.draughts_board.specs.Board.{Board, other, same_side}
use Rattle.draughts_board.specs.declared.pieces.Side.{Side}
use Rattle.draughts_board.specs.declared.pieces.Side.TheVariants.{Black, White}
use Rattle.draughts_board.specs.declared.pieces.Value.{Value}
use Rattle.draughts_board.specs.declared.pieces.Value.TheVariants.{BlackWins, WhiteWins, Draw}
use Rattle.proof_numbers.specs.declared.numbers.Numbers.{Numbers}
use Rattle.proof_numbers.specs.Known.{Known, knows_win, knows_hold}
use Rattle.proof_numbers.specs.Numbers.{least_of, total_of, proved, refuted, unknown, mobility, is_zero, is_resolved}
use Rattle.proof_tree.specs.declared.rows.Mark.{Mark}
use Rattle.proof_tree.specs.declared.rows.Mark.TheVariants.{Unexpanded, Expanded, Repeats}

-- what a node has of its own
pub record Own : Type 0 where
  pub number : ℕ
  pub position : Board
  pub facts : Known
  pub mark : Mark

-- A list of nodes: none, or a first one, by what it has of its own and the list of its children,
-- and the others.
pub data Forest : Type 0 where
  no_node : Forest
  node : Own → Forest → Forest → Forest

-- a node with its children
pub record Node : Type 0 where
  pub own : Own
  pub children : Forest

-- the nodes of the list, without those below them
abbrev pub nodes : Forest → List Node
nodes no_node = []
nodes (node own children others) = record { own = own; children = children } ∷ nodes others

-- the list of these nodes
abbrev pub forest : List Node → Forest
forest [] = no_node
forest (x ∷ xs) = node x.own x.children (forest xs)

-- how many nodes there are, those below others too
abbrev pub size : Forest → ℕ
size no_node = 0
size (node own children others) = 1 + size children + size others

-- the first where it is some, else the second
abbrev pub or_else : {A : Type 0} → Option A → Option A → Option A
or_else None b = b
or_else (Some x) b = Some x

-- the node with this number, wherever it stands
abbrev pub node_at : ℕ → Forest → Option Node
node_at n no_node = None
node_at n (node own children others) =
    (if own.number == n then Some (record { own = own; children = children })
    else or_else (node_at n children) (node_at n others))

-- ---- numbers

-- Of a position by the numbers after each move: where the goal moves it needs one of them, and its
-- refutation all of them; elsewhere the other way round.
abbrev pub folded : Bool → List Numbers → Numbers
folded true below =
    record {
      proof = least_of (map (λ x. x.proof) below);
      disproof = total_of (map (λ x. x.disproof) below);
    }
folded false below =
    record {
      proof = total_of (map (λ x. x.proof) below);
      disproof = least_of (map (λ x. x.disproof) below);
    }

-- Of a node that is not decided by its facts: a node that repeats is no way to a win; an unexpanded
-- one counts by its mobility, an expanded one by its children's numbers.
abbrev pub numbers_by_mark : Side → Mark → Board → List Numbers → Numbers
numbers_by_mark goal Repeats p below = refuted
numbers_by_mark goal Unexpanded p below = unknown goal p.to_move (mobility p)
numbers_by_mark goal Expanded p below = folded (same_side goal p.to_move) below

-- Of a node, by the numbers of its children. The first case that fits counts: its own facts have
-- the goal's win; they have the other side's hold; its mark says.
abbrev pub numbers_at : Side → Own → List Numbers → Numbers
numbers_at goal own below =
    (if knows_win goal own.facts then proved
    else (if knows_hold (other goal) own.facts then refuted
    else numbers_by_mark goal own.mark own.position below))

-- the numbers of each node of a list
abbrev pub numbers : Side → Forest → List Numbers
numbers goal no_node = []
numbers goal (node own children others) =
    numbers_at goal own (numbers goal children) ∷ numbers goal others

-- the numbers of one node
abbrev pub node_numbers : Side → Node → Numbers
node_numbers goal x = numbers_at goal x.own (numbers goal x.children)

-- ---- goal and value of a root

-- by its numbers for Black: Black while it is unresolved for Black, else White
abbrev pub goal_by : Numbers → Side
goal_by black = (if is_resolved black then White else Black)

-- by its numbers for Black and for White
abbrev pub value_by : Numbers → Numbers → Option Value
value_by black white =
    (if is_zero black.proof then Some BlackWins
    else (if is_zero white.proof then Some WhiteWins
    else (if is_zero black.disproof && is_zero white.disproof then Some Draw
    else None)))

-- the side whose win is sought at a root
abbrev pub goal_of : Node → Side
goal_of root = goal_by (node_numbers Black root)

-- the value of a root; none while it is unsettled
abbrev pub value_of : Node → Option Value
value_of root = value_by (node_numbers Black root) (node_numbers White root)
