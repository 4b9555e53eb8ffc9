-- What stands in the tree of a root.
use Rattle.std.specs.Prelude.{◌≡◌, ℕ, ◌+◌, List, Bool, true, false, ◌&&◌, not, map, if◌then◌else◌}
use Rattle.draughts_board.specs.declared.pieces.Side.{Side}
use Rattle.proof_numbers.specs.Numbers.{is_resolved}
use Rattle.proof_tree.specs.declared.rows.Mark.{Mark}
use Rattle.proof_tree.specs.declared.rows.Mark.TheVariants.{Unexpanded, Expanded, Repeats}
use Rattle.proof_tree.specs.Forest.{Forest, no_node, node, Node, goal_of, node_numbers, numbers, numbers_at, size}
use Rattle.certificate_joiner.specs.Strategy.{named}
use Rattle.tree_census.specs.declared.counting.Census.{Census}
use Rattle.tree_census.specs.declared.counting.Stop.{Stop}

-- the tree of a node alone
abbrev pub tree_of : Node → Forest
tree_of x = node x.own x.children no_node

abbrev pub own_leaf : Mark → ℕ
own_leaf Unexpanded = 1
own_leaf Expanded = 0
own_leaf Repeats = 0

-- how many leaves of these trees are open for the goal: unexpanded, and unresolved with each node above
-- them
abbrev pub open_leaves : Side → Forest → ℕ
open_leaves goal no_node = 0
open_leaves goal (node own children others) =
    (if is_resolved (numbers_at goal own (numbers goal children)) then 0
    else own_leaf own.mark + open_leaves goal children)
    + open_leaves goal others

-- of a node's tree, for this goal
abbrev pub tree_census : Side → Node → Census
tree_census goal x =
    record { nodes = size (tree_of x); open_leaves = open_leaves goal (tree_of x) }

-- of a root's tree, for its goal
abbrev pub IsCensus : Census → Node → Type 0
IsCensus census root = census ≡ tree_census (goal_of root) root

-- ---- a walk

-- the nodes, where they are open or not
abbrev pub stops : Bool → List Node → List Stop
stops is_open xs = map (λ x. record { node = x.own.number; is_open = is_open }) xs

-- the node is open, and each above it
abbrev pub is_open_at : Side → Forest → Stop → Bool
is_open_at goal roots stop =
    stop.is_open && not (is_resolved (node_numbers goal (named roots stop.node)))
