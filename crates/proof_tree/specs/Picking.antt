-- The next leaf to work on.
use Rattle.std.specs.Prelude.{◌≡◌, ℕ, ltb, Bool, true, false, List, [], ◌∷◌, Option, Some, None, if◌then◌else◌}
use Rattle.draughts_board.specs.Board.{same_side}
use Rattle.draughts_board.specs.declared.pieces.Side.{Side}
use Rattle.proof_numbers.specs.declared.numbers.Number.{Number}
use Rattle.proof_numbers.specs.declared.numbers.Number.TheVariants.{Finite, Infinite}
use Rattle.proof_numbers.specs.declared.numbers.Numbers.{Numbers}
use Rattle.proof_numbers.specs.Numbers.{is_resolved}
use Rattle.draughts_board.specs.declared.pieces.Value.{Value}
use Rattle.proof_tree.specs.declared.rows.Mark.{Mark}
use Rattle.proof_tree.specs.declared.rows.Mark.TheVariants.{Unexpanded, Expanded, Repeats}
use Rattle.proof_tree.specs.Forest.{Own, Forest, no_node, node, Node, nodes, numbers, numbers_at, node_numbers, goal_of, value_of, or_else}

abbrev pub is_below : Number → Number → Bool
is_below Infinite b = false
is_below (Finite m) Infinite = true
is_below (Finite m) (Finite n) = ltb m n

-- an open leaf for a goal
pub record IsOpenLeaf (goal : Side) (taken : ℕ → Bool) (x : Node) : Type 0 where
  pub unexpanded : x.own.mark ≡ Unexpanded
  pub unresolved : is_resolved (node_numbers goal x) ≡ false
  pub free : taken x.own.number ≡ false

-- a way down: how much there is to show on it, and the leaf at its end
pub record Way : Type 0 where
  pub left : Number
  pub leaf : ℕ

-- the better of two ways, of which the first stands first
abbrev pub better : Option Way → Option Way → Option Way
better None b = b
better (Some a) None = Some a
better (Some a) (Some b) = (if is_below b.left a.left then Some b else Some a)

-- what counts in the choice among children: proof numbers where the goal moves, disproof numbers
-- elsewhere
abbrev pub left_to_show : Bool → Numbers → Number
left_to_show true x = x.proof
left_to_show false x = x.disproof

abbrev pub leaf_of : Option Way → Option ℕ
leaf_of None = None
leaf_of (Some way) = Some way.leaf

abbrev pub way_of : Number → Option ℕ → Option Way
way_of left None = None
way_of left (Some leaf) = Some (record { left = left; leaf = leaf })

-- by the mark: an unexpanded node is the leaf, unless it is taken; of another the best way down
-- counts
abbrev pub open_by : Mark → Bool → ℕ → Option Way → Option ℕ
open_by Unexpanded true n best = None
open_by Unexpanded false n best = Some n
open_by Expanded taken n best = leaf_of best
open_by Repeats taken n best = None

-- The leaf at which the walk from a node ends; none exactly where the node is not open.
abbrev pub leaf_at : (ℕ → Bool) → Own → Numbers → Option Way → Option ℕ
leaf_at taken own its best =
    (if is_resolved its then None else open_by own.mark (taken own.number) own.number best)

-- The best way down to an open leaf from the nodes of a list: by the first open one with the least
-- left to show.
abbrev pub best_way : Side → (ℕ → Bool) → Bool → Forest → Option Way
best_way goal taken by_proof no_node = None
best_way goal taken by_proof (node own children others) =
    better
    (way_of (left_to_show by_proof (numbers_at goal own (numbers goal children)))
    (leaf_at taken own (numbers_at goal own (numbers goal children))
    (best_way goal taken (same_side goal own.position.to_move) children)))
    (best_way goal taken by_proof others)

abbrev pub leaf_below : Side → (ℕ → Bool) → Node → Option ℕ
leaf_below goal taken x =
    leaf_at taken x.own (numbers_at goal x.own (numbers goal x.children))
    (best_way goal taken (same_side goal x.own.position.to_move) x.children)

abbrev pub pick_by : Option Value → Option ℕ → Side → Option (ℕ × Side)
pick_by (Some value) leaf goal = None
pick_by None None goal = None
pick_by None (Some leaf) goal = Some (leaf, goal)

-- what a root gives: nothing where it is settled or not open for its goal; else the leaf at which
-- the walk ends, and the goal
abbrev pub pick_at : (ℕ → Bool) → Node → Option (ℕ × Side)
pick_at taken root = pick_by (value_of root) (leaf_below (goal_of root) taken root) (goal_of root)

-- the first that a root gives
abbrev pub pick_from : (ℕ → Bool) → List Node → Option (ℕ × Side)
pick_from taken [] = None
pick_from taken (root ∷ more) = or_else (pick_at taken root) (pick_from taken more)

-- the leaf to work on next, and the side whose win is sought there
abbrev pub pick : (ℕ → Bool) → Forest → Option (ℕ × Side)
pick taken roots = pick_from taken (nodes roots)
