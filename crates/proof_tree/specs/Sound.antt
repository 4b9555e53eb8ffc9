-- What every forest of a tree keeps.
use Rattle.std.specs.Prelude.{◌≡◌, ◌≢◌, ◌↔◌, ℕ, ◌+◌, ◌<◌, ◌≤◌, ◌^◌, ◌==◌, List, [], ◌∷◌, map, length, Contains, nat_lt, if◌then◌else◌}
use Rattle.std.specs.List.{IsDistinct}
use Rattle.draughts_board.specs.Board.{Board, IsLawful, same_board}
use Rattle.draughts_board.specs.Play.{successors_of}
use Rattle.proof_numbers.specs.Known.{IsConsistent}
use Rattle.proof_tree.specs.declared.rows.Mark.TheVariants.{Expanded, Repeats}
use Rattle.proof_tree.specs.Forest.{Forest, no_node, node, Node, nodes, size}
use Rattle.proof_tree.specs.declared.tree.TheConstants.{MOST_ROOTS}

-- each node, wherever it stands, with the positions on the path above it, nearest first
abbrev pub EachNode : (List Board → Node → Type 0) → List Board → Forest → Type 0
EachNode P path no_node = Unit {0}
EachNode P path (node own children others) =
    P path (record { own = own; children = children })
    × (EachNode P (own.position ∷ path) children × EachNode P path others)

-- A node below this path. Its children are the successors of its position in order, where it is
-- expanded, and it has none elsewhere. It repeats exactly where its position stands on the path.
pub record IsSoundNode (path : List Board) (x : Node) : Type 0 where
  pub lawful : IsLawful x.own.position
  pub consistent : IsConsistent x.own.facts
  pub expanded : x.own.mark ≡ Expanded
      → map (λ child. child.own.position) (nodes x.children) ≡ successors_of x.own.position
  pub childless : x.own.mark ≢ Expanded → x.children ≡ no_node
  pub repeats : (x.own.mark ≡ Repeats) ↔ Contains path x.own.position

-- at how many places a node with this number stands
abbrev pub occurrences : ℕ → Forest → ℕ
occurrences n no_node = 0
occurrences n (node own children others) =
    (if own.number == n then 1 else 0) + (occurrences n children + occurrences n others)

-- the positions of the roots, in order
abbrev pub root_positions : Forest → List Board
root_positions roots = map (λ root. root.own.position) (nodes roots)

pub record IsSoundForest (roots : Forest) : Type 0 where
  pub each : EachNode IsSoundNode [] roots
  -- nodes are numbered from 0 on, and each number stands at one place
  pub numbered : (n : ℕ) → occurrences n roots ≡ (if nat_lt n (size roots) then 1 else 0)
  pub apart : IsDistinct same_board (root_positions roots)

-- what contracts see of a tree: its forest, and for how many more nodes it has room
pub record TreeState : Type 0 where
  pub forest : Forest
  pub spare : ℕ

-- what every tree keeps
pub record IsTreeState (tree : TreeState) : Type 0 where
  pub sound : IsSoundForest tree.forest
  pub few : size tree.forest + tree.spare < 2 ^ 60
  pub few_roots : length (nodes tree.forest) ≤ MOST_ROOTS
