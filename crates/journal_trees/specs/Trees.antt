-- The nodes of a tree down to a ply, each behind the one above it, and the deepest ply to which they are few
-- enough.
use Rattle.std.specs.Prelude.{◌≡◌, ◌⊎◌, ℕ, zero, suc, ◌+◌, ◌<◌, ◌≤◌, List, [], ◌∷◌, ◌++◌, length, Option, Some, None, false}
use Rattle.std.specs.Option.{option_map}
use Rattle.draughts_board.specs.Board.{Board}
use Rattle.proof_tree.specs.Forest.{Forest, no_node, node, Node}
use Rattle.proof_tree.specs.Picking.{pick}
use Rattle.journal_trees.specs.Sights.{Sight, sight}

-- nothing where no ply is left, else what comes of one ply less
abbrev pub a_ply_down : {A : Type 0} → ℕ → A → (ℕ → A) → A
a_ply_down zero none below = none
a_ply_down (suc plies) none below = below plies

-- the nodes of a list and those below them, down to this number of plies: each node once, before those below
-- it, and these before the others of the list
abbrev pub sights : Option ℕ → ℕ → ℕ → Option Board → Forest → List Sight
sights next plies depth above no_node = []
sights next plies depth above (node own children others) =
    sight next depth above (record { own = own; children = children })
    ∷ (a_ply_down plies [] (λ less. sights next less (depth + 1) (Some own.position) children)
    ++ sights next plies depth above others)

-- a node and those below it
abbrev pub node_sights : Option ℕ → ℕ → ℕ → Option Board → Node → List Sight
node_sights next plies depth above x =
    sight next depth above x
    ∷ a_ply_down plies [] (λ less. sights next less (depth + 1) (Some x.own.position) x.children)

-- how many nodes of a list, and below them, stand no deeper than this number of plies
abbrev pub count_to : ℕ → Forest → ℕ
count_to plies no_node = 0
count_to plies (node own children others) =
    1 + a_ply_down plies 0 (λ less. count_to less children) + count_to plies others

-- a node and those below it
abbrev pub node_count : ℕ → Node → ℕ
node_count plies x = 1 + a_ply_down plies 0 (λ less. count_to less x.children)

-- The nodes down to this ply are no more than may be shown, or it is the root's; and it is the last that is
-- asked, or the nodes down to the next are more.
pub record IsDeepest (x : Node) (asked most plies : ℕ) : Type 0 where
  pub within : plies ≤ asked
  pub fits : (plies ≡ 0) ⊎ (node_count plies x ≤ most)
  pub next : plies < asked → most < node_count (plies + 1) x

-- the leaf that one worker alone would search next
abbrev pub next_of : Forest → Option ℕ
next_of roots = option_map (λ found. found.0) (pick (λ n. false) roots)

-- Of a root of a forest that nodes are shown, down to this ply.
pub record ShowsTree (roots : Forest) (x : Node) (asked most : ℕ) (shown : List Sight) (plies : ℕ) : Type 0 where
  pub deepest : IsDeepest x asked most plies
  pub nodes : shown ≡ node_sights (next_of roots) plies 0 None x
  pub count : length shown ≡ node_count plies x
