-- What is shown of a root's tree.
use Rattle.std.specs.Prelude.{◌≡◌, ℕ, List, Bool, true, false}
use Rattle.proof_tree.specs.Forest.{Forest, Node, size}
use Rattle.tree_census.specs.Censuses.{tree_of}
use Rattle.journal_trees.specs.Sights.{Sight}
use Rattle.journal_trees.specs.Trees.{ShowsTree}
use Rattle.tree_texts.specs.Json.{json_text}
use Rattle.tree_texts.specs.TreeTexts.{tree_text}

-- nodes as JSON or as text, of a tree that has this number of them
abbrev pub nodes_text : Bool → List Sight → ℕ → List ℕ
nodes_text true xs all = json_text xs all
nodes_text false xs all = tree_text xs all

-- The text shows the nodes of a root down to a ply, each once, and says how many its tree has.
pub record WritesTree (roots : Forest) (x : Node) (asked most : ℕ) (json : Bool) (text : List ℕ)
    : Type 0 where
  pub shown : List Sight
  pub plies : ℕ
  pub tree : ShowsTree roots x asked most shown plies
  pub text_is : text ≡ nodes_text json shown (size (tree_of x))
