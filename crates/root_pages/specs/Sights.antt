-- What a page shows of a root: its line of play, and its tree down to a ply.
use Rattle.std.specs.Prelude.{◌≡◌, ℕ, ◌+◌, ◌-◌, List, ◌++◌, Option, Some, None}
use Rattle.draughts_board.specs.Board.{Board}
use Rattle.proof_tree.specs.Forest.{Forest, no_node, node, Node, size}
use Rattle.tree_census.specs.Censuses.{tree_of}
use Rattle.journal_trees.specs.Sights.{Sight, sight}
use Rattle.journal_trees.specs.Trees.{IsDeepest, a_ply_down, next_of, node_count}
use Rattle.tree_texts.specs.TreeTexts.{head_text, state_text}
use Rattle.page_text.specs.Nodes.{NodeWords, Twigs, no_twig, twig}
use Rattle.page_text.specs.Pages.{page_text, root_sight}
use Rattle.page_text.specs.Plays.{StepWords}
use Rattle.page_text.specs.declared.roots.RootCells.{RootCells}

-- a node, with the words that `tree` has of it
abbrev pub page_words : Sight → NodeWords
page_words x =
    record { depth = x.depth; position = x.position; summary = head_text x ++ state_text x }

-- the nodes of a list and those below them, down to this number of plies
abbrev pub twigs : Option ℕ → ℕ → ℕ → Option Board → Forest → Twigs
twigs next plies depth above no_node = no_twig
twigs next plies depth above (node own children others) =
    twig (page_words (sight next depth above (record { own = own; children = children })))
    (a_ply_down plies no_twig (λ less. twigs next less (depth + 1) (Some own.position) children))
    (twigs next plies depth above others)

-- a root, and those below it
abbrev pub root_twigs : Option ℕ → ℕ → Node → Twigs
root_twigs next plies x = twigs next plies 0 None (tree_of x)

-- The text is the page with this table, and behind it what is shown of root x of a forest, which has this number:
-- these steps, and its tree down to the deepest ply to which its nodes are no more than `most`.
pub record WritesSight (roots : Forest) (x : Node) (cells : List RootCells) (number : ℕ)
    (steps : List StepWords) (asked most : ℕ) (text : List ℕ) : Type 0 where
  pub plies : ℕ
  pub deepest : IsDeepest x asked most plies
  pub text_is : text ≡ page_text cells (root_sight number steps
      (root_twigs (next_of roots) plies x) (size (tree_of x) - node_count plies x))
