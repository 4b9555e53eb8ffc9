-- A tree of nodes, each of which opens on a click: an element `details` with those below it within.
use Rattle.std.specs.Prelude.{◌≡◌, ℕ, zero, suc, ◌+◌, ◌-◌, List, [], ◌∷◌, ◌++◌, codes}
use Rattle.draughts_board.specs.Board.{Board}
use Rattle.fen_text.specs.Printed.{fen_of}
use Rattle.page_text.specs.Markup.{Markup, nothing, text_node, element, beside, escaped, markup_text}
use Rattle.page_text.specs.Boards.{board}
use Rattle.page_text.specs.declared.nodes.PageNode.{PageNode}

-- what is shown of a node: how deep it lies, its position, and its summary
pub record NodeWords : Type 0 where
  pub depth : ℕ
  pub position : Board
  pub summary : List ℕ

abbrev pub words_of : PageNode → NodeWords
words_of node =
    record { depth = node.depth; position = node.position; summary = node.summary.items }

-- a list of nodes: none, or a first one, those below it, and the others
pub data Twigs : Type 0 where
  no_twig : Twigs
  twig : NodeWords → Twigs → Twigs → Twigs

-- each node before those below it, and these before the others
abbrev pub preorder : Twigs → List NodeWords
preorder no_twig = []
preorder (twig node below others) = node ∷ preorder below ++ preorder others

-- the nodes of the list say this depth, and those below a node one more than it
abbrev pub AreAt : ℕ → Twigs → Type 0
AreAt depth no_twig = Unit {0}
AreAt depth (twig node below others) =
    (node.depth ≡ depth) × AreAt (depth + 1) below × AreAt depth others

-- a node, which shows its summary before it is opened, and then its board and FEN, and what is below it
abbrev pub detail : NodeWords → Markup → Markup
detail node below =
    element (codes "details") [] (beside (element (codes "summary") [] (text_node node.summary))
    (beside (board node.position)
    (beside (element (codes "p") [] (element (codes "code") [] (text_node (fen_of node.position)))) below)))

abbrev pub twigs_markup : Twigs → Markup
twigs_markup no_twig = nothing
twigs_markup (twig node below others) =
    beside (detail node (twigs_markup below)) (twigs_markup others)

-- ---- the same, node by node

-- the text of a node up to those below it
unfoldable pub opening_text : NodeWords → List ℕ
opening_text node =
    codes "<details><summary>" ++ (escaped node.summary ++ (codes "</summary>"
    ++ (markup_text (board node.position) ++ (codes "<p><code>" ++ (escaped (fen_of node.position)
    ++ codes "</code></p>")))))

-- the last tags of so many open nodes
unfoldable pub closings : ℕ → List ℕ
closings zero = []
closings (suc n) = codes "</details>" ++ closings n

-- the text of nodes, where so many are open before them
abbrev pub nodes_text : ℕ → List NodeWords → List ℕ
nodes_text before [] = closings before
nodes_text before (node ∷ nodes) =
    closings (before - node.depth) ++ (opening_text node ++ nodes_text (node.depth + 1) nodes)
