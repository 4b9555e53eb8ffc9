-- A page: its head, the table of roots, perhaps the play and the tree of one of them, and its end.
use Rattle.std.specs.Prelude.{ℕ, List, [], ◌++◌, codes, decimal}
use Rattle.page_text.specs.Markup.{Markup, text_node, element, beside, markup_text}
use Rattle.page_text.specs.Nodes.{Twigs, twigs_markup}
use Rattle.page_text.specs.Plays.{StepWords, play}
use Rattle.page_text.specs.Roots.{root_table}
use Rattle.page_text.specs.declared.pages.TheConstants.{HEAD, FOOT}
use Rattle.page_text.specs.declared.roots.RootCells.{RootCells}

-- a root's number, its play, its tree, and how many of its nodes are not shown
abbrev pub root_sight : ℕ → List StepWords → Twigs → ℕ → Markup
root_sight number steps twigs more =
    beside (element (codes "h2") [] (beside (text_node (codes "Root ")) (text_node (decimal number))))
    (beside (play steps)
    (beside (twigs_markup twigs)
    (element (codes "p") [] (beside (text_node (codes "Nodes that are not shown: "))
    (text_node (decimal more))))))

-- the page of these roots, with this behind their table
abbrev pub page_text : List RootCells → Markup → List ℕ
page_text roots behind =
    HEAD.now ++ (markup_text (root_table roots) ++ (markup_text behind ++ FOOT.now))
