-- A tree as text: a line a node, two blanks a ply, and a line that counts them.
use Rattle.std.specs.Prelude.{ℕ, zero, suc, List, [], ◌∷◌, ◌++◌, Bool, true, false, Option, Some, None, codes, decimal, length}
use Rattle.certificate_text.specs.Lines.{move_text}
use Rattle.fen_text.specs.Printed.{fen_of}
use Rattle.journal_pages.specs.Roots.{numbers_text}
use Rattle.proof_numbers.specs.Known.{Known}
use Rattle.proof_tree.specs.declared.rows.Mark.{Mark}
use Rattle.proof_tree.specs.declared.rows.Mark.TheVariants.{Unexpanded, Expanded, Repeats}
use Rattle.journal_trees.specs.Sights.{Sight}

abbrev pub mark_word : Mark → List ℕ
mark_word Unexpanded = codes "unexpanded"
mark_word Expanded = codes "expanded"
mark_word Repeats = codes "repeats"

-- a word behind a blank where it fits
abbrev pub word_if : Bool → List ℕ → List ℕ
word_if true word = 32 ∷ word
word_if false word = []

-- the facts that are known
abbrev pub facts_text : Known → List ℕ
facts_text facts =
    word_if facts.black_wins (codes "black-wins") ++ (word_if facts.white_wins (codes "white-wins")
    ++ (word_if facts.black_holds (codes "black-holds") ++ word_if facts.white_holds (codes "white-holds")))

-- two blanks a ply
unfoldable pub indent : ℕ → List ℕ
indent zero = []
indent (suc depth) = 32 ∷ 32 ∷ indent depth

-- the move that leads there, `root` where none does
abbrev pub way_text : Option (List ℕ) → List ℕ
way_text None = codes "root"
way_text (Some path) = move_text path

-- the move, the mark, and `next` at the leaf that would be searched next
unfoldable pub head_text : Sight → List ℕ
head_text x = way_text x.path ++ 32 ∷ (mark_word x.mark ++ word_if x.is_next (codes "next"))

-- what is known, and the numbers for each side's win
unfoldable pub state_text : Sight → List ℕ
state_text x =
    facts_text x.facts ++ (codes " black " ++ (numbers_text x.black ++ (codes " white " ++ numbers_text x.white)))

abbrev pub node_line : Sight → List ℕ
node_line x =
    indent x.depth ++ (head_text x ++ 32 ∷ (fen_of x.position ++ (state_text x ++ 10 ∷ [])))

abbrev pub node_lines : List Sight → List ℕ
node_lines [] = []
node_lines (x ∷ xs) = node_line x ++ node_lines xs

-- how many nodes are shown, and of how many
abbrev pub count_line : ℕ → ℕ → List ℕ
count_line shown all =
    codes "shown " ++ (decimal shown ++ (codes " of " ++ (decimal all ++ codes " nodes\n")))

abbrev pub tree_text : List Sight → ℕ → List ℕ
tree_text xs all = node_lines xs ++ count_line (length xs) all
