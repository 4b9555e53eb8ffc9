-- Pieces of text, one behind the other, are the text of markup.
use Rattle.std.proofs.Common.{◌≡◌, ℕ, suc, ◌+◌, ◌<◌, ◌≤◌, List, [], ◌∷◌, ◌++◌, drop, get_or, length, sym, ◌∙◌, ap, arith, append-nil}
use Rattle.std.specs.Prelude.{codes}
use Rattle.std.proofs.lemmas.List.{append_assoc, drop_all}
use Rattle.std.proofs.Math.Seq.{drop-cons}
use Rattle.draughts_board.specs.declared.pieces.Cell.{Cell}
use Rattle.draughts_board.specs.declared.pieces.Cell.TheVariants.{Empty}
use Rattle.page_text.specs.Markup.{Markup, nothing, text_node, element, beside, attribute, escaped, markup_text}
use Rattle.page_text.specs.Boards.{piece, pieces}

pub shape-text : (old name x y : List ℕ)
    → ((((((old ++ codes "<use href=\"") ++ name) ++ codes "\" x=\"") ++ x) ++ codes "\" y=\"") ++ y) ++ codes "\"></use>"
    ≡ old ++ markup_text (element (codes "use") (attribute (codes "href") name ∷ attribute (codes "x") x ∷ attribute (codes "y") y ∷ []) nothing)
shape-text old name x y = simp append_assoc

pub figure-text : (old : List ℕ) (board : Markup) (words : List ℕ)
    → ((((old ++ codes "<figure>") ++ markup_text board) ++ codes "<figcaption>") ++ escaped words) ++ codes "</figcaption></figure>"
    ≡ old ++ markup_text (element (codes "figure") [] (beside board (element (codes "figcaption") [] (text_node words))))
figure-text old board words = simp append_assoc

pub bar-text : (old work most : List ℕ)
    → ((((((old ++ codes "<meter max=\"") ++ most) ++ codes "\" value=\"") ++ work) ++ codes "\">") ++ escaped work) ++ codes "</meter>"
    ≡ old ++ markup_text (element (codes "meter") (attribute (codes "max") most ∷ attribute (codes "value") work ∷ []) (text_node work))
bar-text old work most = simp append_assoc

pub opening-text : (old summary board fen : List ℕ)
    → ((((((old ++ codes "<details><summary>") ++ summary) ++ codes "</summary>") ++ board) ++ codes "<p><code>") ++ fen) ++ codes "</code></p>"
    ≡ old ++ (codes "<details><summary>" ++ (summary ++ (codes "</summary>" ++ (board ++ (codes "<p><code>" ++ (fen ++ codes "</code></p>"))))))
opening-text old summary board fen = simp append_assoc

pub board-text : (old : List ℕ) (within : Markup)
    → ((old ++ codes "<svg class=\"board\" viewBox=\"0 0 8 8\"><use href=\"#squares\"></use>") ++ markup_text within) ++ codes "</svg>"
    ≡ old
    ++ markup_text (element (codes "svg") (attribute (codes "class") (codes "board") ∷ attribute (codes "viewBox") (codes "0 0 8 8") ∷ [])
    (beside (element (codes "use") (attribute (codes "href") (codes "#squares") ∷ []) nothing) within))
board-text old within = simp append_assoc

pub pieces-step : (text new whole : List ℕ) (cells : List Cell) (i : ℕ) → i < length cells → new ≡ text ++ markup_text (piece (get_or cells i Empty) (i + 1))
    → text ++ markup_text (pieces (i + 1) (drop i cells)) ≡ whole → new ++ markup_text (pieces ((i + 1) + 1) (drop (i + 1) cells)) ≡ whole
pieces-step text new whole cells i within pushed so_far =
    let rest = drop (i + 1) cells in
    let next : suc i ≡ i + 1 = omega arith in
    let split : drop i cells ≡ get_or cells i Empty ∷ rest = drop-cons cells i Empty within ∙ ap (λ m. get_or cells i Empty ∷ drop m cells) next in
    let after = markup_text (pieces ((i + 1) + 1) rest) in
    ap (λ t. t ++ after) pushed
    ∙ (append_assoc text (markup_text (piece (get_or cells i Empty) (i + 1))) after ∙ (ap (λ l. text ++ markup_text (pieces (i + 1) l)) (sym split) ∙ so_far))

pub pieces-end : (text whole : List ℕ) (cells : List Cell) (i : ℕ) → length cells ≤ i → text ++ markup_text (pieces (i + 1) (drop i cells)) ≡ whole → text ≡ whole
pieces-end text whole cells i past so_far =
    sym (ap (λ l. text ++ markup_text (pieces (i + 1) l)) (drop_all i cells past) ∙ append-nil text) ∙ so_far

-- a row of seven cells
pub row-text : (old : List ℕ) (a b c d e f g : Markup)
    → ((((((((old ++ codes "<tr>") ++ markup_text a) ++ markup_text b) ++ markup_text c) ++ markup_text d) ++ markup_text e) ++ markup_text f) ++ markup_text g) ++ codes "</tr>"
    ≡ old ++ markup_text (element (codes "tr") [] (beside a (beside b (beside c (beside d (beside e (beside f g)))))))
row-text old a b c d e f g = simp append_assoc

-- a row of eleven headings
pub headings-text : (old : List ℕ) (a b c d e f g h i j k : Markup)
    → ((((((((((((old ++ codes "<tr>") ++ markup_text a) ++ markup_text b) ++ markup_text c) ++ markup_text d) ++ markup_text e) ++ markup_text f) ++ markup_text g) ++ markup_text h) ++ markup_text i) ++ markup_text j) ++ markup_text k) ++ codes "</tr>"
    ≡ old
    ++ markup_text (element (codes "tr") []
    (beside a (beside b (beside c (beside d (beside e (beside f (beside g (beside h (beside i (beside j k)))))))))))
headings-text old a b c d e f g h i j k = simp append_assoc

pub page-grouped : (head table sight foot : List ℕ) → ((([] ++ head) ++ table) ++ sight) ++ foot ≡ head ++ (table ++ (sight ++ foot))
page-grouped head table sight foot = simp append_assoc

pub roots-grouped : (head table foot : List ℕ) → (([] ++ head) ++ table) ++ foot ≡ head ++ (table ++ ([] ++ foot))
roots-grouped head table foot = append_assoc head table foot
