use Rattle.std.proofs.Common.{◌≡◌, ◌∙◌, ◌++◌, List, ℕ, ap, subst}
use Rattle.std.specs.Prelude.{OnOk, codes, decimal}
use Rattle.page_text.specs.Boards.{board}
use Rattle.page_text.specs.Markup.{Markup, beside, markup_text, text_node}
use Rattle.page_text.specs.Roots.{cell, fen_cell, numbers_cells, root_row, value_words, work_bar}
use Rattle.page_text.proofs.TextLemmas.{row-text}
use Rattle.page_text.proofs.roots.push_row.Goals as goal

pub returns : goal.returns
unfolding root_row
returns c =
    let root = c.args.root.now in
    let number : Markup = cell (text_node (decimal c.args.number)) in
    let position : Markup = beside (cell (board root.position)) (fen_cell root.position) in
    let nodes : Markup = cell (text_node (decimal root.nodes)) in
    let leaves : Markup = cell (text_node (decimal root.leaves)) in
    let work : Markup = cell (beside (text_node (decimal root.work)) (work_bar root.work c.args.most)) in
    let one = c.in_ok-say.ensures in
    let two = c.in_ok-push_count_cell.ensures ∙ ap (λ t. t ++ markup_text number) one in
    let three = c.in_ok-push_position_cells.ensures ∙ ap (λ t. t ++ markup_text position) two in
    let four = c.in_ok-push_cell.ensures ∙ (λ i. three i ++ markup_text (cell (text_node ((c.as_bytes.ensures.value ∙ c.value_words.ensures) i)))) in
    let five = c.in_ok-push_numbers_cells.ensures ∙ ap (λ t. t ++ markup_text (numbers_cells root)) four in
    let six = c.in_ok-push_count_cell-2.ensures ∙ ap (λ t. t ++ markup_text nodes) five in
    let seven = c.in_ok-push_count_cell-3.ensures ∙ ap (λ t. t ++ markup_text leaves) six in
    let eight = c.in_ok-push_work_cell.ensures ∙ ap (λ t. t ++ markup_text work) seven in
    let all =
    ap (λ t. t ++ codes "</tr>") eight
    ∙ row-text c.args.text.now.items number position (cell (text_node (value_words root.value))) (numbers_cells root) nodes leaves work in
    subst (λ (t : List ℕ). OnOk c.say-2.result (c.say-2.new.text.items ≡ t)) all c.say-2.ensures
