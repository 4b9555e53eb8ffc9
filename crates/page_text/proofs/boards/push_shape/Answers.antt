use Rattle.std.proofs.Common.{◌≡◌, ◌∙◌, ◌++◌, List, ℕ, ap, subst}
use Rattle.std.specs.Prelude.{OnOk, codes, decimal}
use Rattle.draughts_board.specs.Geometry.{column, row}
use Rattle.page_text.proofs.TextLemmas.{shape-text}
use Rattle.page_text.proofs.boards.push_shape.Goals as goal

pub returns : goal.returns
returns c =
    let one = c.in_ok-say.ensures in
    let two = c.in_ok-say-2.ensures ∙ ap (λ t. t ++ c.args.name.now) one in
    let three = c.in_ok-say-3.ensures ∙ ap (λ t. t ++ codes "\" x=\"") two in
    let four = c.in_ok-push_number.ensures.ok ∙ (λ i. three i ++ decimal ((c.from.ensures ∙ c.column.ensures.value) i)) in
    let five = c.in_ok-say-4.ensures ∙ ap (λ t. t ++ codes "\" y=\"") four in
    let six = c.in_ok-push_number-2.ensures.ok ∙ (λ i. five i ++ decimal ((c.from-2.ensures ∙ c.row.ensures.value) i)) in
    let all = ap (λ t. t ++ codes "\"></use>") six ∙ shape-text c.args.text.now.items c.args.name.now (decimal (column c.args.square)) (decimal (row c.args.square)) in
    subst (λ (t : List ℕ). OnOk c.say-5.result (c.say-5.new.text.items ≡ t)) all c.say-5.ensures
