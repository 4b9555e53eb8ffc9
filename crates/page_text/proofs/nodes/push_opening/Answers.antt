use Rattle.std.proofs.Common.{◌≡◌, ◌∙◌, ◌++◌, List, ℕ, ap, subst}
use Rattle.std.specs.Prelude.{OnOk, codes}
use Rattle.fen_text.specs.Printed.{fen_of}
use Rattle.page_text.specs.Boards.{board}
use Rattle.page_text.specs.Markup.{escaped, markup_text}
use Rattle.page_text.specs.Nodes.{opening_text}
use Rattle.page_text.proofs.TextLemmas.{opening-text}
use Rattle.page_text.proofs.nodes.push_opening.Goals as goal

pub returns : goal.returns
unfolding opening_text
returns c =
    let node = c.args.node.now in
    let shown = markup_text (board node.position) in
    let one = c.in_ok-say.ensures in
    let two = c.in_ok-push_text.ensures.same ∙ (λ i. one i ++ escaped (c.deref.ensures.value i)) in
    let three = c.in_ok-say-2.ensures ∙ ap (λ t. t ++ codes "</summary>") two in
    let four = c.in_ok-push_board.ensures ∙ ap (λ t. t ++ shown) three in
    let five = c.in_ok-say-3.ensures ∙ ap (λ t. t ++ codes "<p><code>") four in
    let six = c.in_ok-push_text-2.ensures.same ∙ (λ i. five i ++ escaped ((c.as_bytes.ensures.value ∙ c.deref-2.ensures.0 ∙ c.print_fen-fen.ensures.text) i)) in
    let all = ap (λ t. t ++ codes "</code></p>") six ∙ opening-text c.args.text.now.items (escaped node.summary.items) shown (escaped (fen_of node.position)) in
    subst (λ (t : List ℕ). OnOk c.say-4.result (c.say-4.new.text.items ≡ t)) all c.say-4.ensures
