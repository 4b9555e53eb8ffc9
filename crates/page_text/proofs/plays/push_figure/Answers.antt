use Rattle.std.proofs.Common.{◌≡◌, ◌∙◌, ◌++◌, List, ℕ, ap, subst}
use Rattle.std.specs.Prelude.{OnOk, codes}
use Rattle.page_text.specs.Boards.{board}
use Rattle.page_text.specs.Markup.{escaped, markup_text}
use Rattle.page_text.specs.Plays.{figure}
use Rattle.page_text.proofs.TextLemmas.{figure-text}
use Rattle.page_text.proofs.plays.push_figure.Goals as goal

pub returns : goal.returns
unfolding figure
returns c =
    let step = c.args.step.now in
    let one = c.in_ok-say.ensures in
    let two = c.in_ok-push_board.ensures ∙ ap (λ t. t ++ markup_text (board step.position)) one in
    let three = c.in_ok-say-2.ensures ∙ ap (λ t. t ++ codes "<figcaption>") two in
    let four = c.in_ok-push_text.ensures.same ∙ (λ i. three i ++ escaped (c.deref.ensures.value i)) in
    let all = ap (λ t. t ++ codes "</figcaption></figure>") four ∙ figure-text c.args.text.now.items (board step.position) step.words.items in
    subst (λ (t : List ℕ). OnOk c.say-3.result (c.say-3.new.text.items ≡ t)) all c.say-3.ensures
