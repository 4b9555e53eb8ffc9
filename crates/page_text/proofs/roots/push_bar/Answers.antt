use Rattle.std.proofs.Common.{◌≡◌, ◌∙◌, ◌++◌, List, ℕ, ap, subst}
use Rattle.std.specs.Prelude.{OnOk, codes, decimal}
use Rattle.page_text.specs.Markup.{escaped}
use Rattle.page_text.specs.Roots.{work_bar}
use Rattle.page_text.proofs.TextLemmas.{bar-text}
use Rattle.page_text.proofs.roots.push_bar.Goals as goal

pub returns : goal.returns
unfolding work_bar
returns c =
    let work = decimal c.args.work in
    let one = c.in_ok-say.ensures in
    let two = c.in_ok-push_number.ensures.ok ∙ ap (λ t. t ++ decimal c.args.most) one in
    let three = c.in_ok-say-2.ensures ∙ ap (λ t. t ++ codes "\" value=\"") two in
    let four = c.in_ok-push_number-2.ensures.ok ∙ ap (λ t. t ++ work) three in
    let five = c.in_ok-say-3.ensures ∙ ap (λ t. t ++ codes "\">") four in
    let six = c.in_ok-push_count.ensures ∙ ap (λ t. t ++ escaped work) five in
    let all = ap (λ t. t ++ codes "</meter>") six ∙ bar-text c.args.text.now.items work (decimal c.args.most) in
    subst (λ (t : List ℕ). OnOk c.say-4.result (c.say-4.new.text.items ≡ t)) all c.say-4.ensures
