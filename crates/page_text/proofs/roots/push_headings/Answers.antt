use Rattle.std.proofs.Common.{◌≡◌, ◌∙◌, ◌++◌, List, ℕ, ap, subst}
use Rattle.std.specs.Prelude.{OnOk, codes}
use Rattle.page_text.specs.Markup.{markup_text}
use Rattle.page_text.specs.Roots.{heading, headings}
use Rattle.page_text.proofs.TextLemmas.{headings-text}
use Rattle.page_text.proofs.roots.push_headings.Goals as goal

pub returns : goal.returns
unfolding headings
returns c =
    let one = c.in_ok-say.ensures in
    let h1 = c.in_ok-push_heading.ensures ∙ ap (λ t. t ++ markup_text (heading (codes "Root"))) one in
    let h2 = c.in_ok-push_heading-2.ensures ∙ ap (λ t. t ++ markup_text (heading (codes "Board"))) h1 in
    let h3 = c.in_ok-push_heading-3.ensures ∙ ap (λ t. t ++ markup_text (heading (codes "Position"))) h2 in
    let h4 = c.in_ok-push_heading-4.ensures ∙ ap (λ t. t ++ markup_text (heading (codes "Value"))) h3 in
    let h5 = c.in_ok-push_heading-5.ensures ∙ ap (λ t. t ++ markup_text (heading (codes "Black proof"))) h4 in
    let h6 = c.in_ok-push_heading-6.ensures ∙ ap (λ t. t ++ markup_text (heading (codes "Black disproof"))) h5 in
    let h7 = c.in_ok-push_heading-7.ensures ∙ ap (λ t. t ++ markup_text (heading (codes "White proof"))) h6 in
    let h8 = c.in_ok-push_heading-8.ensures ∙ ap (λ t. t ++ markup_text (heading (codes "White disproof"))) h7 in
    let h9 = c.in_ok-push_heading-9.ensures ∙ ap (λ t. t ++ markup_text (heading (codes "Nodes"))) h8 in
    let h10 = c.in_ok-push_heading-10.ensures ∙ ap (λ t. t ++ markup_text (heading (codes "Open leaves"))) h9 in
    let h11 = c.in_ok-push_heading-11.ensures ∙ ap (λ t. t ++ markup_text (heading (codes "Work"))) h10 in
    let all =
    ap (λ t. t ++ codes "</tr>") h11
    ∙ headings-text c.args.text.now.items (heading (codes "Root")) (heading (codes "Board")) (heading (codes "Position")) (heading (codes "Value")) (heading (codes "Black proof")) (heading (codes "Black disproof")) (heading (codes "White proof")) (heading (codes "White disproof")) (heading (codes "Nodes")) (heading (codes "Open leaves")) (heading (codes "Work")) in
    subst (λ (t : List ℕ). OnOk c.say-2.result (c.say-2.new.text.items ≡ t)) all c.say-2.ensures
