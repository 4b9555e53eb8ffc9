use Rattle.std.proofs.Common.{◌∙◌, ◌++◌, ap}
use Rattle.page_text.specs.Markup.{markup_text}
use Rattle.page_text.specs.Roots.{root_table}
use Rattle.page_text.specs.declared.pages.TheConstants.{FOOT, HEAD}
use Rattle.page_text.proofs.TextLemmas.{roots-grouped}
use Rattle.page_text.proofs.pages.roots_page.Goals as goal

pub returns : goal.returns
returns c =
    let table = markup_text (root_table c.args.roots.now) in
    let one = c.in_ok-say.ensures ∙ ap (λ t. t ++ HEAD.now) c.new-text.ensures.items in
    let two = c.in_ok-push_table.ensures ∙ ap (λ t. t ++ table) one in
    c.in_ok-say-2.ensures ∙ (ap (λ t. t ++ FOOT.now) two ∙ roots-grouped HEAD.now table FOOT.now)
