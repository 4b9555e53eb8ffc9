use Rattle.std.proofs.Common.{◌∙◌, ◌++◌, ap, map}
use Rattle.page_text.specs.Markup.{markup_text}
use Rattle.page_text.specs.Pages.{root_sight}
use Rattle.page_text.specs.Plays.{step_words}
use Rattle.page_text.specs.Roots.{root_table}
use Rattle.page_text.specs.declared.pages.TheConstants.{FOOT, HEAD}
use Rattle.page_text.proofs.TextLemmas.{page-grouped}
use Rattle.page_text.proofs.pages.root_page.Goals as goal

pub returns : goal.returns
returns c twigs at is =
    let table = markup_text (root_table c.args.roots.now) in
    let sight = markup_text (root_sight c.args.sight.now.number (map step_words c.args.sight.now.play.items) twigs c.args.sight.now.more) in
    let one = c.in_ok-say.ensures ∙ ap (λ t. t ++ HEAD.now) c.new-text.ensures.items in
    let two = c.in_ok-push_table.ensures ∙ ap (λ t. t ++ table) one in
    let three = c.in_ok-push_sight.ensures twigs at is ∙ ap (λ t. t ++ sight) two in
    c.in_ok-say-2.ensures ∙ (ap (λ t. t ++ FOOT.now) three ∙ page-grouped HEAD.now table sight FOOT.now)
