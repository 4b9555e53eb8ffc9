use Rattle.std.proofs.Common.{◌∙◌, ℕ, List, Option, ap, subst, sym}
use Rattle.std.specs.Prelude.{unwrap_or}
use Rattle.page_text.specs.Markup.{nothing}
use Rattle.page_text.specs.Pages.{page_text}
use Rattle.page_text.specs.declared.roots.RootCells.{RootCells}
use Rattle.journal_view.specs.Pages.{WritesPage}
use Rattle.journal_view.specs.declared.trees.TheConstants.{DEFAULT_NODES}
use Rattle.journal_view.proofs.pages.page_by.Goals as goal

pub returns-in-None-clause-shows : goal.returns-in-None-clause-shows
returns-in-None-clause-shows c =
    let read = c.args.read.now in
    let text = c.in_ok-roots_page-in-None.field-0.items in
    subst (λ (o : Option ℕ). WritesPage read.table.pieces read.bench.records read.bench.state.forest (unwrap_or c.args.asked.now.nodes DEFAULT_NODES) o text) (sym c.in-None.is)
    (c.in_ok-roots_page-in-None.ensures ∙ ap (λ (l : List RootCells). page_text l nothing) (c.deref.ensures.value ∙ c.in_ok-cells.ensures))
