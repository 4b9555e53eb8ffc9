use Rattle.std.proofs.Common.{◌≡◌, ◌-◌, ◌∙◌, List, Option, ap, arith, length, map, slice_get, subst}
use Rattle.std.specs.Prelude.{IfSome, IsSomeAnd}
use Rattle.journal_trees.specs.Sights.{sight_of}
use Rattle.journal_trees.specs.Trees.{ShowsTree}
use Rattle.journal_trees.specs.declared.nodes.ShownNode.{ShownNode}
use Rattle.journal_trees.specs.declared.trees.ShownTree.{ShownTree}
use Rattle.page_text.specs.Pages.{page_text, root_sight}
use Rattle.page_text.specs.Plays.{step_words}
use Rattle.proof_tree.specs.Forest.{nodes}
use Rattle.root_pages.specs.Sights.{page_words}
use Rattle.root_pages.proofs.TwigLemmas.{written_at}
use Rattle.root_pages.proofs.sights.sight_page.Goals as goal

pub returns-clause-some : goal.returns-clause-some
returns-clause-some c =
    let roots = c.args.tree.now.forest in
    let cells = c.args.cells.now in
    let steps = map step_words c.args.play.items in
    let shown = c.in-Some.shown in
    let census = c.in_ok-census.census in
    let more = c.saturating_sub-more.result in
    let shows =
    subst (λ (f : Option ShownTree). IfSome f (λ s.
    IsSomeAnd (slice_get (nodes roots) (c.args.root - 1)) (λ x. ShowsTree roots x c.args.asked c.args.most (map sight_of s.nodes.items) s.plies))) c.in-Some.is c.in_ok-shown.ensures.some in
    let left : more ≡ census.nodes - length shown.nodes.items =
    (let is = c.saturating_sub-more.ensures in
    let long = shown.nodes.ok.0 in
    omega (arith, is, long)) in
    let words = c.in_ok-nodes.ensures ∙ ap (λ (l : List ShownNode). map page_words (map sight_of l)) c.deref.ensures.value in
    written_at roots (slice_get (nodes roots) (c.args.root - 1)) cells c.args.root steps c.args.asked c.args.most shown.plies more census shown.nodes.items c.in_ok-nodes.nodes.items
    c.in_ok-text.text.items shows c.in_ok-census.ensures left words
    (λ tree at is. c.in_ok-text.ensures tree at is ∙ ap (λ n. page_text cells (root_sight n steps tree more)) c.from.ensures)
