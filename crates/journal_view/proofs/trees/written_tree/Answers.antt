use Rattle.std.proofs.Common.{◌∙◌, sym, subst}
use Rattle.journal_view.specs.Trees.{ShowsRootTree}
use Rattle.journal_view.proofs.TreeLemmas.{shows_found}
use Rattle.journal_view.proofs.trees.written_tree.Goals as goal

pub returns-in-Some-clause-shows : goal.returns-in-Some-clause-shows
returns-in-Some-clause-shows c =
    let asked = c.args.asked.now in
    let shown = shows_found _ _ c.args.bench.now.state.forest c.tree-tree.result.now.forest c.tree-tree.ensures.sound.state.certified asked c.unwrap_or-plies.result c.from-most.result c.tree-tree.ensures.forest
    c.unwrap_or-plies.ensures (c.from-most.ensures ∙ c.unwrap_or.ensures) c.in_ok-found.found c.in-Some.text (λ t. t.items) c.in-Some.is c.in_ok-found.ensures.first c.in_ok-found.ensures.some in
    subst (λ t. ShowsRootTree c.args.bench.now.state.forest asked t.items) (sym c.settled.ensures.text) shown
