use Rattle.std.proofs.Common.{◌≤◌, ◌-◌, Option, map, slice_get, subst}
use Rattle.std.specs.Prelude.{IfSome, IsSomeAnd}
use Rattle.bench_core.specs.Records.{batches_shown}
use Rattle.page_text.specs.Plays.{step_words}
use Rattle.proof_tree.specs.Forest.{nodes}
use Rattle.root_pages.specs.Sights.{WritesSight}
use Rattle.view_words.specs.declared.requests.TheConstants.{MOST_PLIES}
use Rattle.journal_view.proofs.PageLemmas.{root_page_shown}
use Rattle.journal_view.proofs.pages.root_text.Goals as goal

pub returns-in-Some-clause-shows : goal.returns-in-Some-clause-shows
returns-in-Some-clause-shows c =
    let read = c.args.read.now in
    let bench = read.bench in
    let n = c.args.root in
    let tree = c.tree-tree.result.now.forest in
    let steps = map step_words c.in_ok-play.play.items in
    let first = subst (λ (o : Option _). IfSome o (λ text. 1 ≤ n)) c.in-Some.is c.in_ok-found.ensures.first in
    let writes =
    subst (λ (o : Option _). IfSome o (λ text.
    IsSomeAnd (slice_get (nodes tree) (n - 1)) (λ x. WritesSight tree x c.args.cells.now n steps MOST_PLIES c.args.most text.items))) c.in-Some.is c.in_ok-found.ensures.some in
    root_page_shown read.table.pieces bench.state.settings.pieces (batches_shown bench.records) bench.records bench.state.forest tree c.args.cells.now n c.args.most steps c.in-Some.text.items
    c.tree-tree.ensures.sound.state.certified c.tree-tree.ensures.forest c.requires.cells first c.in_ok-play.ensures writes
