use Rattle.std.proofs.Common.{◌≡◌, ◌≤◌, ◌<◌, ◌∙◌, List, length, map, subst, arith}
use Rattle.std.proofs.lemmas.List.{take_all, length-map}
use Rattle.journal_pages.specs.Roots.{row_of}
use Rattle.journal_pages.specs.declared.roots.RootRow.{RootRow}
use Rattle.proof_tree.specs.Forest.{Forest, nodes}
use Rattle.journal_view.proofs.RootLemmas.{rows_more}
use Rattle.journal_view.proofs.roots.rows_of.Goals as goal

pub loop-place-preserved : goal.loop-place-preserved
loop-place-preserved c =
    let roots = c.args.bench.now.state.forest in
    let ys : List RootRow = c.loop-place.rows.items in
    let many = subst (λ (f : Forest). c.roots-place-end.result ≡ length (nodes f)) c.tree.ensures.forest c.roots-place-end.ensures.value in
    let within : c.loop-place.place < length (nodes roots) = omega (arith, c.loop-place-test.true, many) in
    c.in_ok-push.ensures.items ∙ rows_more roots ys c.loop-place.place c.row_of-row.result within c.loop-place.invariant c.row_of-row.ensures

pub returns : goal.returns
returns c =
    let roots = c.args.bench.now.state.forest in
    let many = subst (λ (f : Forest). c.roots-place-end.result ≡ length (nodes f)) c.tree.ensures.forest c.roots-place-end.ensures.value in
    let past : length (map row_of (nodes roots)) ≤ c.loop-place.place = omega (arith, c.loop-place-test.false, many, length-map (nodes roots) row_of) in
    c.loop-place.invariant ∙ take_all c.loop-place.place (map row_of (nodes roots)) past
