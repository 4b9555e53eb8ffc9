use Rattle.std.proofs.Common.{◌≡◌, ◌≤◌, ◌<◌, ◌++◌, ◌∷◌, [], ◌∙◌, List, length, take, subst, sym, arith}
use Rattle.std.proofs.lemmas.List.{take_all, length-map}
use Rattle.proof_tree.specs.Forest.{Forest, nodes}
use Rattle.opening_report.specs.declared.roots.Root.{Root}
use Rattle.opening_report.specs.Report.{AreTrueRoots, forest_roots, root_of}
use Rattle.opening_report.proofs.BenchLemmas.{roots_more, true_more}
use Rattle.opening_report.proofs.benches.shown_roots.Goals as goal

pub loop-place-preserved : goal.loop-place-preserved
loop-place-preserved g c =
    let roots = c.args.bench.now.state.forest in
    let ys : List Root = c.loop-place.roots.items in
    let many = subst (λ (f : Forest). c.roots-place-end.result ≡ length (nodes f)) c.tree.ensures.forest c.roots-place-end.ensures.value in
    let within : c.loop-place.place < length (nodes roots) = omega (arith, c.loop-place-test.true, many) in
    let pushed : c.push.new.self.items ≡ ys ++ c.in_ok-root.root ∷ [] = c.in_ok-push.ensures.items in (
      pushed ∙ roots_more roots ys c.loop-place.place c.in_ok-root.root within c.loop-place.invariant.0 c.in_ok-root.ensures.root,
      subst AreTrueRoots (sym pushed) (true_more ys c.in_ok-root.root c.loop-place.invariant.1 c.in_ok-root.ensures.right),
    )

pub returns-clause-values : goal.returns-clause-values
returns-clause-values g c =
    let roots = c.args.bench.now.state.forest in
    let many = subst (λ (f : Forest). c.roots-place-end.result ≡ length (nodes f)) c.tree.ensures.forest c.roots-place-end.ensures.value in
    let past : length (forest_roots roots) ≤ c.loop-place.place = omega (arith, c.loop-place-test.false, many, length-map (nodes roots) root_of) in
    subst AreTrueRoots (c.loop-place.invariant.0 ∙ take_all c.loop-place.place (forest_roots roots) past) c.loop-place.invariant.1
