use Rattle.std.proofs.Common.{◌≡◌, ◌<◌, ◌-◌, length, get_or, slice_get, subst, sym, arith}
use Rattle.std.specs.Prelude.{◌^◌, IfOk, IfSome}
use Rattle.certificate_joiner.specs.Strategy.{IsNamed, named}
use Rattle.certificate_joiner.proofs.Named.{root_is}
use Rattle.proof_tree.specs.Forest.{Forest, nodes}
use Rattle.tree_census.specs.Censuses.{tree_of}
use Rattle.root_work.specs.Work.{weight_of}
use Rattle.root_work.proofs.Sums.{counts_few, work_answer}
use Rattle.root_work.proofs.roots.work_of_root.Goals as goal

pub walk-requires-clause-there : goal.walk-requires-clause-there
walk-requires-clause-there c =
    let roots = c.args.bench.now.state.forest in
    let same = c.tree-tree.ensures.forest in
    let within : c.args.root - 1 < length (nodes roots) = (let f = c.requires.first in let t = c.requires.there in omega (arith, f, t)) in
    let number = subst (λ (f : Forest). IfSome (slice_get (nodes f) (c.args.root - 1)) (λ x. c.root_node-top.result ≡ x.own.number)) same c.root_node-top.ensures in
    subst (λ (f : Forest). IsNamed f c.root_node-top.result) (sym same) (root_is roots c.tree-tree.ensures.sound.state.numbered (c.args.root - 1) c.root_node-top.result within number).0

pub walk-requires-clause-few : goal.walk-requires-clause-few
walk-requires-clause-few c =
    let bench = c.args.bench.now in
    subst (λ (f : Forest). weight_of (λ n. get_or c.args.counts.now n 0) f < 2 ^ 64) (sym c.tree-tree.ensures.forest)
    (counts_few bench.records c.args.counts.now bench.state.forest c.tree-tree.ensures.sound.state.numbered c.requires.long c.requires.counted c.requires.few)

pub returns : goal.returns
returns c =
    let bench = c.args.bench.now in
    let roots = bench.state.forest in
    let same = c.tree-tree.ensures.forest in
    let sound = c.tree-tree.ensures.sound.state.numbered in
    let within : c.args.root - 1 < length (nodes roots) = (let f = c.requires.first in let t = c.requires.there in omega (arith, f, t)) in
    let number = subst (λ (f : Forest). IfSome (slice_get (nodes f) (c.args.root - 1)) (λ x. c.root_node-top.result ≡ x.own.number)) same c.root_node-top.ensures in
    let is = root_is roots sound (c.args.root - 1) c.root_node-top.result within number in
    let said = subst (λ (f : Forest). IfOk c.walk.result (λ weight. weight ≡ weight_of (λ n. get_or c.args.counts.now n 0) (tree_of (named f c.root_node-top.result)))) same c.walk.ensures in
    work_answer bench.records c.args.counts.now roots sound c.requires.long c.requires.counted (c.args.root - 1) (named roots c.root_node-top.result) is.1.0 c.walk.result said
