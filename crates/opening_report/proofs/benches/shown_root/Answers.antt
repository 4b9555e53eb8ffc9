use Rattle.std.proofs.Common.{◌≡◌, ◌<◌, ◌-◌, length, subst, sym, arith}
use Rattle.std.specs.Prelude.{IfSome, IsSome, slice_get}
use Rattle.proof_tree.specs.Forest.{Forest, nodes, node_at}
use Rattle.opening_report.proofs.BenchLemmas.{root_named, root_made, root_made_true}
use Rattle.opening_report.proofs.benches.shown_root.Goals as goal

pub position-position-requires : goal.position-position-requires
position-position-requires g c =
    let roots = c.args.bench.now.state.forest in
    let same = c.tree-tree.ensures.forest in
    let within : c.args.number - 1 < length (nodes roots) = (let f = c.requires.first in let t = c.requires.there in omega (arith, f, t)) in
    let number = subst (λ (f : Forest). IfSome (slice_get (nodes f) (c.args.number - 1)) (λ x. c.root_node.result ≡ x.own.number)) same c.root_node.ensures in
    subst (λ (f : Forest). IsSome (node_at c.root_node.result f)) (sym same)
    (root_named roots c.tree-tree.ensures.sound.state.numbered (c.args.number - 1) c.root_node.result within number)

pub returns-clause-root : goal.returns-clause-root
returns-clause-root g c =
    let roots = c.args.bench.now.state.forest in
    let same = c.tree-tree.ensures.forest in
    let within : c.args.number - 1 < length (nodes roots) = (let f = c.requires.first in let t = c.requires.there in omega (arith, f, t)) in
    let number = subst (λ (f : Forest). IfSome (slice_get (nodes f) (c.args.number - 1)) (λ x. c.root_node.result ≡ x.own.number)) same c.root_node.ensures in
    let at = subst (λ (f : Forest). IfSome (node_at c.root_node.result f) (λ x. c.position-position.result ≡ x.own.position)) same c.position-position.ensures in
    root_made roots c.tree-tree.ensures.sound.state.numbered (c.args.number - 1) c.root_node.result within number c.position-position.result c.in_ok-value.value at c.in_ok-value.ensures.value

pub returns-clause-right : goal.returns-clause-right
returns-clause-right g c =
    let roots = c.args.bench.now.state.forest in
    let same = c.tree-tree.ensures.forest in
    let within : c.args.number - 1 < length (nodes roots) = (let f = c.requires.first in let t = c.requires.there in omega (arith, f, t)) in
    let number = subst (λ (f : Forest). IfSome (slice_get (nodes f) (c.args.number - 1)) (λ x. c.root_node.result ≡ x.own.number)) same c.root_node.ensures in
    let at = subst (λ (f : Forest). IfSome (node_at c.root_node.result f) (λ x. c.position-position.result ≡ x.own.position)) same c.position-position.ensures in
    root_made_true roots c.tree-tree.ensures.sound.state.numbered (c.args.number - 1) c.root_node.result within number c.position-position.result c.in_ok-value.value at c.in_ok-value.ensures.value
    c.in_ok-value.ensures.right
