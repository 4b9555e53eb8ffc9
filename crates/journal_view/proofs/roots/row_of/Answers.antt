use Rattle.std.proofs.Common.{◌≡◌, ◌<◌, ◌-◌, length, subst, sym, arith}
use Rattle.std.specs.Prelude.{IfSome, IsSome, slice_get}
use Rattle.draughts_board.specs.declared.pieces.Side.TheVariants.{Black, White}
use Rattle.opening_report.proofs.BenchLemmas.{root_named}
use Rattle.proof_tree.specs.Forest.{Forest, nodes, node_at, node_numbers, value_of}
use Rattle.journal_view.proofs.RootLemmas.{row_made}
use Rattle.journal_view.proofs.roots.row_of.Goals as goal

pub position-position-requires : goal.position-position-requires
position-position-requires c =
    let roots = c.args.bench.now.state.forest in
    let same = c.tree-tree.ensures.forest in
    let within : c.args.number - 1 < length (nodes roots) = (let f = c.requires.first in let t = c.requires.there in omega (arith, f, t)) in
    let number = subst (λ (f : Forest). IfSome (slice_get (nodes f) (c.args.number - 1)) (λ x. c.root_node-node.result ≡ x.own.number)) same c.root_node-node.ensures in
    subst (λ (f : Forest). IsSome (node_at c.root_node-node.result f)) (sym same)
    (root_named roots c.tree-tree.ensures.sound.state.numbered (c.args.number - 1) c.root_node-node.result within number)

pub numbers-black-requires : goal.numbers-black-requires
numbers-black-requires c =
    let roots = c.args.bench.now.state.forest in
    let same = c.tree-tree.ensures.forest in
    let within : c.args.number - 1 < length (nodes roots) = (let f = c.requires.first in let t = c.requires.there in omega (arith, f, t)) in
    let number = subst (λ (f : Forest). IfSome (slice_get (nodes f) (c.args.number - 1)) (λ x. c.root_node-node.result ≡ x.own.number)) same c.root_node-node.ensures in
    subst (λ (f : Forest). IsSome (node_at c.root_node-node.result f)) (sym same)
    (root_named roots c.tree-tree.ensures.sound.state.numbered (c.args.number - 1) c.root_node-node.result within number)

pub numbers-white-requires : goal.numbers-white-requires
numbers-white-requires c =
    let roots = c.args.bench.now.state.forest in
    let same = c.tree-tree.ensures.forest in
    let within : c.args.number - 1 < length (nodes roots) = (let f = c.requires.first in let t = c.requires.there in omega (arith, f, t)) in
    let number = subst (λ (f : Forest). IfSome (slice_get (nodes f) (c.args.number - 1)) (λ x. c.root_node-node.result ≡ x.own.number)) same c.root_node-node.ensures in
    subst (λ (f : Forest). IsSome (node_at c.root_node-node.result f)) (sym same)
    (root_named roots c.tree-tree.ensures.sound.state.numbered (c.args.number - 1) c.root_node-node.result within number)

pub returns : goal.returns
returns c =
    let roots = c.args.bench.now.state.forest in
    let same = c.tree-tree.ensures.forest in
    let within : c.args.number - 1 < length (nodes roots) = (let f = c.requires.first in let t = c.requires.there in omega (arith, f, t)) in
    let number = subst (λ (f : Forest). IfSome (slice_get (nodes f) (c.args.number - 1)) (λ x. c.root_node-node.result ≡ x.own.number)) same c.root_node-node.ensures in
    let at = subst (λ (f : Forest). IfSome (node_at c.root_node-node.result f) (λ x. c.position-position.result ≡ x.own.position)) same c.position-position.ensures in
    let has = subst (λ (f : Forest). IfSome (slice_get (nodes f) (c.args.number - 1)) (λ x. c.settled-value.result ≡ value_of x)) same c.settled-value.ensures.value in
    let black = subst (λ (f : Forest). IfSome (node_at c.root_node-node.result f) (λ x. c.numbers-black.result ≡ node_numbers Black x)) same c.numbers-black.ensures in
    let white = subst (λ (f : Forest). IfSome (node_at c.root_node-node.result f) (λ x. c.numbers-white.result ≡ node_numbers White x)) same c.numbers-white.ensures in
    row_made roots c.tree-tree.ensures.sound.state.numbered (c.args.number - 1) c.root_node-node.result within number c.position-position.result c.settled-value.result c.numbers-black.result c.numbers-white.result
    at has black white c.args.census c.requires.counted
