use Rattle.std.proofs.Common.{◌∙◌, [], sym, subst, ◌-◌, ◌<◌, length, slice_get, ap, arith}
use Rattle.std.specs.Prelude.{All, map}
use Rattle.certificate_joiner.specs.Strategy.{IsNamed, named}
use Rattle.certificate_joiner.proofs.Named.{root_is}
use Rattle.std.proofs.lemmas.List.Elements.{All-nil}
use Rattle.proof_tree.specs.Forest.{nodes}
use Rattle.journal_trees.specs.Sights.{Sight, sight_of, spot_sight}
use Rattle.journal_trees.specs.declared.nodes.Spot.{Spot}
use Rattle.journal_trees.proofs.TreeLemmas.{shows}
use Rattle.journal_trees.proofs.trees.shown_tree.Goals as goal

pub deepest-plies-requires-clause-there : goal.deepest-plies-requires-clause-there
deepest-plies-requires-clause-there c =
    let roots = c.args.tree.now.forest in
    let within : c.args.root - 1 < length (nodes roots) = omega (arith, c.roots-roots.ensures.value) in
    (root_is roots c.roots-roots.ensures.valid.sound (c.args.root - 1) c.root_node-n.result within c.root_node-n.ensures).0

pub deepest-plies-requires-clause-few : goal.deepest-plies-requires-clause-few
deepest-plies-requires-clause-few c = omega (arith, c.roots-roots.ensures.valid.few)

pub add_below-requires-clause-each : goal.add_below-requires-clause-each
add_below-requires-clause-each c =
    let P : Spot → Type 0 = λ s. IsNamed c.args.tree.now.forest s.node in
    subst (All P) (sym c.new-spots.ensures.items) (All-nil P)

pub add_below-requires-clause-there : goal.add_below-requires-clause-there
add_below-requires-clause-there c =
    let roots = c.args.tree.now.forest in
    let within : c.args.root - 1 < length (nodes roots) = omega (arith, c.roots-roots.ensures.value) in
    (root_is roots c.roots-roots.ensures.valid.sound (c.args.root - 1) c.root_node-n.result within c.root_node-n.ensures).0

pub shown_nodes-requires : goal.shown_nodes-requires
shown_nodes-requires c =
    subst (All (λ (s : Spot). IsNamed c.args.tree.now.forest s.node)) (sym c.deref.ensures.value) c.in_ok-add_below.ensures.each

pub returns-clause-some : goal.returns-clause-some
returns-clause-some c =
    let roots = c.args.tree.now.forest in
    let within : c.args.root - 1 < length (nodes roots) = omega (arith, c.roots-roots.ensures.value) in
    let is = root_is roots c.roots-roots.ensures.valid.sound (c.args.root - 1) c.root_node-n.result within c.root_node-n.ensures in
    let next = c.next_leaf.result in
    let f : Spot → Sight = spot_sight next roots in
    shows roots (named roots c.root_node-n.result) (slice_get (nodes roots) (c.args.root - 1)) is.1.0 c.args.asked c.args.most c.deepest-plies.result next
    (map f c.new-spots.result.items) (map sight_of c.in_ok-nodes.nodes.items) c.deepest-plies.ensures c.next_leaf.ensures (ap (map f) c.new-spots.ensures.items)
    (c.in_ok-nodes.ensures ∙ (ap (map f) c.deref.ensures.value ∙ c.in_ok-add_below.ensures.sights next))
