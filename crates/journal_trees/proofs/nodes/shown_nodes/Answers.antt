use Rattle.std.proofs.Common.{◌≡◌, ◌∙◌, List, [], ◌∷◌, ◌++◌, take, sym, ap, subst}
use Rattle.std.specs.Prelude.{map}
use Rattle.std.proofs.lemmas.List.{map-append, take_all}
use Rattle.certificate_joiner.specs.Strategy.{IsNamed}
use Rattle.journal_trees.specs.Sights.{Sight, path_to, sight_of, spot_sight}
use Rattle.journal_trees.specs.declared.nodes.Spot.{Spot}
use Rattle.journal_trees.proofs.SightLemmas.{position-is}
use Rattle.journal_trees.proofs.TreeLemmas.{map-next}
use Rattle.journal_trees.proofs.nodes.shown_nodes.Goals as goal

pub position-position-requires : goal.position-position-requires
position-position-requires c =
    subst (λ (s : Spot). IsNamed c.args.tree.now.forest s.node) (sym c.spot-item.is) (c.requires c.loop-spot.spot-index c.spot-item.result c.loop-spot-test.true)

pub shown_node-node-requires : goal.shown_node-node-requires
shown_node-node-requires c =
    let roots = c.args.tree.now.forest in
    let spot = c.spot-item.result in
    let there : IsNamed roots spot.node = subst (λ (s : Spot). IsNamed roots s.node) (sym c.spot-item.is) (c.requires c.loop-spot.spot-index c.spot-item.result c.loop-spot-test.true) in
    record { there = there; path = c.in_ok-path.ensures ∙ ap (path_to spot.above) (position-is roots spot.node there c.position-position.result c.position-position.ensures) }

pub loop-spot-preserved : goal.loop-spot-preserved
loop-spot-preserved c =
    let f : Spot → Sight = spot_sight c.args.next c.args.tree.now.forest in
    let spot = c.spot-item.result in
    let before : List Sight = map f (take c.loop-spot.spot-index c.args.spots.now) in
    ap (map sight_of) c.in_ok-push.ensures.items
    ∙ (map-append sight_of c.loop-spot.nodes.items (c.shown_node-node.result ∷ [])
    ∙ (ap (λ (l : List Sight). l ++ sight_of c.shown_node-node.result ∷ []) c.loop-spot.invariant
    ∙ (ap (λ (s : Sight). before ++ s ∷ []) c.shown_node-node.ensures
    ∙ sym (map-next f c.args.spots.now c.loop-spot.spot-index spot c.loop-spot-test.true c.spot-item.is))))

pub returns : goal.returns
returns c =
    let f : Spot → Sight = spot_sight c.args.next c.args.tree.now.forest in
    c.loop-spot.invariant ∙ ap (map f) (take_all c.loop-spot.spot-index c.args.spots.now c.loop-spot-test.false)
