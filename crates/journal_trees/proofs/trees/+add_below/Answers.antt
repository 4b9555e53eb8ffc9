use Rattle.std.proofs.Common.{◌≡◌, ◌∙◌, ◌+◌, ◌-◌, ◌<◌, ℕ, List, [], ◌∷◌, ◌++◌, Option, Some, length, take, rules, sym, ap, subst, arith, append-nil}
use Rattle.std.specs.Prelude.{All, map}
use Rattle.std.specs.List.{flat_map}
use Rattle.std.proofs.lemmas.List.{append_assoc, map-append, take_all}
use Rattle.std.proofs.lemmas.List.Elements.{All-push}
use Rattle.proof_tree.specs.Forest.{Node, nodes}
use Rattle.certificate_joiner.specs.Strategy.{IsNamed, named}
use Rattle.certificate_joiner.proofs.Named.{said_of, child_there, child_is}
use Rattle.journal_trees.specs.Sights.{Sight, sight, spot_sight}
use Rattle.journal_trees.specs.Trees.{node_sights}
use Rattle.journal_trees.specs.declared.nodes.Spot.{Spot}
use Rattle.journal_trees.proofs.SightLemmas.{position-is}
use Rattle.journal_trees.proofs.TreeLemmas.{below-all, flat-next, node_sights-none}
use Rattle.journal_trees.proofs.trees.+add_below.Goals as goal

pub returns-then-plies-eq0-clause-sights : goal.returns-then-plies-eq0-clause-sights
returns-then-plies-eq0-clause-sights t c next =
    let roots = c.args.tree.now.forest in
    let spot = c.args.spot.now in
    let f : Spot → Sight = spot_sight next roots in
    let old : List Sight = map f c.args.spots.now.items in
    ap (map f) c.in_ok-push.ensures.items
    ∙ (map-append f c.args.spots.now.items (spot ∷ [])
    ∙ ap (λ (l : List Sight). old ++ l) (sym (node_sights-none next c.args.plies spot.depth spot.above (named roots spot.node) c.if-plies-eq0.true)))

pub returns-then-plies-eq0-clause-each : goal.returns-then-plies-eq0-clause-each
returns-then-plies-eq0-clause-each t c =
    let P : Spot → Type 0 = λ s. IsNamed c.args.tree.now.forest s.node in
    subst (All P) (sym c.in_ok-push.ensures.items) (All-push P c.args.spots.now.items c.args.spot.now c.requires.each c.requires.there)

pub child-child-requires : goal.child-child-requires
child-child-requires t c =
    let roots = c.args.tree.now.forest in
    let n = c.args.spot.now.node in
    let many = said_of roots n (λ x. c.children-i-end.result ≡ length (nodes x.children)) c.requires.there c.children-i-end.ensures in
    let test = c.loop-i-test.true in
    child_there roots n c.loop-i.i c.requires.there (omega (arith, many, test))

pub add_below-requires : goal.add_below-requires
add_below-requires t c =
    let roots = c.args.tree.now.forest in
    let n = c.args.spot.now.node in
    let many = said_of roots n (λ x. c.children-i-end.result ≡ length (nodes x.children)) c.requires.there c.children-i-end.ensures in
    let test = c.loop-i-test.true in
    let is = child_is roots c.requires.sound n c.loop-i.i c.child-child.result c.requires.there (omega (arith, many, test)) c.child-child.ensures in
    let node : c.child_spot-below.result.node ≡ c.child-child.result = ap (λ (s : Spot). s.node) c.child_spot-below.ensures in
    let depth : c.child_spot-below.result.depth ≡ c.args.spot.now.depth + 1 = ap (λ (s : Spot). s.depth) c.child_spot-below.ensures in
    (search rules, (subst (IsNamed roots) (sym node) is.0, (c.requires.sound, (omega (arith, depth), c.loop-i.invariant.1))))

pub loop-i-init : goal.loop-i-init
loop-i-init t c =
    let P : Spot → Type 0 = λ s. IsNamed c.args.tree.now.forest s.node in (
      λ next. sym (append-nil (map (spot_sight next c.args.tree.now.forest) c.push.new.self.items)),
      subst (All P) (sym c.in_ok-push.ensures.items) (All-push P c.args.spots.now.items c.args.spot.now c.requires.each c.requires.there),
    )

pub loop-i-preserved : goal.loop-i-preserved
loop-i-preserved t c =
    let roots = c.args.tree.now.forest in
    let spot = c.args.spot.now in
    let n = spot.node in
    let many = said_of roots n (λ x. c.children-i-end.result ≡ length (nodes x.children)) c.requires.there c.children-i-end.ensures in
    let test = c.loop-i-test.true in
    let is = child_is roots c.requires.sound n c.loop-i.i c.child-child.result c.requires.there (omega (arith, many, test)) c.child-child.ensures in
    let xs = nodes (named roots n).children in
    let x = named roots c.child-child.result in
    let plies = c.args.plies - 1 in
    let below : Option ℕ → Node → List Sight = λ next. node_sights next plies (spot.depth + 1) (Some c.position-position.result) in
    let before : Option ℕ → List Sight = λ next. map (spot_sight next roots) c.push.new.self.items in
    let so_far : Option ℕ → List Sight = λ next. map (spot_sight next roots) c.loop-i.spots.items in (
      λ next. c.in_ok-add_below.ensures.sights next
          ∙ (ap (λ (s : Spot). so_far next ++ node_sights next plies s.depth s.above (named roots s.node)) c.child_spot-below.ensures
          ∙ (ap (λ (l : List Sight). l ++ below next x) (c.loop-i.invariant.0 next)
          ∙ (append_assoc (before next) (flat_map (below next) (take c.loop-i.i xs)) (below next x)
          ∙ ap (λ (l : List Sight). before next ++ l) (sym (flat-next next (below next) xs c.loop-i.i x is.1))))),
      c.in_ok-add_below.ensures.each,
    )

pub returns-clause-sights : goal.returns-clause-sights
returns-clause-sights t c next =
    let roots = c.args.tree.now.forest in
    let spot = c.args.spot.now in
    let n = spot.node in
    let many = said_of roots n (λ x. c.children-i-end.result ≡ length (nodes x.children)) c.requires.there c.children-i-end.ensures in
    let test = c.loop-i-test.false in
    let some : 0 < c.args.plies = omega arith in
    let x = named roots n in
    let xs = nodes x.children in
    let f : Spot → Sight = spot_sight next roots in
    let below : Node → List Sight = node_sights next (c.args.plies - 1) (spot.depth + 1) (Some c.position-position.result) in
    let old : List Sight = map f c.args.spots.now.items in
    let before : List Sight = map f c.push.new.self.items in
    let pushed : before ≡ old ++ sight next spot.depth spot.above x ∷ [] = ap (map f) c.in_ok-push.ensures.items ∙ map-append f c.args.spots.now.items (spot ∷ []) in
    let all : take c.loop-i.i xs ≡ xs = take_all c.loop-i.i xs (omega (arith, many, test)) in
    below-all next c.args.plies spot.depth spot.above x c.position-position.result old before (map f c.loop-i.spots.items) some
    (position-is roots n c.requires.there c.position-position.result c.position-position.ensures) pushed
    (c.loop-i.invariant.0 next ∙ ap (λ (l : List Node). before ++ flat_map below l) all)

pub returns-clause-each : goal.returns-clause-each
returns-clause-each t c = c.loop-i.invariant.1
