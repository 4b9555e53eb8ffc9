use Rattle.std.proofs.Common.{◌≡◌, ◌<◌, ◌∙◌, length, arith}
use Rattle.certificate_joiner.specs.Strategy.{named}
use Rattle.certificate_joiner.proofs.Named.{child_is, number_named, said_of}
use Rattle.proof_tree.specs.Forest.{nodes}
use Rattle.root_work.proofs.Walks.{numbers_more}
use Rattle.root_work.proofs.roots.push_children.Goals as goal

pub loop-place-preserved : goal.loop-place-preserved
loop-place-preserved c =
    let roots = c.args.tree.now.forest in
    let n = c.args.node in
    let many : c.children-place-end.result ≡ length (nodes (named roots n).children) = said_of roots n (λ x. c.children-place-end.result ≡ length (nodes x.children)) c.requires.there c.children-place-end.ensures in
    let within : c.loop-place.place < length (nodes (named roots n).children) = omega (arith, many, c.loop-place-test.true) in
    let is = child_is roots c.requires.sound n c.loop-place.place c.child-child.result c.requires.there within c.child-child.ensures in
    c.in_ok-push.ensures.items ∙ numbers_more _ _ (nodes (named roots n).children) c.loop-place.place c.child-child.result (named roots c.child-child.result) within is.1 (number_named roots c.child-child.result is.0) c.loop-place.invariant
