use Rattle.std.proofs.Common.{◌≡◌, [], sym, subst, refl, arith, length}
use Rattle.std.proofs.lemmas.List.{append-nil, take_all}
use Rattle.std.proofs.lemmas.List.Elements.{All-nil}
use Rattle.proof_tree.specs.Forest.{nodes}
use Rattle.certificate_joiner.specs.Strategy.{named, IsNamed, Added}
use Rattle.certificate_joiner.proofs.ListLemmas.{added_more}
use Rattle.certificate_joiner.proofs.Named.{said_of, child_there, child_is}
use Rattle.certificate_joiner.proofs.collecting.add_children.Goals as goal

pub child-requires : goal.child-requires
child-requires c =
    let roots = c.args.tree.now.forest in
    let many = said_of roots c.args.n (λ x. c.children-i-end.result ≡ length (nodes x.children)) c.requires.there c.children-i-end.ensures in
    let test = c.loop-i-test.true in
    child_there roots c.args.n c.loop-i.i c.requires.there (omega (arith, many, test))

pub loop-i-init : goal.loop-i-init
loop-i-init c = ([], (sym (append-nil c.args.to.now.items), (All-nil (IsNamed c.args.tree.now.forest), refl)))

pub loop-i-preserved : goal.loop-i-preserved
loop-i-preserved c =
    let roots = c.args.tree.now.forest in
    let many = said_of roots c.args.n (λ x. c.children-i-end.result ≡ length (nodes x.children)) c.requires.there c.children-i-end.ensures in
    let test = c.loop-i-test.true in
    let is = child_is roots c.requires.sound c.args.n c.loop-i.i c.child.result c.requires.there (omega (arith, many, test)) c.child.ensures in
    added_more (named roots) (IsNamed roots) c.args.to.now.items c.loop-i.to.items c.push.new.self.items c.child.result c.loop-i.i (nodes (named roots c.args.n).children)
    c.loop-i.invariant c.in_ok-push.ensures.items is.0 is.1

pub returns : goal.returns
returns c =
    let roots = c.args.tree.now.forest in
    let many = said_of roots c.args.n (λ x. c.children-i-end.result ≡ length (nodes x.children)) c.requires.there c.children-i-end.ensures in
    let test = c.loop-i-test.false in
    subst (Added (named roots) (IsNamed roots) c.args.to.now.items c.loop-i.to.items) (take_all c.loop-i.i (nodes (named roots c.args.n).children) (omega (arith, many, test))) c.loop-i.invariant
