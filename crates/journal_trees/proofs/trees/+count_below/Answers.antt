use Rattle.std.proofs.Common.{◌≡◌, ◌∙◌, ◌-◌, ◌<◌, length, rules, sym, arith}
use Rattle.proof_tree.specs.Forest.{nodes}
use Rattle.certificate_joiner.specs.Strategy.{named}
use Rattle.certificate_joiner.proofs.Named.{said_of, child_there, child_is}
use Rattle.journal_trees.proofs.TreeLemmas.{count-all, count-fits, node_count-none, sum-next}
use Rattle.journal_trees.proofs.trees.+count_below.Goals as goal

pub returns-then-plies-eq0 : goal.returns-then-plies-eq0
returns-then-plies-eq0 t c = sym (node_count-none c.args.plies (named c.args.tree.now.forest c.args.n) c.if-plies-eq0.true)

pub child-child-requires : goal.child-child-requires
child-child-requires t c =
    let roots = c.args.tree.now.forest in
    let many = said_of roots c.args.n (λ x. c.children-place-end.result ≡ length (nodes x.children)) c.requires.there c.children-place-end.ensures in
    let test = c.loop-place-test.true in
    child_there roots c.args.n c.loop-place.place c.requires.there (omega (arith, many, test))

pub count_below-below-requires : goal.count_below-below-requires
count_below-below-requires t c =
    let roots = c.args.tree.now.forest in
    let many = said_of roots c.args.n (λ x. c.children-place-end.result ≡ length (nodes x.children)) c.requires.there c.children-place-end.ensures in
    let test = c.loop-place-test.true in
    let is = child_is roots c.requires.sound c.args.n c.loop-place.place c.child-child.result c.requires.there (omega (arith, many, test)) c.child-child.ensures in
    (search rules, (is.0, (c.requires.sound, c.requires.few)))

pub overflow_add-count : goal.overflow_add-count
overflow_add-count t c =
    let roots = c.args.tree.now.forest in
    let many = said_of roots c.args.n (λ x. c.children-place-end.result ≡ length (nodes x.children)) c.requires.there c.children-place-end.ensures in
    let test = c.loop-place-test.true in
    let is = child_is roots c.requires.sound c.args.n c.loop-place.place c.child-child.result c.requires.there (omega (arith, many, test)) c.child-child.ensures in
    let some : 0 < c.args.plies = omega arith in
    let fits = count-fits roots c.args.n c.args.plies c.loop-place.place some c.requires.there (named roots c.child-child.result) is.1 c.requires.few in
    let so_far = c.loop-place.invariant in
    let here = c.count_below-below.ensures in
    omega (arith, fits, so_far, here)

pub loop-place-preserved : goal.loop-place-preserved
loop-place-preserved t c =
    let roots = c.args.tree.now.forest in
    let many = said_of roots c.args.n (λ x. c.children-place-end.result ≡ length (nodes x.children)) c.requires.there c.children-place-end.ensures in
    let test = c.loop-place-test.true in
    let is = child_is roots c.requires.sound c.args.n c.loop-place.place c.child-child.result c.requires.there (omega (arith, many, test)) c.child-child.ensures in
    let some : 0 < c.args.plies = omega arith in
    let more = sum-next roots c.args.n c.args.plies c.loop-place.place some c.requires.there (named roots c.child-child.result) is.1 in
    let so_far = c.loop-place.invariant in
    let here = c.count_below-below.ensures in
    omega (arith, more, so_far, here)

pub returns : goal.returns
returns t c =
    let roots = c.args.tree.now.forest in
    let many = said_of roots c.args.n (λ x. c.children-place-end.result ≡ length (nodes x.children)) c.requires.there c.children-place-end.ensures in
    let test = c.loop-place-test.false in
    let some : 0 < c.args.plies = omega arith in
    c.loop-place.invariant ∙ count-all c.args.plies c.loop-place.place (named roots c.args.n) some (omega (arith, many, test))
