use Rattle.std.proofs.Common.{◌≡◌, ◌∙◌, ◌+◌, ◌∷◌, [], false, true, sym, subst, take, drop, length, arith}
use Rattle.proof_tree.specs.Forest.{nodes}
use Rattle.certificate_joiner.specs.Strategy.{named, is_due, first_due}
use Rattle.certificate_joiner.proofs.DueLemmas.{first_due-at}
use Rattle.certificate_joiner.proofs.ListLemmas.{read_split, read_more, read_all}
use Rattle.certificate_joiner.proofs.Named.{said_of, child_there, child_is}
use Rattle.certificate_joiner.proofs.collecting.due_child.Goals as goal

pub child-c-requires : goal.child-c-requires
child-c-requires c =
    let roots = c.args.tree.now.forest in
    let many = said_of roots c.args.n (λ x. c.children-i-end.result ≡ length (nodes x.children)) c.requires.there c.children-i-end.ensures in
    let test = c.loop-i-test.true in
    child_there roots c.args.n c.loop-i.i c.requires.there (omega (arith, many, test))

pub is_due-requires : goal.is_due-requires
is_due-requires c =
    let roots = c.args.tree.now.forest in
    let many = said_of roots c.args.n (λ x. c.children-i-end.result ≡ length (nodes x.children)) c.requires.there c.children-i-end.ensures in
    let test = c.loop-i-test.true in
    (child_is roots c.requires.sound c.args.n c.loop-i.i c.child-c.result c.requires.there (omega (arith, many, test)) c.child-c.ensures).0

pub returns-then-is_due : goal.returns-then-is_due
returns-then-is_due c =
    let roots = c.args.tree.now.forest in
    let many = said_of roots c.args.n (λ x. c.children-i-end.result ≡ length (nodes x.children)) c.requires.there c.children-i-end.ensures in
    let test = c.loop-i-test.true in
    let is = child_is roots c.requires.sound c.args.n c.loop-i.i c.child-c.result c.requires.there (omega (arith, many, test)) c.child-c.ensures in
    let xs = nodes (named roots c.args.n).children in
    let x = named roots c.child-c.result in
    let t : is_due c.args.quest.aim c.args.quest.side x ≡ true = sym c.is_due.ensures ∙ c.if-is_due.true in (
      is.0,
      subst (λ l. first_due c.args.quest.aim c.args.quest.side l ≡ x ∷ []) (sym (read_split xs c.loop-i.i x is.1))
          (first_due-at c.args.quest.aim c.args.quest.side (take c.loop-i.i xs) x (drop (c.loop-i.i + 1) xs) c.loop-i.invariant t),
    )

pub loop-i-preserved : goal.loop-i-preserved
loop-i-preserved c =
    let roots = c.args.tree.now.forest in
    let many = said_of roots c.args.n (λ x. c.children-i-end.result ≡ length (nodes x.children)) c.requires.there c.children-i-end.ensures in
    let test = c.loop-i-test.true in
    let is = child_is roots c.requires.sound c.args.n c.loop-i.i c.child-c.result c.requires.there (omega (arith, many, test)) c.child-c.ensures in
    read_more (nodes (named roots c.args.n).children) c.loop-i.i (named roots c.child-c.result) is.1 (λ x. is_due c.args.quest.aim c.args.quest.side x ≡ false) c.loop-i.invariant
    (sym c.is_due.ensures ∙ c.if-is_due.false)

pub returns : goal.returns
returns c =
    let roots = c.args.tree.now.forest in
    let many = said_of roots c.args.n (λ x. c.children-i-end.result ≡ length (nodes x.children)) c.requires.there c.children-i-end.ensures in
    let test = c.loop-i-test.false in
    read_all (λ x. is_due c.args.quest.aim c.args.quest.side x ≡ false) (nodes (named roots c.args.n).children) c.loop-i.i (omega (arith, many, test)) c.loop-i.invariant
