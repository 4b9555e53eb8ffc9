use Rattle.std.proofs.Common.{ℕ, ◌<◌, Option, sym, subst}
use Rattle.proof_tree.proofs.Mending.{links_now, few_now, counted_now, falls, mending_step, IsMending, steps_left}
use Rattle.proof_tree.proofs.numbering.mend.Goals as goal

pub numbers_of-black-requires-clause-linked : goal.numbers_of-black-requires-clause-linked
numbers_of-black-requires-clause-linked c =
    links_now c.args.rows.now c.loop-at.rows c.requires.linked c.loop-at.at c.in-Some.k c.in-Some.is c.loop-at.invariant

pub numbers_of-black-requires-clause-few : goal.numbers_of-black-requires-clause-few
numbers_of-black-requires-clause-few c =
    few_now c.args.rows.now c.loop-at.rows c.requires.linked c.loop-at.at c.in-Some.k c.in-Some.is c.loop-at.invariant c.requires.few

pub numbers_of-black-requires-clause-counted : goal.numbers_of-black-requires-clause-counted
numbers_of-black-requires-clause-counted c =
    counted_now c.args.rows.now c.loop-at.rows c.requires.linked c.loop-at.at c.in-Some.k c.in-Some.is c.loop-at.invariant c.requires.counted

pub numbers_of-white-requires-clause-linked : goal.numbers_of-white-requires-clause-linked
numbers_of-white-requires-clause-linked c =
    links_now c.args.rows.now c.loop-at.rows c.requires.linked c.loop-at.at c.in-Some.k c.in-Some.is c.loop-at.invariant

pub numbers_of-white-requires-clause-few : goal.numbers_of-white-requires-clause-few
numbers_of-white-requires-clause-few c =
    few_now c.args.rows.now c.loop-at.rows c.requires.linked c.loop-at.at c.in-Some.k c.in-Some.is c.loop-at.invariant c.requires.few

pub numbers_of-white-requires-clause-counted : goal.numbers_of-white-requires-clause-counted
numbers_of-white-requires-clause-counted c =
    counted_now c.args.rows.now c.loop-at.rows c.requires.linked c.loop-at.at c.in-Some.k c.in-Some.is c.loop-at.invariant c.requires.counted

pub loop-at-smaller : goal.loop-at-smaller
loop-at-smaller c =
    subst (λ (p : Option ℕ). steps_left p < steps_left c.loop-at.at) (sym c.get-at.ensures)
    (falls c.args.rows.now c.loop-at.rows c.requires.linked c.loop-at.at c.in-Some.k c.in-Some.is c.loop-at.invariant c.index-rows-k.result)

pub loop-at-preserved : goal.loop-at-preserved
loop-at-preserved c =
    subst (IsMending c.args.rows.now _) (sym c.get-at.ensures)
    (mending_step c.args.rows.now c.loop-at.rows c.requires.linked c.loop-at.at c.in-Some.k c.in-Some.is c.loop-at.invariant
    c.index-rows-k.result c.numbers_of-black.result c.numbers_of-white.result c.numbers_of-black.ensures
    c.numbers_of-white.ensures)
