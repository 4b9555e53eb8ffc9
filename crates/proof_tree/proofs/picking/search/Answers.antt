use Rattle.std.proofs.Common.{sym, ◌∙◌}
use Rattle.proof_tree.specs.Rows.{nodes_from}
use Rattle.proof_tree.proofs.Meaning.{IsMeaning-nodes}
use Rattle.proof_tree.proofs.Climbing.{walk-start, walk-leaf, walk-found, walk-busy, walk-repeats, walk-down, walk-root, walk-orphan, walk-up, parent_read}
use Rattle.proof_tree.proofs.picking.search.Goals as goal

pub walk-init : goal.walk-init
walk-init g c = walk-start c.args.rows.now c.requires.linked c.args.goal c.requires.fits (nodes_from 0 c.args.rows.now) (IsMeaning-nodes c.args.rows.now c.requires.linked) (g.T.Taken.taken c.args.taken.now) c.args.root c.requires.inside

pub returns-then-not-is_taken : goal.returns-then-not-is_taken
returns-then-not-is_taken g c =
    sym (walk-leaf c.args.rows.now c.requires.linked c.args.goal c.requires.fits (nodes_from 0 c.args.rows.now) (IsMeaning-nodes c.args.rows.now c.requires.linked) (g.T.Taken.taken c.args.taken.now) c.args.root c.requires.inside c.requires.open c.requires.inner
    ∙ walk-found c.args.rows.now c.requires.linked c.args.goal c.requires.fits (nodes_from 0 c.args.rows.now) (IsMeaning-nodes c.args.rows.now c.requires.linked) (g.T.Taken.taken c.args.taken.now) c.args.root c.requires.top c.walk.at c.walk.last c.walk.invariant c.goal_moves-by_proof.result c.goal_moves-by_proof.ensures c.in-Some.c _ c.in-Some.ensures c.in-Unexpanded.is (sym c.is_taken.ensures ∙ c.if-not-is_taken.true))

pub walk-preserved-in-Unexpanded : goal.walk-preserved-in-Unexpanded
walk-preserved-in-Unexpanded g c =
    (walk-busy c.args.rows.now c.requires.linked c.args.goal c.requires.fits (nodes_from 0 c.args.rows.now) (IsMeaning-nodes c.args.rows.now c.requires.linked) (g.T.Taken.taken c.args.taken.now) c.args.root c.requires.top c.walk.at c.walk.last c.walk.invariant c.goal_moves-by_proof.result c.goal_moves-by_proof.ensures c.in-Some.c _ c.in-Some.ensures c.in-Unexpanded.is (sym c.is_taken.ensures ∙ c.if-not-is_taken.false)).0

pub walk-smaller-in-Unexpanded : goal.walk-smaller-in-Unexpanded
walk-smaller-in-Unexpanded g c =
    (walk-busy c.args.rows.now c.requires.linked c.args.goal c.requires.fits (nodes_from 0 c.args.rows.now) (IsMeaning-nodes c.args.rows.now c.requires.linked) (g.T.Taken.taken c.args.taken.now) c.args.root c.requires.top c.walk.at c.walk.last c.walk.invariant c.goal_moves-by_proof.result c.goal_moves-by_proof.ensures c.in-Some.c _ c.in-Some.ensures c.in-Unexpanded.is (sym c.is_taken.ensures ∙ c.if-not-is_taken.false)).1

pub walk-preserved-in-Expanded : goal.walk-preserved-in-Expanded
walk-preserved-in-Expanded g c = (walk-down c.args.rows.now c.requires.linked c.args.goal c.requires.fits (nodes_from 0 c.args.rows.now) (IsMeaning-nodes c.args.rows.now c.requires.linked) (g.T.Taken.taken c.args.taken.now) c.args.root c.requires.top c.walk.at c.walk.last c.walk.invariant c.goal_moves-by_proof.result c.goal_moves-by_proof.ensures c.in-Some.c _ c.in-Some.ensures c.in-Expanded.is).0

pub walk-smaller-in-Expanded : goal.walk-smaller-in-Expanded
walk-smaller-in-Expanded g c = (walk-down c.args.rows.now c.requires.linked c.args.goal c.requires.fits (nodes_from 0 c.args.rows.now) (IsMeaning-nodes c.args.rows.now c.requires.linked) (g.T.Taken.taken c.args.taken.now) c.args.root c.requires.top c.walk.at c.walk.last c.walk.invariant c.goal_moves-by_proof.result c.goal_moves-by_proof.ensures c.in-Some.c _ c.in-Some.ensures c.in-Expanded.is).1

pub walk-preserved-in-Repeats : goal.walk-preserved-in-Repeats
walk-preserved-in-Repeats g c = (walk-repeats c.args.rows.now c.requires.linked c.args.goal c.requires.fits (nodes_from 0 c.args.rows.now) (IsMeaning-nodes c.args.rows.now c.requires.linked) (g.T.Taken.taken c.args.taken.now) c.args.root c.requires.top c.walk.at c.walk.last c.walk.invariant c.goal_moves-by_proof.result c.goal_moves-by_proof.ensures c.in-Some.c _ c.in-Some.ensures c.in-Repeats.is).0

pub walk-smaller-in-Repeats : goal.walk-smaller-in-Repeats
walk-smaller-in-Repeats g c = (walk-repeats c.args.rows.now c.requires.linked c.args.goal c.requires.fits (nodes_from 0 c.args.rows.now) (IsMeaning-nodes c.args.rows.now c.requires.linked) (g.T.Taken.taken c.args.taken.now) c.args.root c.requires.top c.walk.at c.walk.last c.walk.invariant c.goal_moves-by_proof.result c.goal_moves-by_proof.ensures c.in-Some.c _ c.in-Some.ensures c.in-Repeats.is).1

pub returns-then-at-root : goal.returns-then-at-root
returns-then-at-root g c =
    sym (walk-leaf c.args.rows.now c.requires.linked c.args.goal c.requires.fits (nodes_from 0 c.args.rows.now) (IsMeaning-nodes c.args.rows.now c.requires.linked) (g.T.Taken.taken c.args.taken.now) c.args.root c.requires.inside c.requires.open c.requires.inner
    ∙ walk-root c.args.rows.now c.requires.linked c.args.goal c.requires.fits (nodes_from 0 c.args.rows.now) (IsMeaning-nodes c.args.rows.now c.requires.linked) (g.T.Taken.taken c.args.taken.now) c.args.root c.walk.at c.walk.last c.walk.invariant c.goal_moves-by_proof.result c.goal_moves-by_proof.ensures c.in-None.ensures c.if-at-root.true)

pub walk-preserved : goal.walk-preserved
walk-preserved g c =
    (walk-up c.args.rows.now c.requires.linked c.args.goal c.requires.fits (nodes_from 0 c.args.rows.now) (IsMeaning-nodes c.args.rows.now c.requires.linked) (g.T.Taken.taken c.args.taken.now) c.args.root c.walk.at c.walk.last c.walk.invariant c.goal_moves-by_proof.result c.goal_moves-by_proof.ensures c.in-None.ensures c.in-Some-get.p c.if-at-root.false
    (parent_read c.args.rows.now c.walk.at c.walk.invariant.inside _ _ (sym c.get.ensures ∙ c.in-Some-get.is))).0

pub walk-smaller : goal.walk-smaller
walk-smaller g c =
    (walk-up c.args.rows.now c.requires.linked c.args.goal c.requires.fits (nodes_from 0 c.args.rows.now) (IsMeaning-nodes c.args.rows.now c.requires.linked) (g.T.Taken.taken c.args.taken.now) c.args.root c.walk.at c.walk.last c.walk.invariant c.goal_moves-by_proof.result c.goal_moves-by_proof.ensures c.in-None.ensures c.in-Some-get.p c.if-at-root.false
    (parent_read c.args.rows.now c.walk.at c.walk.invariant.inside _ _ (sym c.get.ensures ∙ c.in-Some-get.is))).1

pub returns-in-None-get : goal.returns-in-None-get
returns-in-None-get g c =
    sym (walk-leaf c.args.rows.now c.requires.linked c.args.goal c.requires.fits (nodes_from 0 c.args.rows.now) (IsMeaning-nodes c.args.rows.now c.requires.linked) (g.T.Taken.taken c.args.taken.now) c.args.root c.requires.inside c.requires.open c.requires.inner
    ∙ walk-orphan c.args.rows.now c.requires.linked c.args.goal c.requires.fits (nodes_from 0 c.args.rows.now) (IsMeaning-nodes c.args.rows.now c.requires.linked) (g.T.Taken.taken c.args.taken.now) c.args.root c.walk.at c.walk.last c.walk.invariant c.goal_moves-by_proof.result c.goal_moves-by_proof.ensures c.in-None.ensures (parent_read c.args.rows.now c.walk.at c.walk.invariant.inside _ _ (sym c.get.ensures ∙ c.in-None-get.is)))
