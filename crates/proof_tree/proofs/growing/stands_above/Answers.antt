use Rattle.std.proofs.Common.{ℕ, ◌<◌, Option, sym, subst, ◌∙◌}
use Rattle.proof_tree.proofs.Above.{IsClimbing, climb-step, climb-falls}
use Rattle.proof_tree.proofs.Mending.{steps_left}
use Rattle.proof_tree.proofs.growing.stands_above.Goals as goal

pub loop-at-smaller : goal.loop-at-smaller
loop-at-smaller c =
    subst (λ (p : Option ℕ). steps_left p < steps_left c.loop-at.at) (sym c.get-at.ensures)
    (climb-falls c.args.rows.now c.requires.linked c.args.from c.args.p.now c.loop-at.at c.in-Some.k c.in-Some.is c.loop-at.invariant
    c.index-rows-k.result c.index-rows-k.is)

pub loop-at-preserved : goal.loop-at-preserved
loop-at-preserved c =
    subst (IsClimbing c.args.rows.now c.args.from c.args.p.now) (sym c.get-at.ensures)
    (climb-step c.args.rows.now c.requires.linked c.args.from c.args.p.now c.loop-at.at c.in-Some.k c.in-Some.is c.loop-at.invariant
    c.index-rows-k.result c.index-rows-k.is (sym c.eq.ensures ∙ c.if-eq.false))
