use Rattle.std.proofs.Common.{◌∙◌, ap, arith}
use Rattle.bench_core.specs.States.{SessionSettings}
use Rattle.journal_runs.proofs.TurnLemmas.{grows_then}
use Rattle.journal_runs.proofs.alone.work_alone.Goals as goal

pub loop-ended-smaller : goal.loop-ended-smaller
loop-ended-smaller g c =
    omega (arith, ap (λ (s : SessionSettings). s.budget) c.settle_leaf.ensures.settings, c.in_default.ensures.unspent, c.in_default.ensures.one_more)

pub loop-ended-preserved : goal.loop-ended-preserved
loop-ended-preserved g c = (
  c.in_default.ensures.idle,
  (
    c.settle_leaf.ensures.settings ∙ c.loop-ended.invariant.1.0,
    (c.settle_leaf.ensures.memo ∙ c.loop-ended.invariant.1.1.0, grows_then _ _ _ c.loop-ended.invariant.1.1.1 c.settle_leaf.ensures.grows),
  ),
)

pub returns-in-Some-clause-grows : goal.returns-in-Some-clause-grows
returns-in-Some-clause-grows g c = grows_then _ _ _ c.loop-ended.invariant.1.1.1 c.settle_leaf.ensures.grows
