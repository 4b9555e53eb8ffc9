use Rattle.tree_manager.proofs.RootLemmas.{bench_fewer, journal_fewer}
use Rattle.tree_manager.proofs.roots.forget_roots.Goals as goal

pub loop-preserved : goal.loop-preserved
loop-preserved g c = (
  bench_fewer c.args.bench.now c.loop.bench c.forget_ready.new.self c.args.count c.loop.counter c.loop.invariant.0 c.loop-test.true c.requires.some c.requires.roots c.requires.live c.forget_ready.ensures,
  journal_fewer c.args.journal.now c.loop.journal c.unstage.new.self c.args.count c.loop.counter c.loop.invariant.1 c.loop-test.true c.requires.texts c.unstage.ensures.staged c.unstage.ensures.rest,
)
