use Rattle.std.proofs.Common.{length, reverse, [], ◌++◌}
use Rattle.bench_core.specs.Naming.{AreNamesOf}
use Rattle.bench_core.proofs.ApplyLemmas.{IsApplying}
use Rattle.bench_core.proofs.bench.Bench.apply_staged.Given as goal

abbrev pub invariant-loop-item : goal.invariant-loop-item
invariant-loop-item l = record {
  applying : IsApplying l.fn.self l.self-inside.grown l.self-inside.leases (reverse l.self-inside.staged.items) l.self-inside.given l.self-inside.work l.self-inside.nodes_due l.self-inside.settings;
  names : AreNamesOf (l.fn.self.records ++ l.fn.self.staged) [] l.self-inside.names;
}

abbrev pub decreases-loop-item : goal.decreases-loop-item
decreases-loop-item l = length l.self-inside.staged.items
