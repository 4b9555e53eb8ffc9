use Rattle.std.proofs.Common.{arith}
use Rattle.std.proofs.lemmas.Grind.{common_steps}
use Rattle.bench_edges.proofs.KnownBytes.{Appends-append, take-add_slice}
use Rattle.bench_edges.proofs.sink.write_all.Goals as goal

pub loop-at-preserved : goal.loop-at-preserved
loop-at-preserved g c = record {
  within = grind (arith, common_steps);
  written = rw (← take-add_slice c.args.bytes.now c.loop-at.at c.in_ok-at.field-0 c.loop-at.invariant.within) (Appends-append _ _ _ _ _ c.loop-at.invariant.written c.in_ok-at.ensures.taken);
  count = grind (arith, common_steps);
}
