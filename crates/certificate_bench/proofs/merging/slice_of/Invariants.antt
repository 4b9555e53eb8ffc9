use Rattle.std.proofs.Common.{◌≡◌}
use Rattle.certificate_bench.proofs.merging.slice_of.Given as goal

abbrev pub invariant-loop-i : goal.invariant-loop-i
invariant-loop-i l = l.slice.side ≡ l.part.side
