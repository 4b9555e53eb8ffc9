use Rattle.std.proofs.Common.{◌≡◌, ◌++◌}
use Rattle.bench_core.proofs.shown.certificates_of.Given as goal

abbrev pub invariant-loop-proved : goal.invariant-loop-proved
invariant-loop-proved l = l.list.items ++ l.proved-iterator.rest.items ≡ l.fn.proofs
