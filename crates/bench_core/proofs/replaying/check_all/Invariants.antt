use Rattle.std.proofs.Common.{◌≡◌, ◌++◌}
use Rattle.std.specs.Prelude.{All}
use Rattle.certificate_joiner.specs.Certified.{IsShelved}
use Rattle.bench_core.proofs.replaying.check_all.Given as goal

abbrev pub invariant-loop-c : goal.invariant-loop-c
invariant-loop-c g l = record {
  seen : l.proofs.items ++ l.c-iterator.rest.items ≡ l.fn.shown;
  shelved : All (IsShelved (g.O.Oracle.piece_limit l.oracle) l.p) l.proofs.items;
}
