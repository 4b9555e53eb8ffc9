use Rattle.std.proofs.Common.{◌≡◌, take}
use Rattle.worker_gate.specs.Found.{AreFoundOf}
use Rattle.worker_gate.proofs.together.search_part.Given as goal

abbrev pub invariant-loop-lease : goal.invariant-loop-lease
invariant-loop-lease g l = record {
  memo : l.memo ≡ g.O.Oracle.piece_limit l.oracle;
  found : AreFoundOf (take l.lease-index l.leases) l.found.items;
}
