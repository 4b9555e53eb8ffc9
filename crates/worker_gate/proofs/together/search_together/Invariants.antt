use Rattle.std.specs.VecDeque.{deque_items}
use Rattle.worker_gate.proofs.TogetherLemmas.{IsFoundSoFar}
use Rattle.worker_gate.proofs.together.search_together.Given as goal

abbrev pub invariant-loop-part : goal.invariant-loop-part
invariant-loop-part g l = IsFoundSoFar deque_items l.leases l.found.items l.part-iterator.rest.items
