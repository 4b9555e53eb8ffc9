use Rattle.std.proofs.Common.{◌≡◌, ◌-◌, length, take}
use Rattle.tree_manager.proofs.roots.forget_roots.Given as goal

abbrev pub invariant-loop : goal.invariant-loop
invariant-loop g l =
    (l.bench ≡ record l.fn.bench { staged = take (length l.fn.bench.staged - l.counter) l.fn.bench.staged })
    × (l.journal ≡ record l.fn.journal { staged = take (length l.fn.journal.staged - l.counter) l.fn.journal.staged })
