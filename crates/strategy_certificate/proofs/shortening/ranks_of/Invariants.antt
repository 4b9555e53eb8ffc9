use Rattle.std.proofs.Common.{◌≡◌, ◌++◌, drop}
use Rattle.strategy_certificate.specs.ShortRanks.{ranks_of}
use Rattle.strategy_certificate.proofs.shortening.ranks_of.Given as goal

abbrev pub invariant-loop-p : goal.invariant-loop-p
invariant-loop-p l = l.ranks.items ++ ranks_of (drop l._p-index l._p-items) ≡ ranks_of l._p-items
