use Rattle.std.proofs.Common.{arith, sym}
use Rattle.leaf_search.proofs.holds.some_fails.Goals as goal

pub returns-then-fails_at_once : goal.returns-then-fails_at_once
returns-then-fails_at_once g c =
    let fails = rw (c.if-fails_at_once.true, c.apply-next.ensures) at c.fails_at_once.ensures in
    (c.loop-m.m-index, c.m-item.result, omega arith, sym c.m-item.is, fails)
