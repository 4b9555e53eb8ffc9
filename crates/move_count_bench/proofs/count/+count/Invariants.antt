use Rattle.std.proofs.Common.{◌≡◌, ◌-◌, take}
use Rattle.std.specs.Prelude.{sum_by}
use Rattle.draughts_board.specs.Rules.{after}
use Rattle.move_count_bench.specs.Lists.{lists_of}
use Rattle.move_count_bench.proofs.count.+count.Given as goal

abbrev pub decreases-count : goal.decreases-count
decreases-count l = l.n

abbrev pub invariant-loop-m : goal.invariant-loop-m
invariant-loop-m l = l.lists ≡ sum_by (λ path. lists_of (l.n - 1) (after l.p path)) (take l.m-index l.m-items)
