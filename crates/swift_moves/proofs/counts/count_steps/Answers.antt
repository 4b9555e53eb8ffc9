use Rattle.std.proofs.Common.{◌≡◌, ℕ, ◌+◌, ◌∙◌, arith}
use Rattle.swift_moves.proofs.StepCounts.{steps_counted}
use Rattle.swift_moves.proofs.counts.count_steps.Goals as goal

from_left : (a b c d : ℕ) → a + b + c + d ≡ a + (b + (c + d))
from_left a b c d = omega arith

pub returns : goal.returns
returns c p forces =
    from_left _ _ _ _
    ∙ steps_counted p c.args.f.now forces c.before-2.result c.before-3.result c.before-4.result c.before-5.result
    c.going-up_left.result c.going-up_right.result c.going-down_left.result c.going-down_right.result
    c.going-up_left.type_inv c.going-up_right.type_inv c.going-down_left.type_inv c.going-down_right.type_inv
    c.before-2.ensures c.before-3.ensures c.before-4.ensures c.before-5.ensures
    c.going-up_left.ensures c.going-up_right.ensures c.going-down_left.ensures c.going-down_right.ensures
