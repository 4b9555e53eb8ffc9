use Rattle.std.proofs.Common.{◌+◌, ◌-◌, ◌≤◌, length}
use Rattle.certificate_lines.specs.Steps.{PlaysOn}
use Rattle.certificate_lines.proofs.variations.play_on.Given as goal

abbrev pub invariant-loop-end : goal.invariant-loop-end
invariant-loop-end g l =
    PlaysOn (g.O.Oracle.answer_at l.oracle) l.part l.fork.position l.fork.rank l.path l.moves.items l.end l.rank
    × (l.fork.behind + length l.moves.items ≤ l.varied)

abbrev pub decreases-loop-end : goal.decreases-loop-end
decreases-loop-end g l = l.varied - (l.fork.behind + length l.moves.items)
