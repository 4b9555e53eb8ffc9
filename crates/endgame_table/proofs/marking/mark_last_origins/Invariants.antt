use Rattle.std.proofs.Common.{◌≤◌, ◌<◌, length}
use Rattle.std.specs.Prelude.{All}
use Rattle.endgame_table.specs.Origins.{origins_from}
use Rattle.endgame_table.proofs.MarkLastLemmas.{MarksLastRest}
use Rattle.endgame_table.proofs.marking.mark_last_origins.Given as goal

abbrev pub invariant-loop-place : goal.invariant-loop-place
invariant-loop-place l =
    MarksLastRest l.number (origins_from l.links l.initial.place) (origins_from l.links l.place) l.initial.waiting l.waiting l.initial.numbers l.numbers l.initial.found.items l.found.items
    × ((l.place ≤ length l.links) × All (λ i. i < length l.numbers) (origins_from l.links l.place))

abbrev pub decreases-loop-place : goal.decreases-loop-place
decreases-loop-place l = l.place
