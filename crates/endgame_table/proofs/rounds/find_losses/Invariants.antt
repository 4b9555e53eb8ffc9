use Rattle.std.proofs.Common.{drop}
use Rattle.std.specs.Prelude.{flat_map}
use Rattle.endgame_table.specs.Rounds.{loss}
use Rattle.endgame_table.specs.Origins.{origins_at}
use Rattle.endgame_table.proofs.MarkLastLemmas.{MarksLastRest}
use Rattle.endgame_table.proofs.rounds.find_losses.Given as goal

abbrev pub invariant-loop-target : goal.invariant-loop-target
invariant-loop-target l =
    MarksLastRest (loss l.rank) (flat_map (origins_at l.origins) l.won) (flat_map (origins_at l.origins) (drop l.target-index l.won)) l.initial.waiting l.waiting l.initial.numbers l.numbers l.initial.lost.items l.lost.items
