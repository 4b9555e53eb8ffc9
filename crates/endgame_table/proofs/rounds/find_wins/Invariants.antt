use Rattle.std.proofs.Common.{drop}
use Rattle.std.specs.Prelude.{flat_map}
use Rattle.endgame_table.specs.Rounds.{win}
use Rattle.endgame_table.specs.Origins.{origins_at}
use Rattle.endgame_table.proofs.MarkLemmas.{MarksRest}
use Rattle.endgame_table.proofs.rounds.find_wins.Given as goal

abbrev pub invariant-loop-target : goal.invariant-loop-target
invariant-loop-target l =
    MarksRest (win l.rank) (flat_map (origins_at l.origins) l.lost) (flat_map (origins_at l.origins) (drop l.target-index l.lost)) l.initial.numbers l.numbers l.initial.won.items l.won.items
