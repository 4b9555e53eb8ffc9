use Rattle.std.proofs.Common.{◌≡◌, take}
use Rattle.std.specs.Prelude.{flat_map}
use Rattle.draughts_board.specs.Play.{steps_from}
use Rattle.draughts_rules.proofs.steps.steps.Given as goal

abbrev pub invariant-loop-from : goal.invariant-loop-from
invariant-loop-from l = l.found.items ≡ flat_map (steps_from l.p) (take l.from-index l.own)
