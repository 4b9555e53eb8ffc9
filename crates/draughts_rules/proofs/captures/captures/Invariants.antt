use Rattle.std.proofs.Common.{◌≡◌, ◌∷◌, [], take}
use Rattle.std.specs.Prelude.{filter, flat_map}
use Rattle.draughts_board.specs.Play.{grown, starts}
use Rattle.draughts_rules.proofs.captures.captures.Given as goal

abbrev pub invariant-loop-from : goal.invariant-loop-from
invariant-loop-from l = l.found.items ≡ flat_map (λ x. grown 12 l.p (x ∷ [])) (filter (starts l.p) (take l.from-index l.own))
