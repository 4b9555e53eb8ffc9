use Rattle.std.proofs.Common.{◌++◌, ◌∷◌, [], List, ◌-◌}
use Rattle.fen_text.specs.Spelled.{Group as Named}
use Rattle.fen_text.specs.Setup.{HoldsGroups}
use Rattle.fen_text.proofs.setup.Setup.add.Given as goal

abbrev pub invariant-loop-number : goal.invariant-loop-number
invariant-loop-number l = (groups : List Named) → HoldsGroups l.initial.self.cells l.initial.self.twice groups
    → HoldsGroups l.self.cells l.self.twice (groups ++ record { side = l.group.side; king = l.group.king; first = l.group.first; last = l.number - 1 } ∷ [])
