use Rattle.std.proofs.Common.{length, ap, ◌∙◌, subst, arith}
use Rattle.turn_lock.proofs.Growing.{GrowsTo-length}
use Rattle.tree_manager.specs.Sessions.{MayAddInTurn}
use Rattle.tree_manager.specs.Taken.{TurnState}
use Rattle.tree_manager.specs.Turns.{GrowsByTurns}
use Rattle.tree_manager.proofs.turn.Turn.into_held.Goals as goal

pub returns-clause-entered : goal.returns-clause-entered
returns-clause-entered g c = c.self.invariant.0 ∙ ap (λ (t : TurnState g.row.D.Denot). length t.start.found.line) c.self.view_is

pub returns-clause-line : goal.returns-clause-line
returns-clause-line g c =
    subst (λ (t : TurnState g.row.D.Denot). GrowsByTurns t.start.found.line c.self.inside.session.value.line) c.self.view_is c.self.invariant.1.line

pub returns-clause-fewer : goal.returns-clause-fewer
returns-clause-fewer g c = omega (arith, c.self.invariant.0, GrowsTo-length MayAddInTurn _ _ c.self.invariant.1.line)
