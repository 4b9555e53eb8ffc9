use Rattle.std.proofs.Common.{sym, subst}
use Rattle.std.specs.Bool.{OnFalse}
use Rattle.pdn_openings.specs.Faults.{opening_wants_memory, IsMoveFault}
use Rattle.pdn_openings.proofs.Steps.{lead-next, fault-here}
use Rattle.pdn_openings.proofs.playing.played.Goals as goal

pub returns-in-Err-clause-fault : goal.returns-in-Err-clause-fault
returns-in-Err-clause-fault c =
    let moves = c.args.moves.now in
    subst (λ fault. OnFalse (opening_wants_memory fault) (IsMoveFault c.args.game c.args.start moves fault)) (sym c.refusal_of.ensures)
    (fault-here c.args.game c.args.start c.loop-i.here moves c.loop-i.i c.index-moves-i.result c.in-Err.cause c.loop-i-test.true c.index-moves-i.is c.loop-i.invariant c.in-Err.ensures.refused)

pub loop-i-preserved : goal.loop-i-preserved
loop-i-preserved c =
    lead-next c.args.start c.loop-i.here c.in-Ok.next c.args.moves.now c.loop-i.i c.index-moves-i.result c.loop-i-test.true c.index-moves-i.is c.loop-i.invariant c.in-Ok.ensures.led
