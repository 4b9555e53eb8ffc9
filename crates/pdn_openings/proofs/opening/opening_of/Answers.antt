use Rattle.std.proofs.Common.{◌∙◌, refl, take, sym, ap, subst}
use Rattle.std.specs.Bool.{OnFalse}
use Rattle.pdn_openings.specs.Faults.{opening_wants_memory, IsMoveFault}
use Rattle.pdn_openings.specs.Playing.{LeadTo}
use Rattle.pdn_openings.proofs.OneGame.{move_fault}
use Rattle.pdn_openings.proofs.opening.opening_of.Goals as goal

pub returns-in-Ok-played-clause-opening : goal.returns-in-Ok-played-clause-opening
returns-in-Ok-played-clause-opening c =
    let moves = c.first_moves-moves.ensures.value ∙ ap (take c.args.plies) c.as_slice.ensures in record {
      numbered = refl;
      english = sym c.if-is_other_game.ensures;
      start = c.in-Ok.start;
      begins = c.in-Ok.ensures.begins;
      led = subst (λ ms. LeadTo c.in-Ok.start ms c.in-Ok-played.position) moves c.in-Ok-played.ensures.led;
    }

pub returns-in-Err-played-clause-fault : goal.returns-in-Err-played-clause-fault
returns-in-Err-played-clause-fault c =
    let moves = c.first_moves-moves.ensures.value ∙ ap (take c.args.plies) c.as_slice.ensures in
    move_fault c.args.plies c.args.number c.args.game.now c.in-Ok.start c.in-Err-played.fault (sym c.if-is_other_game.ensures) c.in-Ok.ensures.begins
    (subst (λ ms. OnFalse (opening_wants_memory c.in-Err-played.fault) (IsMoveFault c.args.number c.in-Ok.start ms c.in-Err-played.fault)) moves c.in-Err-played.ensures.fault)
