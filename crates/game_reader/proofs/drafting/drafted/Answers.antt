use Rattle.std.proofs.Common.{◌≡◌, IfSome, Option, List, take, subst, arith}
use Rattle.std.proofs.lemmas.Grind.{common_steps}
use Rattle.archive_records.specs.declared.game.ArchiveMove.{ArchiveMove}
use Rattle.archive_records.specs.declared.notes.Note.{Note}
use Rattle.game_reader.specs.Drafting.{IsNoteAmong}
use Rattle.game_reader.proofs.Playing.{at_first_moves}
use Rattle.game_reader.proofs.drafting.drafted.Goals as goal

pub returns-in-Some-2 : goal.returns-in-Some-2
returns-in-Some-2 c =
    let game = c.args.game.now in
    let note = c.in-Some-2.note in
    let first : c.unwrap_or-moves.result.now ≡ take c.args.plies game.moves.items = grind (arith, common_steps) in
    let among : IsNoteAmong c.unwrap_or-moves.result.now note =
    subst (λ (found : Option Note). IfSome found (IsNoteAmong c.unwrap_or-moves.result.now)) c.in-Some-2.is c.in_ok-note.ensures.place in
    at_first_moves game c.args.plies note (subst (λ (moves : List ArchiveMove). IsNoteAmong moves note) first among)
