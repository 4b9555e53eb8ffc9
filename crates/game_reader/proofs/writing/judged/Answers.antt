use Rattle.std.proofs.Common.{sym, subst}
use Rattle.game_reader.specs.Drafting.{IsDraftedAs, StaysWithin}
use Rattle.game_reader.proofs.Notes.{note_more}
use Rattle.game_reader.proofs.writing.judged.Goals as goal
use Rattle.game_reader.proofs.writing.judged.Goals.{in-Some+in_ok-push, in_default}

pub returns-then-game : goal.returns-then-game
returns-then-game c =
    let game = c.args.game.now in
    elim c.match-position_fault.branch [
      | in-Some+in_ok-push w ↦ subst (StaysWithin game) (sym w.game-is) (note_more game w.push.new.self w.in-Some.note w.in-Some.ensures.place w.in_ok-push.ensures.items)
      | in_default w ↦ subst (StaysWithin game) (sym w.game-is) (λ bytes within. within)
    ]

pub returns-in_ok-push-in-LeftOut : goal.returns-in_ok-push-in-LeftOut
returns-in_ok-push-in-LeftOut c =
    let game = c.args.game.now in
    note_more game c.push-in-LeftOut.new.self c.in-LeftOut.note (subst (IsDraftedAs c.args.plies game) c.in-LeftOut.is c.in_ok-draft.ensures) c.in_ok-push-in-LeftOut.ensures.items
