use Rattle.std.proofs.Common.{sym, subst}
use Rattle.game_reader.specs.Drafting.{StaysWithin}
use Rattle.game_reader.proofs.Notes.{note_more}
use Rattle.game_reader.proofs.writing.text_of.Goals as goal
use Rattle.game_reader.proofs.writing.text_of.Goals.{in-Some-2+in_ok-push, in_default-2}

pub returns-clause-within : goal.returns-clause-within
returns-clause-within c =
    let before = c.judged.new.game in
    elim c.match-branch-5.branch [
      | in-Some-2+in_ok-push w ↦ subst (StaysWithin c.args.game.now) (sym w.game-is) (λ bytes within. note_more before w.push.new.self _ (λ _ inside. inside.begins) w.in_ok-push.ensures.items bytes (c.in_ok-draft.ensures bytes within))
      | in_default-2 w ↦ subst (StaysWithin c.args.game.now) (sym w.game-is) c.in_ok-draft.ensures
    ]
