use Rattle.std.proofs.Common.{◌++◌, ◌∙◌, List, ℕ, codes, refl, ap, append_assoc}
use Rattle.game_reader.specs.Telling.{note_front}
use Rattle.game_reader.proofs.telling.say_note.Goals as goal

pub returns : goal.returns
returns c =
    let front = note_front c.args.of_game.now c.args.note.now in
    let words = c.in_ok-say_kind.ensures.0 in (
      front ++ (words ++ codes "\n"),
      (
        (words, refl),
        c.in_ok-say.ensures
            ∙ ap (λ (t : List ℕ). t ++ codes "\n") (c.in_ok-say_kind.ensures.1 ∙ ap (λ (t : List ℕ). t ++ words) c.in_ok-say_front.ensures)
            ∙ simp append_assoc,
      ),
    )
