use Rattle.game_reader.proofs.Told.{line_more}
use Rattle.game_reader.proofs.listing.say_told.Goals as goal

pub returns-in_ok-say_note : goal.returns-in_ok-say_note
returns-in_ok-say_note c =
    let told = c.in_ok-say_note.ensures in
    line_more c.args.of_game.now c.args.note.now c.args.lines.now.items c.say_note.new.text.items told.0 c.requires told.1.0 told.1.1
