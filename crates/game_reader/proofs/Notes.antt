-- Notes that are added to a game.
use Rattle.std.proofs.Common.{◌≡◌, ◌≤◌, [], ◌∷◌, ◌++◌, Vec, sym, subst}
use Rattle.std.specs.List.{All}
use Rattle.std.proofs.lemmas.List.Elements.{All-push}
use Rattle.std.specs.declared.alloc.Global.{Global}
use Rattle.archive_records.specs.declared.game.ArchiveGame.{ArchiveGame}
use Rattle.archive_records.specs.declared.notes.Note.{Note}
use Rattle.game_reader.specs.Drafting.{IsNoteIn, StaysWithin}

-- one note more
pub note_more : (game : ArchiveGame) (notes : Vec Note Global) (note : Note) → IsNoteIn game note → notes.items ≡ game.notes.items ++ note ∷ [] → StaysWithin game (record game { notes = notes })
note_more game notes note is_in pushed bytes within =
    let IsWithin : Note → Type 0 = λ n. n.place.byte ≤ bytes in
    record {
      begins = within.begins;
      tags = within.tags;
      position = within.position;
      moves = within.moves;
      outcome = within.outcome;
      notes = subst (All IsWithin) (sym pushed) (All-push IsWithin game.notes.items note within.notes (is_in bytes within));
    }
