-- Lines of notes, one behind the other.
use Rattle.std.proofs.Common.{◌≡◌, ◌∙◌, ℕ, ◌≤◌, List, [], ◌∷◌, ◌++◌, length, Option, None, Some, codes, refl, sym, ap, subst, append-nil, append_assoc, zero-add, arith}
use Rattle.std.specs.List.{flat_map}
use Rattle.std.proofs.KnownBytes.{Appends-trans}
use Rattle.std.specs.Io.KnownBytes.{Appends}
use Rattle.std.proofs.lemmas.List.Concat.{flat_map-append}
use Rattle.std.proofs.lemmas.List.Elements.{All-append, All-cons, All-nil, All-weaker}
use Rattle.archive_records.specs.declared.game.ArchiveGame.{ArchiveGame}
use Rattle.archive_records.specs.declared.notes.Note.{Note}
use Rattle.game_reader.specs.Listing.{IsLineWithin, Lists, SaysGame, StillTells, TellsWithin}
use Rattle.game_reader.specs.Telling.{IsNoteLine, counts_text, game_text, text_of_game}
use Rattle.game_reader.specs.Reading.{HasRead}
use Rattle.game_reader.specs.declared.telling.Counts.{Counts}
use Rattle.game_reader.proofs.Reading.{reads_more}

-- nothing is told
pub tells_none : (bytes : ℕ) → TellsWithin bytes []
tells_none bytes = record { lines = []; each = All-nil (IsLineWithin bytes); joined = refl }

-- one text behind another
pub tells_more : (bytes : ℕ) (old new : List ℕ) → TellsWithin bytes old → TellsWithin bytes new → TellsWithin bytes (old ++ new)
tells_more bytes old new first second = record {
  lines = first.lines ++ second.lines;
  each = All-append (IsLineWithin bytes) first.lines second.lines first.each second.each;
  joined = ap (λ (t : List ℕ). t ++ new) first.joined ∙ ap (λ (t : List ℕ). flat_map (λ line. line) first.lines ++ t) second.joined ∙ sym (flat_map-append (λ line. line) first.lines second.lines);
}

-- one line
pub tells_one : (bytes : ℕ) (game : Option ArchiveGame) (note : Note) (line : List ℕ) → note.place.byte ≤ bytes → IsNoteLine (text_of_game game) note line → TellsWithin bytes line
tells_one bytes game note line within is = record {
  lines = line ∷ [];
  each = All-cons (IsLineWithin bytes) line [] (record { game = game; note = note; within = within; is_line = is }) (All-nil (IsLineWithin bytes));
  joined = sym (append-nil line);
}

-- a text that says no game, and one that says this game
pub says_none : (text : List ℕ) → text ≡ codes "" → SaysGame text
says_none text is = (None, is)

pub says_one : (game : ArchiveGame) (text : List ℕ) → text ≡ game_text game → SaysGame text
says_one game text is = (Some game, is)

-- one line more
pub line_more : (of_game : List ℕ) (note : Note) (old new line : List ℕ) → SaysGame of_game → IsNoteLine of_game note line → new ≡ old ++ line → StillTells note old new
line_more of_game note old new line says is pushed bytes within told =
    let is_line : IsNoteLine (text_of_game says.0) note line = subst (λ (t : List ℕ). IsNoteLine t note line) says.1 is in
    subst (TellsWithin bytes) (sym pushed) (tells_more bytes old line told (tells_one bytes says.0 note line within is_line))

-- what is told within some bytes is told within more
line_later : (bytes more : ℕ) → bytes ≤ more → (line : List ℕ) → IsLineWithin bytes line → IsLineWithin more line
line_later bytes more few line told =
    let within : told.note.place.byte ≤ more = omega arith in
    record { game = told.game; note = told.note; within = within; is_line = told.is_line }

tells_later : (bytes more : ℕ) (text : List ℕ) → bytes ≤ more → TellsWithin bytes text → TellsWithin more text
tells_later bytes more text few told =
    record { lines = told.lines; each = All-weaker (IsLineWithin bytes) (IsLineWithin more) (line_later bytes more few) told.lines told.each; joined = told.joined }

-- the lines of one game more are written
pub writes_lines : (taken between now : Option (List ℕ)) (before after : ℕ) (text lines written : List ℕ) → before ≤ after → TellsWithin before text → TellsWithin after lines
    → Appends taken between text → Appends between now written → written ≡ lines → (whole : List ℕ) × (TellsWithin after whole × Appends taken now whole)
writes_lines taken between now before after text lines written later told more first second is = (
  text ++ lines,
  (
    tells_more after text lines (tells_later before after text later told) more,
    Appends-trans taken between now text lines first (subst (Appends between now) is second),
  ),
)

-- and at last the line that counts
pub lists_all : (left mid rest taken between now : Option (List ℕ)) (counts : Counts) (before after : ℕ) (text lines written : List ℕ) → HasRead left mid 0 before → HasRead mid rest before after
    → TellsWithin before text → TellsWithin after lines → Appends taken between text → Appends between now written → written ≡ lines ++ counts_text counts → Lists left rest taken now counts
lists_all left mid rest taken between now counts before after text lines written first second told more appended at_last is =
    let whole = reads_more left mid rest 0 before after first second in
    let counted = second.counted in
    let later : before ≤ after = omega arith in
    let read : after ≡ length whole.bytes = whole.counted ∙ zero-add (length whole.bytes) in
    record {
      bytes = whole.bytes;
      read = whole.consumed;
      text = text ++ lines;
      told = subst (λ n. TellsWithin n (text ++ lines)) read (tells_more after text lines (tells_later before after text later told) more);
      written = subst (Appends taken now) (sym (append_assoc text lines (counts_text counts))) (Appends-trans taken between now text (lines ++ counts_text counts) appended (subst (Appends between now) is at_last));
    }
