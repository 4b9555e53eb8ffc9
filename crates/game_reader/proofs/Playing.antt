-- The moves of an archive's game, played one after another.
use Rattle.std.proofs.Common.{◌≡◌, ◌∙◌, ℕ, ◌+◌, ◌<◌, ◌≤◌, List, [], ◌∷◌, ◌++◌, length, get_or, take, Some, refl, sym, ap, subst}
use Rattle.std.specs.Prelude.{map}
use Rattle.std.proofs.lemmas.List.{map-append}
use Rattle.std.proofs.lemmas.List.Elements.{All-get_or, All-take}
use Rattle.archive_records.specs.declared.game.ArchiveGame.{ArchiveGame}
use Rattle.archive_records.specs.declared.game.ArchiveMove.{ArchiveMove}
use Rattle.archive_records.specs.declared.notes.Note.{Note}
use Rattle.archive_text.specs.declared.places.Place.{Place}
use Rattle.draughts_board.specs.Board.{Board}
use Rattle.pdn_openings.specs.Playing.{meaning_of}
use Rattle.pdn_openings.proofs.Steps.{take-one_more}
use Rattle.strict_games.specs.Drafts.{Drafted, behind, led_to, unplaced}
use Rattle.strict_games.specs.Playing.{PlaysWritten}
use Rattle.strict_games.proofs.Leading.{led_to-append}
use Rattle.game_reader.specs.Drafting.{IsNoteAmong, IsNoteIn, squares_of}

-- one move more
pub led_more : (start : Board) (old new : Drafted) (moves : List ArchiveMove) (i : ℕ) (written : ArchiveMove) → i < length moves → written ≡ get_or moves i written
    → led_to (Some start) (map squares_of (take i moves)) ≡ Some old.here → PlaysWritten written.squares old new → led_to (Some start) (map squares_of (take (i + 1) moves)) ≡ Some new.here
led_more start old new moves i written h is led plays =
    ap (λ ms. led_to (Some start) (map squares_of ms)) (take-one_more moves i written h is)
    ∙ ap (led_to (Some start)) (map-append squares_of (take i moves) (written ∷ []))
    ∙ led_to-append (Some start) (map squares_of (take i moves)) (written.squares ∷ [])
    ∙ ap (λ p. led_to p (written.squares ∷ [])) led
    ∙ ap (λ r. led_to (behind old.here r) []) plays.means
    ∙ ap Some (sym plays.leads)

-- a note at one of the moves
pub at_move : (moves : List ArchiveMove) (i : ℕ) (written : ArchiveMove) (note : Note) → i < length moves → written ≡ get_or moves i written → note.place ≡ written.place
    → IsNoteAmong moves note
at_move moves i written note h is at bytes all =
    subst (λ (place : Place). place.byte ≤ bytes) (sym at) (subst (λ (move : ArchiveMove). move.place.byte ≤ bytes) (sym is) (All-get_or (λ (move : ArchiveMove). move.place.byte ≤ bytes) moves i written h all))

-- a note at one of the first moves
pub at_first_moves : (game : ArchiveGame) (count : ℕ) (note : Note) → IsNoteAmong (take count game.moves.items) note → IsNoteIn game note
at_first_moves game count note among bytes within = among bytes (All-take (λ (move : ArchiveMove). move.place.byte ≤ bytes) count game.moves.items within.moves)
