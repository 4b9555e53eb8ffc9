-- Texts of games that a sink has taken, one behind the other.
use Rattle.std.proofs.Common.{◌≡◌, ◌∙◌, ℕ, List, [], ◌∷◌, ◌++◌, Option, Some, None, refl, rules, sym, ap, subst, append-nil}
use Rattle.std.proofs.lemmas.List.Concat.{flat_map-append}
use Rattle.std.specs.Io.KnownBytes.{Appends}
use Rattle.bench_edges.proofs.KnownBytes.{Appends-append}
use Rattle.draughts_board.specs.Board.{Board}
use Rattle.pdn_text.specs.declared.game.Game.{Game}
use Rattle.strict_games.specs.Drafts.{Drafted, IsTextOf, begins}
use Rattle.strict_games.specs.GameTexts.{AreGameTexts, joined}
use Rattle.strict_games.specs.Groups.{IsGroupText}
use Rattle.game_reader.specs.Writing.{AreLegalGames, IsOneText, WritesGames}

texts-append : (texts more : List (List ℕ)) (games others : List Game) → AreGameTexts texts games → AreGameTexts more others → AreGameTexts (texts ++ more) (games ++ others)
texts-append [] more [] others are rest = rest
texts-append [] more (game ∷ games) others are rest = absurd are
texts-append (text ∷ texts) more [] others are rest = absurd are
texts-append (text ∷ texts) more (game ∷ games) others are rest = (are.0, texts-append texts more games others are.1 rest)

legal-append : (games others : List Game) → AreLegalGames games → AreLegalGames others → AreLegalGames (games ++ others)
legal-append [] others are rest = rest
legal-append (game ∷ games) others are rest = (are.0, legal-append games others are.1 rest)

appends-none : (old : Option (List ℕ)) → Appends old old []
appends-none None = search rules
appends-none (Some a) = search rules

-- the text of a draft
pub one_text : (draft : Drafted) (text : List ℕ) → IsTextOf draft text → IsOneText text
one_text draft text is = (
  is.read.game,
  (
    is.read.is_text,
    record {
      english = is.read.english;
      start = begins draft.set_up;
      begins = is.read.begins_there;
      last = draft.here;
      led = is.led;
    },
  ),
)

-- nothing more
pub writes_none : (old : Option (List ℕ)) → WritesGames old old
writes_none old = record {
  texts = [];
  games = [];
  are_texts = tt;
  are_legal = tt;
  taken = appends-none old;
}

-- one text more
pub writes_one : (old new : Option (List ℕ)) (text : List ℕ) → IsOneText text → Appends old new text → WritesGames old new
writes_one old new text is taken = record {
  texts = text ∷ [];
  games = is.0 ∷ [];
  are_texts = (is.1.0, tt);
  are_legal = (is.1.1, tt);
  taken = subst (Appends old new) (sym (append-nil text)) taken;
}

-- the text of a group
pub writes_group : (p : Board) (games : List ℕ) (old new : Option (List ℕ)) (text : List ℕ) → IsGroupText p games text → Appends old new text → WritesGames old new
writes_group p games old new text is taken = writes_one old new text (one_text _ text is.is_text) taken

-- and further texts
pub writes_more : (old mid new : Option (List ℕ)) → WritesGames old mid → WritesGames mid new → WritesGames old new
writes_more old mid new first second = record {
  texts = first.texts ++ second.texts;
  games = first.games ++ second.games;
  are_texts = texts-append first.texts second.texts first.games second.games first.are_texts second.are_texts;
  are_legal = legal-append first.games second.games first.are_legal second.are_legal;
  taken = subst (Appends old new) (sym (flat_map-append (λ text. text) first.texts second.texts)) (Appends-append old mid new (joined first.texts) (joined second.texts) first.taken second.taken);
}
