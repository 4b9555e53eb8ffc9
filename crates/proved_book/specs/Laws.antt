-- What trimming keeps, and what a book's answers serve for.
use Rattle.std.specs.Prelude.{◌≡◌, ℕ, List, Option, Some, All}
use Rattle.draughts_board.specs.Board.{Board}
use Rattle.draughts_board.specs.declared.pieces.Side.{Side}
use Rattle.strategy_certificate.specs.declared.oracle.Answer.{Answer}
use Rattle.strategy_certificate.specs.declared.certificates.Certificate.{Certificate}
use Rattle.strategy_certificate.specs.declared.certificates.Part.TheVariants as part
use Rattle.strategy_certificate.specs.Parts.{WinList, HoldList, HasEntry, HasDistinctPositions}
use Rattle.strategy_certificate.specs.Certificates.{HasRank, IsGoodWinPart, IsGoodHoldPart, IsTrueOf}
use Rattle.strategy_certificate.specs.Claims.{HasShortRanks}
use Rattle.certificate_checker.specs.Answers.{IsAnswer}
use Rattle.proved_book.specs.Trimming.{IsTrimmedWin, IsTrimmedHold}
use Rattle.proved_book.specs.Books.{Strategies, IsBook, IsAnsweredBy, HasTable, IsGoodWinByEach, IsGoodHoldByEach, with_win, with_hold}

-- ---- trimming

-- Of a good part a good part comes out, in which the position has each rank that it had.
abbrev pub TrimmedWinsAreGood : Type 0
TrimmedWinsAreGood =
    (answer : Board → Option Answer) (part kept : WinList) (p : Board)
    → IsTrimmedWin part p kept → IsGoodWinPart part answer
    → IsGoodWinPart kept answer × ((r : ℕ) → HasRank part r p → HasRank kept r p)

-- Of a good part a good part comes out, which has the position where it had an entry.
abbrev pub TrimmedHoldsAreGood : Type 0
TrimmedHoldsAreGood =
    (answer : Board → Option Answer) (part kept : HoldList) (p : Board)
    → IsTrimmedHold part p kept → IsGoodHoldPart part answer
    → IsGoodHoldPart kept answer × (HasEntry part.entries p → HasEntry kept.entries p)

-- There is one trimmed part.
abbrev pub OneTrimmedWin : Type 0
OneTrimmedWin =
    (part a b : WinList) (p : Board) → IsTrimmedWin part p a → IsTrimmedWin part p b → a ≡ b

abbrev pub OneTrimmedHold : Type 0
OneTrimmedHold =
    (part a b : HoldList) (p : Board) → IsTrimmedHold part p a → IsTrimmedHold part p b → a ≡ b

-- ---- answers

-- An answer is that of a leaf's search, whatever the goal and the depth: it settles the goal, and
-- tells all that looking so far ahead shows.
abbrev pub AnswersServe : Type 0
AnswersServe =
    (b : Strategies) (p : Board) (found : List Certificate) → IsBook b
    → IsAnsweredBy b p (Some found)
    → (goal : Side) (depth : ℕ) → IsAnswer b.pieces goal depth p found

-- Each certificate of an answer claims what is true of the position.
abbrev pub AnswersAreTrue : Type 0
AnswersAreTrue =
    (b : Strategies) (p : Board) (found : List Certificate) → IsBook b
    → IsAnsweredBy b p (Some found) → All (λ c. IsTrueOf c.claim p) found

-- There is one answer.
abbrev pub OneAnswer : Type 0
OneAnswer =
    (b : Strategies) (p : Board) (one another : Option (List Certificate)) → IsBook b
    → IsAnsweredBy b p one → IsAnsweredBy b p another → one ≡ another

-- ---- growing

-- A book that takes over a good part is a book.
pub record BooksGrow : Type 0 where
  pub win : (b : Strategies) → IsBook b → HasTable b.pieces → (w : WinList)
      → HasDistinctPositions w.entries → IsGoodWinByEach b.pieces w → HasShortRanks (part.Win w)
      → IsBook (with_win w.side w b)
  pub hold : (b : Strategies) → IsBook b → HasTable b.pieces → (h : HoldList)
      → IsGoodHoldByEach b.pieces h → IsBook (with_hold h.side h b)
