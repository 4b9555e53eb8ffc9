-- Worked examples, one a field, on the White win in one: in W:W16,23:B12 the step 23-19 leaves
-- Black without a move.
use Rattle.std.specs.Prelude.{[], ◌∷◌, Some, None}
use Rattle.draughts_board.specs.declared.pieces.Side.TheVariants.{White}
use Rattle.draughts_board.specs.Examples.{king_alone, man_blocked, man_to_block}
use Rattle.strategy_certificate.specs.declared.claims.Claim.TheVariants.{Win}
use Rattle.strategy_certificate.specs.declared.certificates.Certificate.{Certificate}
use Rattle.strategy_certificate.specs.declared.certificates.Part.TheVariants as part
use Rattle.strategy_certificate.specs.Parts.{WinList}
use Rattle.strategy_certificate.specs.Examples.{white_wins, win_in_one, with_rank}
use Rattle.proof_numbers.specs.Known.{nothing_known, win_known}
use Rattle.proved_book.specs.Trimming.{IsTrimmedWin}
use Rattle.proved_book.specs.Books.{Strategies, Knows, IsAnsweredBy, empty_book, with_win}

-- the second position alone
abbrev pub blocked_alone : WinList
blocked_alone = white_wins ((man_blocked, with_rank 0 None) ∷ [])

pub record WorkedTrims : Type 0 where
  -- From the first position all is reached, from the second that alone, and from a position without
  -- an entry nothing.
  pub whole : IsTrimmedWin win_in_one man_to_block win_in_one
  pub rest : IsTrimmedWin win_in_one man_blocked blocked_alone
  pub nothing : IsTrimmedWin win_in_one king_alone (white_wins [])
  pub not_whole : ¬ IsTrimmedWin win_in_one man_blocked win_in_one

-- a book that took over the win alone
abbrev pub book_of_one : Strategies
book_of_one = with_win White win_in_one (empty_book 2)

-- the certificate of its second position
abbrev pub blocked_certificate : Certificate
blocked_certificate = record {
  position = man_blocked;
  claim = Win White;
  pieces = 2;
  parts = part.Win blocked_alone ∷ [];
}

pub record WorkedBooks : Type 0 where
  -- It knows White's win of both positions, with the hold, and nothing of others.
  pub first : Knows book_of_one man_to_block (win_known White)
  pub second : Knows book_of_one man_blocked (win_known White)
  pub other : Knows book_of_one king_alone nothing_known
  -- The second is answered by the entry that is needed there, and a position without an entry not at
  -- all.
  pub answer : IsAnsweredBy book_of_one man_blocked (Some (blocked_certificate ∷ []))
  pub no_answer : IsAnsweredBy book_of_one king_alone None
