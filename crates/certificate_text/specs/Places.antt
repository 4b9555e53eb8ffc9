-- Where a line of a certificate's text stands: which line is due there, and what the lines before
-- it have said.
use Rattle.std.specs.Prelude.{ℕ}
use Rattle.draughts_board.specs.Board.{Board}
use Rattle.strategy_certificate.specs.declared.certificates.Part.{Part}
use Rattle.strategy_certificate.specs.declared.certificates.Certificate.{Certificate}

pub data Place : Type 0 where
  -- the first line, and the second, which says the number of pieces of the table
  at_title : Place
  at_table : Place
  -- the position, behind the number of pieces, and the claim, behind both
  at_position : ℕ → Place
  at_claim : ℕ → Board → Place
  -- a part's first line or `end`, behind the certificate so far
  at_part : Certificate → Place
  -- one of this number of further entries of the part, which is not yet among the certificate's
  at_entry : Certificate → Part → ℕ → Place
  -- no line: the certificate is whole
  at_end : Certificate → Place
