-- Certificates of one part.
use Rattle.std.specs.Prelude.{ℕ, [], ◌∷◌}
use Rattle.draughts_board.specs.Board.{Board}
use Rattle.strategy_certificate.specs.declared.certificates.Part.{Part}
use Rattle.strategy_certificate.specs.declared.certificates.Certificate.{Certificate}
use Rattle.strategy_certificate.specs.Certificates.{claim_of}

-- the certificate about the position with this one part, which leans on the table of k pieces
abbrev pub with_part : ℕ → Board → Part → Certificate
with_part k p one =
    record { position = p; claim = claim_of one; pieces = k; parts = one ∷ [] }
