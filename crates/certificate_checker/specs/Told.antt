-- What certificates tell of their position.
use Rattle.std.specs.Prelude.{List, [], ◌∷◌}
use Rattle.draughts_board.specs.declared.pieces.Value.TheVariants as value
use Rattle.proof_numbers.specs.Known.{Known, nothing_known, win_known, hold_known, value_known, joined}
use Rattle.strategy_certificate.specs.declared.claims.Claim.{Claim}
use Rattle.strategy_certificate.specs.declared.claims.Claim.TheVariants.{Win, Hold, Draw}
use Rattle.strategy_certificate.specs.declared.certificates.Certificate.{Certificate}

-- what a claim says or implies
abbrev pub facts_claimed : Claim → Known
facts_claimed (Win s) = win_known s
facts_claimed (Hold s) = hold_known s
facts_claimed Draw = value_known value.Draw

-- what the certificates together claim or imply
abbrev pub facts_shown : List Certificate → Known
facts_shown [] = nothing_known
facts_shown (c ∷ shown) = joined (facts_claimed c.claim) (facts_shown shown)
