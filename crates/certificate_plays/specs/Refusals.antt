-- Why a play by a certificate against the lines of a source is refused.
use Rattle.std.specs.Prelude.{◌≡◌, ℕ, List}
use Rattle.draughts_board.specs.declared.pieces.Side.{Side}
use Rattle.strategy_certificate.specs.Claims.{TellsHold}
use Rattle.strategy_certificate.specs.declared.certificates.Certificate.{Certificate}
use Rattle.certificate_plays.specs.Plays.{StopsAt}
use Rattle.certificate_plays.specs.declared.refusals.LinesRefusal.{LinesRefusal}
use Rattle.certificate_plays.specs.declared.refusals.LinesRefusal.TheVariants.{NotHeld, Line, Memory}

-- The certificate does not say that the side holds, a line is refused, or memory ran out.
abbrev pub IsPlayFault : Certificate → Side → List ℕ → LinesRefusal → Type 0
IsPlayFault c side source (NotHeld asked) = (asked ≡ side) × (TellsHold side c.claim → ⊥)
IsPlayFault c side source (Line n p fault) = StopsAt c side source n p fault
IsPlayFault c side source (Memory error) = Unit {0}
