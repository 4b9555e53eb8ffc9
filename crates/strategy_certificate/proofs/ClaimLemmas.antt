-- What a true claim tells of its position is true.
use Rattle.std.proofs.Common.{subst}
use Rattle.draughts_board.specs.declared.pieces.Side.{Side}
use Rattle.draughts_board.specs.declared.pieces.Side.TheVariants.{Black, White}
use Rattle.draughts_board.specs.Board.{Board}
use Rattle.draughts_board.specs.Game.{Wins, Holds}
use Rattle.draughts_board.specs.Draughts.{draughts}
use Rattle.draughts_board.proofs.Truth.{Wins-holds}
use Rattle.strategy_certificate.specs.Certificates.{IsTrueOf}
use Rattle.strategy_certificate.specs.Claims.{TellsWin, TellsHold}
use Rattle.strategy_certificate.specs.declared.claims.Claim.{Claim}
use Rattle.strategy_certificate.specs.declared.claims.Claim.TheVariants.{Win, Hold, Draw}

pub told_win : (p : Board) (s : Side) (c : Claim) → TellsWin s c → IsTrueOf c p → Wins draughts s p
told_win p s (Win t) tells right = subst (λ u. Wins draughts u p) tells right
told_win p s (Hold t) tells right = absurd tells
told_win p s Draw tells right = absurd tells

pub told_hold : (p : Board) (s : Side) (c : Claim) → TellsHold s c → IsTrueOf c p → Holds draughts s p
told_hold p s (Win t) tells right = Wins-holds draughts s p (subst (λ u. Wins draughts u p) tells right)
told_hold p s (Hold t) tells right = subst (λ u. Holds draughts u p) tells right
told_hold p Black Draw tells right = right.0
told_hold p White Draw tells right = right.1
