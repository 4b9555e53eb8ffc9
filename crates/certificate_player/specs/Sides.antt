-- The side of a part.
use Rattle.draughts_board.specs.declared.pieces.Side.{Side}
use Rattle.strategy_certificate.specs.declared.certificates.Part.{Part}
use Rattle.strategy_certificate.specs.declared.certificates.Part.TheVariants as part

abbrev pub side_of : Part → Side
side_of (part.Win list) = list.side
side_of (part.Hold list) = list.side
