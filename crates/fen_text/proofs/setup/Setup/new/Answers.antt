use Rattle.std.proofs.Common.{refl}
use Rattle.fen_text.proofs.Naming.{nothing_held}
use Rattle.fen_text.proofs.setup.Setup.new.Goals as goal

pub returns : goal.returns
returns c = nothing_held _ refl
