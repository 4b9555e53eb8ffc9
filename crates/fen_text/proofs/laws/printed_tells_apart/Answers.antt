use Rattle.fen_text.proofs.Plain.{printed_tells_apart as law}
use Rattle.fen_text.proofs.laws.printed_tells_apart.Goals as goal

pub returns : goal.returns
returns c = law
