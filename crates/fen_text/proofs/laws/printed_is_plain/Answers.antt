use Rattle.fen_text.proofs.Plain.{printed_is_plain as law}
use Rattle.fen_text.proofs.laws.printed_is_plain.Goals as goal

pub returns : goal.returns
returns c = law
