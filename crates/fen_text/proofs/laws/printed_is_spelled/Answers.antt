use Rattle.fen_text.proofs.RoundTrip.{printed_spells as law}
use Rattle.fen_text.proofs.laws.printed_is_spelled.Goals as goal

pub returns : goal.returns
returns c = law
