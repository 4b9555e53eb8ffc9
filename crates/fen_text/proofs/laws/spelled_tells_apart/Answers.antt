use Rattle.fen_text.proofs.Verdict.{one_position as law}
use Rattle.fen_text.proofs.laws.spelled_tells_apart.Goals as goal

pub returns : goal.returns
returns c = law
