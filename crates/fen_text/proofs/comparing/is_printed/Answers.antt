use Rattle.fen_text.proofs.Behind.{front-alone, no-front}
use Rattle.fen_text.proofs.comparing.is_printed.Goals as goal

pub returns-in-Some : goal.returns-in-Some
returns-in-Some c = front-alone _ _ _ _ c.in-Some.ensures c.is_empty.ensures

pub returns-in-None : goal.returns-in-None
returns-in-None c = no-front _ _ c.in-None.ensures
