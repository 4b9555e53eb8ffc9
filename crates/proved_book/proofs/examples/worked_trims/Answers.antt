use Rattle.proved_book.proofs.Worked.{worked_trims as worked}
use Rattle.proved_book.proofs.examples.worked_trims.Goals as goal

pub returns : goal.returns
returns c = worked
