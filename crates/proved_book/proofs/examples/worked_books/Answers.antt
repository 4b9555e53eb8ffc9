use Rattle.proved_book.proofs.Worked.{worked_books as worked}
use Rattle.proved_book.proofs.examples.worked_books.Goals as goal

pub returns : goal.returns
returns c = worked
