use Rattle.proved_book.proofs.Adding.{books_grow as grow}
use Rattle.proved_book.proofs.laws.books_grow.Goals as goal

pub returns : goal.returns
returns c = grow
