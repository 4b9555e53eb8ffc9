use Rattle.proved_book.proofs.BookLemmas.{found_tells}
use Rattle.proved_book.proofs.book.has_hold.Goals as goal

pub returns : goal.returns
returns c = found_tells c.args.part.now.entries c.args.p.now c.find.result c.find.ensures.found c.is_some.result c.is_some.ensures
