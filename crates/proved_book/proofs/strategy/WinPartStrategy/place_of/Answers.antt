use Rattle.proved_book.proofs.PlaceLemmas.{stands_without_rank, stands_with_rank}
use Rattle.proved_book.proofs.strategy.WinPartStrategy.place_of.Goals as goal

pub returns : goal.returns
returns c i = (
  (λ is. stands_without_rank c.args.self.now.entries i c.args.p.now ((c.place.ensures i).0 is)),
  (λ at. (c.place.ensures i).1 (stands_with_rank c.args.self.now.entries i c.args.p.now at)),
)
