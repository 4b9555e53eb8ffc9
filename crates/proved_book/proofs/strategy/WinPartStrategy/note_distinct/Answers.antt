use Rattle.strategy_certificate.proofs.MergeLemmas.{distinct-without_rank}
use Rattle.proved_book.proofs.strategy.WinPartStrategy.note_distinct.Goals as goal

pub returns : goal.returns
returns c = distinct-without_rank c.args.self.now.entries c.len-count.ensures.valid.distinct
