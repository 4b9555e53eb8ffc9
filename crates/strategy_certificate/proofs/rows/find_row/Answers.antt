use Rattle.strategy_certificate.proofs.RowLemmas.{entry_of-iff, none-iff}
use Rattle.strategy_certificate.proofs.rows.find_row.Goals as goal

pub returns-clause-found : goal.returns-clause-found
returns-clause-found g c e = rw c.get.ensures (entry_of-iff c.args.rows.now.entries c.args.p.now c.requires e)

pub returns-clause-none : goal.returns-clause-none
returns-clause-none g c = rw c.get.ensures (none-iff c.args.rows.now.entries c.args.p.now c.requires)
