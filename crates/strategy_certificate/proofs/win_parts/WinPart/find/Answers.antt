use Rattle.strategy_certificate.proofs.RowLemmas.{entry_of-in_range}
use Rattle.strategy_certificate.proofs.win_parts.WinPart.find.Goals as goal

pub returns-clause-found : goal.returns-clause-found
returns-clause-found c e = rw (← c.self.view_is) (c.find_row.ensures.found e)

pub returns-clause-none : goal.returns-clause-none
returns-clause-none c = rw (← c.self.view_is) c.find_row.ensures.none

pub returns-clause-valid : goal.returns-clause-valid
returns-clause-valid c =
    rw c.find_row.ensures.value (entry_of-in_range c.self.inside.entries.entries c.args.p.now c.self.invariant.rows)
