use Rattle.strategy_certificate.proofs.hold_parts.HoldPart.find.Goals as goal

pub returns-clause-found : goal.returns-clause-found
returns-clause-found c chosen = rw (← c.self.view_is) (c.find_row.ensures.found chosen)

pub returns-clause-none : goal.returns-clause-none
returns-clause-none c = rw (← c.self.view_is) c.find_row.ensures.none
