use Rattle.strategy_certificate.proofs.hold_parts.HoldPart.place.Goals as goal

pub returns : goal.returns
returns c i = rw (← c.self.view_is) (c.place_of_row.ensures i)
