use Rattle.strategy_certificate.proofs.win_parts.WinPart.place.Goals as goal

pub returns : goal.returns
returns c i = rw (← c.self.view_is) (c.place_of_row.ensures i)
