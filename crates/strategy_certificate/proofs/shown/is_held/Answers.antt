use Rattle.std.proofs.Common.{inl, refl}
use Rattle.strategy_certificate.proofs.shown.is_held.Goals as goal

pub returns-in-Some : goal.returns-in-Some
returns-in-Some g c = (λ _. inl (c.in-Some.field-0, (c.in-Some.ensures.found c.in-Some.field-0).0 refl), λ _. refl)
