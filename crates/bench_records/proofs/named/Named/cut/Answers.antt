use Rattle.std.proofs.Common.{◌∙◌, ap, take}
use Rattle.bench_records.proofs.Rowed.{named_taken, names_taken}
use Rattle.bench_records.proofs.named.Named.cut.Goals as goal

pub invariant_of-self : goal.invariant_of-self
invariant_of-self c = named_taken _ _ _ c.self.invariant c.truncate.ensures.entries c.truncate.ensures.apart

pub returns : goal.returns
returns c = names_taken _ _ _ c.truncate.ensures.entries ∙ ap (take c.args.len) c.self.view_is
