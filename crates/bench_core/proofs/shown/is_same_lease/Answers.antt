use Rattle.std.proofs.Common.{sym, ◌∙◌}
use Rattle.bench_core.proofs.SameLease.{same_true, same_from}
use Rattle.bench_core.proofs.shown.is_same_lease.Goals as goal

pub returns : goal.returns
returns c = (λ t. same_true c.args.a.now c.args.b.now (sym c.eq.ensures ∙ t), λ e. c.eq.ensures ∙ same_from c.args.a.now c.args.b.now e)
