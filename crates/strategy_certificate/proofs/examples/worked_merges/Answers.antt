use Rattle.std.proofs.Common.{refl}
use Rattle.strategy_certificate.proofs.examples.worked_merges.Goals as goal

pub returns : goal.returns
returns c = record { smaller_rank = refl; equal_rank = refl; greater_rank = refl; as_hold = refl; into_none = refl; kept_hold = refl }
