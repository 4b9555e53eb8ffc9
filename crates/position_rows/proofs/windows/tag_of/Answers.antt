use Rattle.std.proofs.Common.{refl}
use Rattle.position_rows.specs.Windows.{tag_of}
use Rattle.position_rows.proofs.windows.tag_of.Goals as goal

pub returns : goal.returns
unfolding tag_of
returns c = refl
