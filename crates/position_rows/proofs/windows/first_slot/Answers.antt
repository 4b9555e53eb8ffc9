use Rattle.std.proofs.lemmas.Nat.{and_le_r}
use Rattle.std.proofs.Common.{refl, arith, ◌-◌}
use Rattle.position_rows.specs.Windows.{first_slot}
use Rattle.position_rows.proofs.windows.first_slot.Goals as goal

pub returns : goal.returns
unfolding first_slot
returns c = record {
  value = refl;
  inside = omega (arith, and_le_r (c.args.hash) (c.args.count - 8), c.requires);
}
