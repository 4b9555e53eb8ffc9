use Rattle.std.proofs.Common.{◌≡◌, ◌≤◌, take, vec_len}
use Rattle.position_rows.specs.Looks.{AreIndexed}
use Rattle.position_rows.proofs.tables.indexed.Given as goal

abbrev pub invariant-loop-i : goal.invariant-loop-i
invariant-loop-i g l = record {
  indexed : AreIndexed (take l.i l.rows) l.slots.items l.nodes.items;
  slots : vec_len l.slots ≡ l.count;
  nodes : vec_len l.nodes ≤ l.i;
}
