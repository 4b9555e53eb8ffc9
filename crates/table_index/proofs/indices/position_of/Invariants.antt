-- The cells stand up to the place.
use Rattle.std.proofs.Common.{◌≡◌}
use Rattle.table_index.proofs.Building.{IsBuilt, wanted}
use Rattle.table_index.proofs.indices.position_of.Given as goal

abbrev pub invariant-loop-i : goal.invariant-loop-i
invariant-loop-i l = IsBuilt (wanted l.fn.pieces l.fn.choice l.fn.kinds) l.i l.pieces l.choice l.kinds l.p.cells × (l.p.to_move ≡ l.to_move)
