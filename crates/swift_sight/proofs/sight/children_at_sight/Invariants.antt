use Rattle.std.proofs.Common.{◌≡◌, take, map}
use Rattle.std.specs.Prelude.{All}
use Rattle.certificate_checker.specs.Sight.{IsAtSight}
use Rattle.swift_sight.proofs.sight.children_at_sight.Given as goal

abbrev pub invariant-loop-q : goal.invariant-loop-q
invariant-loop-q g l = record {
  positions : map (λ child. child.position) l.children.items ≡ take l.q-index l.q-items;
  facts : All (IsAtSight (g.O.Oracle.piece_limit l.oracle)) l.children.items;
}
