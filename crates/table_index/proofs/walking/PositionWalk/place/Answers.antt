use Rattle.std.proofs.Common.{◌≡◌, Some}
use Rattle.table_index.proofs.PlacingPieces.{chosen-kept, chosen-cells}
use Rattle.table_index.proofs.walking.PositionWalk.place.Goals as goal

pub invariant_of-self : goal.invariant_of-self
invariant_of-self c =
    let found : c.position_of-found.result ≡ Some c.in-Some.p = (let is = c.in-Some.is in cc) in
    record {
      kept = chosen-kept c.args.pieces c.args.choice c.args.kinds c.occupied.result c.in-Some.p c.requires.choice c.requires.kinds c.occupied.ensures.lawful c.occupied.ensures.squares
          (λ chosen there. chosen-cells c.position_of-found.result c.in-Some.p _ _ found (c.position_of-found.ensures chosen there));
    }
