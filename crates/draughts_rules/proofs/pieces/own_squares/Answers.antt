use Rattle.std.proofs.Common.{◌<◌, length, sym, subst, List, ℕ}
use Rattle.draughts_rules.proofs.OwnSquares.{own-room}
use Rattle.draughts_rules.proofs.pieces.own_squares.Goals as goal

pub push_if-requires : goal.push_if-requires
push_if-requires c =
    subst (λ (l : List ℕ). length l < 13) (sym c.loop-square.invariant) (own-room c.args.p.now c.all-all.result c.loop-square.square-index c.to_move-mover.ensures.lawful c.all-all.ensures)
