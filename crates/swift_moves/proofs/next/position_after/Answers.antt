use Rattle.swift_moves.proofs.MovedMasks.{held_after}
use Rattle.swift_moves.proofs.next.position_after.Goals as goal

pub position_of-requires : goal.position_of-requires
position_of-requires c = (
  c.args.path.now,
  (
    c.requires.legal,
    held_after c.args.p.now c.args.path.now c.to_move-mover.result c.first.result c.last.result c.args.taken c.masks.result c.in_turn-before.result c.masks_moved-moved.result c.in_turn.result
        c.masks.ensures.lawful c.requires.legal c.requires.taken c.to_move-mover.ensures.value c.first.ensures c.last.ensures c.masks.ensures.squares c.in_turn-before.ensures c.masks_moved-moved.ensures c.in_turn.ensures,
  ),
)

pub returns : goal.returns
returns c =
    c.position_of.ensures c.args.path.now c.requires.legal
    (held_after c.args.p.now c.args.path.now c.to_move-mover.result c.first.result c.last.result c.args.taken c.masks.result c.in_turn-before.result c.masks_moved-moved.result c.in_turn.result
    c.masks.ensures.lawful c.requires.legal c.requires.taken c.to_move-mover.ensures.value c.first.ensures c.last.ensures c.masks.ensures.squares c.in_turn-before.ensures c.masks_moved-moved.ensures c.in_turn.ensures)
