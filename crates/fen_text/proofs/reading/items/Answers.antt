use Rattle.std.proofs.Common.{◌++◌, ◌∷◌, [], sym, append_assoc, append-nil}
use Rattle.fen_text.specs.Seen.{group_seen}
use Rattle.fen_text.specs.Reading.{items_at}
use Rattle.fen_text.proofs.Items.{goes_on, stops, fails, with_no_front}
use Rattle.fen_text.proofs.reading.items.Goals as goal

pub loop-group-init : goal.loop-group-init
loop-group-init c = ([], λ groups held. rw append-nil held, with_no_front _)

pub returns-in-Err : goal.returns-in-Err
returns-in-Err c = fails c.args.side c.loop-group.invariant.0 c.loop-group.rest.now c.in-Err.fault (items_at c.args.side c.args.bytes.now) c.in-Err.ensures.value c.loop-group.invariant.2

pub loop-group-preserved : goal.loop-group-preserved
loop-group-preserved c =
    let front = c.loop-group.invariant.0 in
    let g = group_seen c.in-Ok.group in (
      front ++ g ∷ [],
      λ groups held. rw (← append_assoc) (c.add.ensures (groups ++ front) (c.loop-group.invariant.1 groups held)),
      goes_on c.args.side front c.loop-group.rest.now c.in-Ok.behind.now c.in-Some.next.now g (items_at c.args.side c.args.bytes.now) c.in-Ok.ensures.value (sym c.in-Some.ensures.value) c.loop-group.invariant.2,
    )

pub returns-in-None : goal.returns-in-None
returns-in-None c =
    let front = c.loop-group.invariant.0 in
    let g = group_seen c.in-Ok.group in (
      front ++ g ∷ [],
      stops c.args.side front c.loop-group.rest.now c.in-Ok.behind.now g (items_at c.args.side c.args.bytes.now) c.in-Ok.ensures.value (sym c.in-None.ensures.value) c.loop-group.invariant.2,
      λ groups held. rw (← append_assoc) (c.add.ensures (groups ++ front) (c.loop-group.invariant.1 groups held)),
    )
