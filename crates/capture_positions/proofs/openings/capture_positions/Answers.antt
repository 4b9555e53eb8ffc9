use Rattle.std.proofs.Common.{◌≡◌, ◌<◌, ◌∙◌, ap, length, arith}
use Rattle.indexmap.specs.IndexSet.{insert_key}
use Rattle.draughts_board.specs.Board.{same_board}
use Rattle.capture_positions.specs.Walk.{numbered_position}
use Rattle.capture_positions.proofs.LoopLemmas.{kept-more, not_last, one_more, kept-all}
use Rattle.capture_positions.proofs.openings.capture_positions.Goals as goal

pub loop-positions-smaller : goal.loop-positions-smaller
loop-positions-smaller c =
    let kept = c.loop-positions.positions.keys in
    let len = c.len.ensures.len in
    let test = c.loop-positions-test.true in
    let due : length kept < c.args.count = omega (arith, len, test) in
    let less = not_last c.args.seed c.loop-positions.step c.args.count kept c.loop-positions.invariant.met c.loop-positions.invariant.steps c.requires due in
    omega (arith, less)

pub loop-positions-preserved : goal.loop-positions-preserved
loop-positions-preserved c =
    let kept = c.loop-positions.positions.keys in
    let len = c.len.ensures.len in
    let test = c.loop-positions-test.true in
    let due : length kept < c.args.count = omega (arith, len, test) in
    let less = not_last c.args.seed c.loop-positions.step c.args.count kept c.loop-positions.invariant.met c.loop-positions.invariant.steps c.requires due in
    let made = c.numbered_position.ensures ∙ ap numbered_position c.index_of_step.ensures.value in
    record {
      met = kept-more c.args.seed c.loop-positions.step kept c.insert_full.new.self.keys c.loop-positions.invariant.met (c.in_ok-insert_full.ensures.keys ∙ ap (insert_key same_board kept) made);
      few = one_more _ (length kept) _ c.args.count c.in_ok-insert_full.ensures.len due;
      different = c.in_ok-insert_full.ensures.unique;
      steps = omega (arith, less);
    }

pub returns-clause-openings : goal.returns-clause-openings
returns-clause-openings c =
    let kept = c.loop-positions.positions.keys in
    let len = c.len.ensures.len in
    let test = c.loop-positions-test.false in
    let few = c.loop-positions.invariant.few in
    let whole : length kept ≡ c.args.count = omega (arith, len, test, few) in
    kept-all c.args.seed c.loop-positions.step c.args.count kept c.loop-positions.invariant.met c.loop-positions.invariant.steps whole
