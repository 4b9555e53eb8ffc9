use Rattle.std.proofs.Common.{◌++◌}
use Rattle.page_text.specs.Nodes.{closings}
use Rattle.page_text.proofs.NodeLemmas.{closing-end, closing-step}
use Rattle.page_text.proofs.nodes.push_closings.Goals as goal

pub loop-preserved : goal.loop-preserved
loop-preserved c =
    closing-step c.loop.text.items c.say.new.text.items (c.args.text.now.items ++ closings c.args.count) c.args.count c.loop.counter c.loop-test.true c.in_ok-say.ensures c.loop.invariant

pub returns : goal.returns
returns c = closing-end c.loop.text.items (c.args.text.now.items ++ closings c.args.count) c.args.count c.loop.counter c.loop-test.false c.loop.invariant
