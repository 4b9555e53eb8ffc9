use Rattle.root_pages.proofs.TwigLemmas.{nodes_more}
use Rattle.root_pages.proofs.nodes.page_nodes.Goals as goal

pub loop-node-preserved : goal.loop-node-preserved
loop-node-preserved c =
    nodes_more c.args.nodes.now c.loop-node.node-index c.node-item.result c.loop-node.shown.items c.push.new.self.items c.in_ok-page_node.field-0 c.loop-node-test.true c.node-item.is
    c.in_ok-page_node.ensures c.loop-node.invariant c.in_ok-push.ensures.items
