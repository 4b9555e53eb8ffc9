use Rattle.std.proofs.Common.{◌≡◌, ◌∙◌, ◌++◌, ◌+◌, ◌-◌, ℕ, drop, map, sym, ap, subst}
use Rattle.page_text.specs.Nodes.{closings, nodes_text, words_of}
use Rattle.page_text.proofs.NodeLemmas.{nodes-step}
use Rattle.page_text.proofs.nodes.push_nodes.Goals as goal

pub loop-node-preserved : goal.loop-node-preserved
loop-node-preserved c =
    let node = c.node-item.result in
    let nodes = c.args.nodes.now in
    let i = c.loop-node.node-index in
    let text = c.loop-node.text.items in
    let whole = c.args.text.now.items ++ nodes_text 0 (map words_of nodes) in
    let depth : c.from-depth.result ≡ node.depth = c.from-depth.ensures in
    let left : c.saturating_sub.result ≡ c.loop-node.before - node.depth = c.saturating_sub.ensures ∙ ap (λ d. c.loop-node.before - d) depth in
    let closed : c.push_closings.new.text.items ≡ text ++ closings (c.loop-node.before - node.depth) = c.in_ok-push_closings.ensures ∙ ap (λ m. text ++ closings m) left in
    let step = nodes-step text c.push_closings.new.text.items c.push_opening.new.text.items whole c.loop-node.before nodes i node c.loop-node-test.true c.node-item.is closed c.in_ok-push_opening.ensures c.loop-node.invariant in
    subst (λ (d : ℕ). c.push_opening.new.text.items ++ nodes_text (d + 1) (map words_of (drop (i + 1) nodes)) ≡ whole) (sym depth) step
