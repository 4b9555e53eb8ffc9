use Rattle.std.proofs.Common.{◌<◌, ◌-◌, length, arith}
use Rattle.proof_tree.specs.Forest.{nodes}
use Rattle.certificate_joiner.specs.Strategy.{named}
use Rattle.certificate_joiner.proofs.Named.{root_is}
use Rattle.tree_census.proofs.Walks.{census_answer}
use Rattle.tree_census.proofs.counting.census_of.Goals as goal

pub goal_at-goal-requires : goal.goal_at-goal-requires
goal_at-goal-requires c =
    let roots = c.args.tree.now.forest in
    let within : c.args.root - 1 < length (nodes roots) = (let f = c.requires.first in let t = c.requires.there in omega (arith, f, t)) in
    (root_is roots c.len-most.ensures.valid.sound (c.args.root - 1) c.root_node-top.result within c.root_node-top.ensures).0

pub walk-requires : goal.walk-requires
walk-requires c =
    let roots = c.args.tree.now.forest in
    let within : c.args.root - 1 < length (nodes roots) = (let f = c.requires.first in let t = c.requires.there in omega (arith, f, t)) in
    (root_is roots c.len-most.ensures.valid.sound (c.args.root - 1) c.root_node-top.result within c.root_node-top.ensures).0

pub returns : goal.returns
returns c =
    let roots = c.args.tree.now.forest in
    let within : c.args.root - 1 < length (nodes roots) = (let f = c.requires.first in let t = c.requires.there in omega (arith, f, t)) in
    let is = root_is roots c.len-most.ensures.valid.sound (c.args.root - 1) c.root_node-top.result within c.root_node-top.ensures in
    census_answer _ (named roots c.root_node-top.result) c.goal_at-goal.result c.walk.result is.1.0 c.goal_at-goal.ensures c.walk.ensures
