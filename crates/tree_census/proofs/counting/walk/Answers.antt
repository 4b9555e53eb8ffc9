use Rattle.std.proofs.Common.{rules, ◌≡◌, ◌+◌, ◌++◌, ◌∷◌, [], ◌∙◌, List, true, length, subst, sym, ap, arith}
use Rattle.std.specs.Prelude.{sum_by}
use Rattle.proof_tree.specs.Forest.{nodes}
use Rattle.certificate_joiner.specs.Strategy.{named}
use Rattle.tree_census.specs.Censuses.{stops}
use Rattle.tree_census.specs.declared.counting.Stop.{Stop}
use Rattle.tree_census.proofs.Walks.{Counts, counts_few, counts_fewer, counts_first, counts_last, counts_next, empty, nodes_at, stop_named}
use Rattle.tree_census.proofs.counting.walk.Goals as goal

pub loop-stop-init : goal.loop-stop-init
loop-stop-init c =
    let roots = c.args.tree.now.forest in
    let first : Stop = record { node = c.args.top; is_open = true } in
    let items : c.push.new.self.items ≡ first ∷ [] = c.in_ok-push.ensures.items ∙ ap (λ (l : List Stop). l ++ first ∷ []) c.new-waiting.ensures.items in
    subst (λ (ws : List Stop). Counts c.args.goal roots c.args.top ws 0 0) (sym items) (counts_first c.args.goal roots c.args.top c.requires)

pub is_open_at-is_open-requires : goal.is_open_at-is_open-requires
is_open_at-is_open-requires c =
    let roots = c.args.tree.now.forest in
    let at = subst (λ (ws : List Stop). Counts c.args.goal roots c.args.top ws c.loop-stop.count c.loop-stop.open_leaves) c.in-Some.ensures.items c.loop-stop.invariant in
    stop_named c.args.goal roots c.args.top c.pop.new.self.items c.in-Some.stop c.loop-stop.count c.loop-stop.open_leaves at

pub open_leaf-open_leaves-requires : goal.open_leaf-open_leaves-requires
open_leaf-open_leaves-requires c =
    let roots = c.args.tree.now.forest in
    let at = subst (λ (ws : List Stop). Counts c.args.goal roots c.args.top ws c.loop-stop.count c.loop-stop.open_leaves) c.in-Some.ensures.items c.loop-stop.invariant in
    stop_named c.args.goal roots c.args.top c.pop.new.self.items c.in-Some.stop c.loop-stop.count c.loop-stop.open_leaves at

pub push_children-requires-clause-there : goal.push_children-requires-clause-there
push_children-requires-clause-there c =
    let roots = c.args.tree.now.forest in
    let at = subst (λ (ws : List Stop). Counts c.args.goal roots c.args.top ws c.loop-stop.count c.loop-stop.open_leaves) c.in-Some.ensures.items c.loop-stop.invariant in
    stop_named c.args.goal roots c.args.top c.pop.new.self.items c.in-Some.stop c.loop-stop.count c.loop-stop.open_leaves at

pub overflow_add-count : goal.overflow_add-count
overflow_add-count c =
    let roots = c.args.tree.now.forest in
    let at = subst (λ (ws : List Stop). Counts c.args.goal roots c.args.top ws c.loop-stop.count c.loop-stop.open_leaves) c.in-Some.ensures.items c.loop-stop.invariant in
    let few = c.len-most.ensures.valid.few in
    let some = counts_few c.args.goal roots c.len-most.ensures.valid.sound c.args.top c.pop.new.self.items c.in-Some.stop c.loop-stop.count c.loop-stop.open_leaves at c.is_open_at-is_open.result c.is_open_at-is_open.ensures c.requires in
    omega (arith, few, some.0)

pub overflow_add-open_leaves : goal.overflow_add-open_leaves
overflow_add-open_leaves c =
    let roots = c.args.tree.now.forest in
    let at = subst (λ (ws : List Stop). Counts c.args.goal roots c.args.top ws c.loop-stop.count c.loop-stop.open_leaves) c.in-Some.ensures.items c.loop-stop.invariant in
    let few = c.len-most.ensures.valid.few in
    let some = counts_few c.args.goal roots c.len-most.ensures.valid.sound c.args.top c.pop.new.self.items c.in-Some.stop c.loop-stop.count c.loop-stop.open_leaves at c.is_open_at-is_open.result c.is_open_at-is_open.ensures c.requires in
    let leaf = c.open_leaf-open_leaves.ensures in
    omega (arith, few, some.1, leaf)

pub loop-stop-preserved : goal.loop-stop-preserved
loop-stop-preserved c =
    let roots = c.args.tree.now.forest in
    let at = subst (λ (ws : List Stop). Counts c.args.goal roots c.args.top ws c.loop-stop.count c.loop-stop.open_leaves) c.in-Some.ensures.items c.loop-stop.invariant in
    let here = c.is_open_at-is_open.result in
    let next = counts_next c.args.goal roots c.len-most.ensures.valid.sound c.args.top c.pop.new.self.items c.in-Some.stop c.loop-stop.count c.loop-stop.open_leaves at here c.is_open_at-is_open.ensures in
    subst (λ (ws : List Stop). Counts c.args.goal roots c.args.top ws (c.loop-stop.count + 1) (c.loop-stop.open_leaves + c.open_leaf-open_leaves.result)) (sym c.in_ok-push_children.ensures)
    (subst (λ m. Counts c.args.goal roots c.args.top (c.pop.new.self.items ++ stops here (nodes (named roots c.in-Some.stop.node).children)) (c.loop-stop.count + 1) (c.loop-stop.open_leaves + m)) (sym c.open_leaf-open_leaves.ensures) next)

pub loop-stop-smaller : goal.loop-stop-smaller
loop-stop-smaller c =
    let roots = c.args.tree.now.forest in
    let at = subst (λ (ws : List Stop). Counts c.args.goal roots c.args.top ws c.loop-stop.count c.loop-stop.open_leaves) c.in-Some.ensures.items c.loop-stop.invariant in
    let fewer = counts_fewer c.args.goal roots c.len-most.ensures.valid.sound c.args.top c.pop.new.self.items c.in-Some.stop c.loop-stop.count c.loop-stop.open_leaves at c.is_open_at-is_open.result in
    let new = ap (sum_by (nodes_at roots)) c.in_ok-push_children.ensures in
    let old = ap (sum_by (nodes_at roots)) c.in-Some.ensures.items in
    omega (arith, fewer, new, old)

pub returns : goal.returns
returns c =
    let roots = c.args.tree.now.forest in
    let long : length c.loop-stop.waiting.items ≡ 0 = search (rules, c.in_default.ensures.cases) in
    let none = empty c.loop-stop.waiting.items long in
    counts_last c.args.goal roots c.args.top c.loop-stop.count c.loop-stop.open_leaves
    (subst (λ (ws : List Stop). Counts c.args.goal roots c.args.top ws c.loop-stop.count c.loop-stop.open_leaves) none c.loop-stop.invariant)
