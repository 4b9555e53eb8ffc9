use Rattle.std.specs.Prelude.{◌^◌}
use Rattle.std.proofs.Common.{rules, ◌≡◌, ◌≤◌, ◌<◌, ◌+◌, ◌++◌, ◌∷◌, [], ◌∙◌, List, ℕ, get_or, length, map, subst, sym, ap, arith}
use Rattle.certificate_joiner.specs.Strategy.{named}
use Rattle.certificate_joiner.proofs.Named.{named_at}
use Rattle.proof_tree.specs.Forest.{nodes, size}
use Rattle.root_work.proofs.Sums.{named_below}
use Rattle.root_work.proofs.Walks.{Weighs, count_waiting, empty, last_named, no_overflow, number_of, top_within, waiting_fewer, weighs_first, weighs_last, weighs_next}
use Rattle.root_work.proofs.roots.walk.Goals as goal

pub loop-node-init : goal.loop-node-init
loop-node-init c =
    let roots = c.args.tree.now.forest in
    let f : ℕ → ℕ = λ n. get_or c.args.weights.now n 0 in
    let items : c.push.new.self.items ≡ c.args.top ∷ [] = c.in_ok-push.ensures.items ∙ ap (λ (l : List ℕ). l ++ c.args.top ∷ []) c.new-waiting.ensures.items in
    subst (λ (ws : List ℕ). Weighs f roots c.args.top ws 0) (sym items) (weighs_first f roots c.args.top c.requires.there)

pub push_children-requires-clause-there : goal.push_children-requires-clause-there
push_children-requires-clause-there c =
    let roots = c.args.tree.now.forest in
    let f : ℕ → ℕ = λ n. get_or c.args.weights.now n 0 in
    let at = subst (λ (ws : List ℕ). Weighs f roots c.args.top ws c.loop-node.weight) c.in-Some.ensures.items c.loop-node.invariant in
    last_named f roots c.args.top c.pop.new.self.items c.in-Some.node c.loop-node.weight at

pub loop-node-smaller : goal.loop-node-smaller
loop-node-smaller c =
    let roots = c.args.tree.now.forest in
    let f : ℕ → ℕ = λ n. get_or c.args.weights.now n 0 in
    let at = subst (λ (ws : List ℕ). Weighs f roots c.args.top ws c.loop-node.weight) c.in-Some.ensures.items c.loop-node.invariant in
    let fewer = waiting_fewer roots c.len-most.ensures.valid.sound c.pop.new.self.items c.in-Some.node at.found in
    let new = ap (count_waiting roots) c.in_ok-push_children.ensures in
    let old = ap (count_waiting roots) c.in-Some.ensures.items in
    omega (arith, fewer, new, old)

pub returns : goal.returns
returns c =
    let roots = c.args.tree.now.forest in
    let f : ℕ → ℕ = λ n. get_or c.args.weights.now n 0 in
    let long : length c.loop-node.waiting.items ≡ 0 = search (rules, c.in_default.ensures.cases) in
    let none = empty c.loop-node.waiting.items long in
    weighs_last f roots c.args.top c.loop-node.weight
    (subst (λ (ws : List ℕ). Weighs f roots c.args.top ws c.loop-node.weight) none c.loop-node.invariant)

pub bounds-weights-number : goal.bounds-weights-number
bounds-weights-number c =
    let roots = c.args.tree.now.forest in
    let n = c.in-Some.node in
    let f : ℕ → ℕ = λ n. get_or c.args.weights.now n 0 in
    let at = subst (λ (ws : List ℕ). Weighs f roots c.args.top ws c.loop-node.weight) c.in-Some.ensures.items c.loop-node.invariant in
    let some = last_named f roots c.args.top c.pop.new.self.items n c.loop-node.weight at in
    let below : n < size roots = named_below roots c.len-most.ensures.valid.sound n (named roots n) (named_at roots n some) in
    let long = c.requires.long in
    let number = c.number.ensures in
    omega (arith, below, long, number)

pub offset_bounds-weights-number : goal.offset_bounds-weights-number
offset_bounds-weights-number c =
    let roots = c.args.tree.now.forest in
    let n = c.in-Some.node in
    let f : ℕ → ℕ = λ n. get_or c.args.weights.now n 0 in
    let at = subst (λ (ws : List ℕ). Weighs f roots c.args.top ws c.loop-node.weight) c.in-Some.ensures.items c.loop-node.invariant in
    let some = last_named f roots c.args.top c.pop.new.self.items n c.loop-node.weight at in
    let below : n < size roots = named_below roots c.len-most.ensures.valid.sound n (named roots n) (named_at roots n some) in
    let few = c.len-most.ensures.valid.few in
    let number = c.number.ensures in
    omega (arith, below, few, number)

pub overflow_add-weight : goal.overflow_add-weight
overflow_add-weight c =
    let roots = c.args.tree.now.forest in
    let n = c.in-Some.node in
    let f : ℕ → ℕ = λ n. get_or c.args.weights.now n 0 in
    let at = subst (λ (ws : List ℕ). Weighs f roots c.args.top ws c.loop-node.weight) c.in-Some.ensures.items c.loop-node.invariant in
    let next = weighs_next f roots c.len-most.ensures.valid.sound c.args.top c.pop.new.self.items n c.loop-node.weight at in
    let small : c.loop-node.weight + get_or c.args.weights.now n 0 < 2 ^ 64 = no_overflow c.loop-node.weight (f n) _ _ _ (2 ^ 64) next.whole (top_within f roots c.args.top c.requires.there) c.requires.few in
    let same : get_or c.args.weights.now c.number.result 0 ≡ get_or c.args.weights.now n 0 = ap (λ m. get_or c.args.weights.now m 0) c.number.ensures in
    omega (arith, small, same)

pub loop-node-preserved : goal.loop-node-preserved
loop-node-preserved c =
    let roots = c.args.tree.now.forest in
    let n = c.in-Some.node in
    let f : ℕ → ℕ = λ n. get_or c.args.weights.now n 0 in
    let at = subst (λ (ws : List ℕ). Weighs f roots c.args.top ws c.loop-node.weight) c.in-Some.ensures.items c.loop-node.invariant in
    let next = weighs_next f roots c.len-most.ensures.valid.sound c.args.top c.pop.new.self.items n c.loop-node.weight at in
    let there = subst (λ (ws : List ℕ). Weighs f roots c.args.top ws (c.loop-node.weight + f n)) (sym c.in_ok-push_children.ensures) next in
    subst (λ m. Weighs f roots c.args.top c.push_children.new.waiting.items (c.loop-node.weight + get_or c.args.weights.now m 0)) (sym c.number.ensures) there
