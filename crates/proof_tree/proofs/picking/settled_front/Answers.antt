use Rattle.std.proofs.Common.{rules, ◌≡◌, ◌<◌, ℕ, true, false, is_some, length, map, sym, ap, arith, ◌∙◌}
use Rattle.std.proofs.lemmas.List.{get_or-map, length-map}
use Rattle.std.specs.Map.{values_of}
use Rattle.draughts_board.specs.Board.{Board}
use Rattle.proof_tree.specs.Forest.{Node, value_of}
use Rattle.proof_tree.specs.Rows.{blank_node, node_in, nodes_from}
use Rattle.proof_tree.proofs.Settled.{front_within, front_goes_on, front_ends}
use Rattle.proof_tree.proofs.picking.settled_front.Goals as goal

pub returns-then-not-is_settled : goal.returns-then-not-is_settled
returns-then-not-is_settled c =
    let f = node_in (nodes_from 0 c.args.rows.now) in
    let tops = values_of c.args.roots.now.entries in
    let inside : c.loop-i.i < length c.args.roots.now.entries = omega (arith, c.loop-i-test.true, c.len-i-end.ensures.value) in
    let all = length-map c.args.roots.now.entries (λ (e : Board × ℕ). e.1) in
    let many = length-map tops f in
    let here = get_or-map f tops c.loop-i.i 0 blank_node (omega (arith, inside, all)) in
    let is : c.is_settled.result ≡ false = search rules in
    front_ends (map f tops) c.loop-i.i (omega (arith, many, all, inside)) c.loop-i.invariant
    (ap (λ (x : Node). is_some (value_of x)) (here ∙ ap f (sym c.row_of.ensures)) ∙ (sym c.is_settled.ensures ∙ is))

pub loop-i-preserved : goal.loop-i-preserved
loop-i-preserved c =
    let f = node_in (nodes_from 0 c.args.rows.now) in
    let tops = values_of c.args.roots.now.entries in
    let inside : c.loop-i.i < length c.args.roots.now.entries = omega (arith, c.loop-i-test.true, c.len-i-end.ensures.value) in
    let all = length-map c.args.roots.now.entries (λ (e : Board × ℕ). e.1) in
    let many = length-map tops f in
    let here = get_or-map f tops c.loop-i.i 0 blank_node (omega (arith, inside, all)) in
    let is : c.is_settled.result ≡ true = search rules in
    let more = front_goes_on (map f tops) c.loop-i.i (omega (arith, many, all, inside)) c.loop-i.invariant
    (ap (λ (x : Node). is_some (value_of x)) (here ∙ ap f (sym c.row_of.ensures)) ∙ (sym c.is_settled.ensures ∙ is)) in
    omega (arith, more)

pub returns : goal.returns
returns c =
    let f = node_in (nodes_from 0 c.args.rows.now) in
    let tops = values_of c.args.roots.now.entries in
    let past = c.loop-i-test.false in
    let all = length-map c.args.roots.now.entries (λ (e : Board × ℕ). e.1) in
    let many = length-map tops f in
    let most = front_within (map f tops) in
    let at = c.loop-i.invariant in
    omega (arith, past, c.len-i-end.ensures.value, c.len.ensures.value, many, all, most, at)
