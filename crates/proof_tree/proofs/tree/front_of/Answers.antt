use Rattle.std.proofs.Common.{◌≤◌, ℕ, map, sym, ap, subst, ◌∙◌, arith}
use Rattle.std.proofs.lemmas.List.{length-map}
use Rattle.std.specs.Map.{values_of}
use Rattle.draughts_board.specs.Board.{Board}
use Rattle.proof_tree.specs.Rows.{node_in, nodes_from, settled_front}
use Rattle.proof_tree.proofs.Choosing.{nodes-forest}
use Rattle.proof_tree.proofs.Trees.{tops-are}
use Rattle.proof_tree.proofs.tree.front_of.Goals as goal

pub settled_front-requires-clause-inside : goal.settled_front-requires-clause-inside
settled_front-requires-clause-inside c i l =
    let many = length-map c.args.roots.now.entries (λ (e : Board × ℕ). e.1) in
    (tops-are c.args.rows.now (values_of c.args.roots.now.entries) c.requires.roots i (omega (arith, l, many))).0

pub settled_front-requires-clause-settled : goal.settled_front-requires-clause-settled
settled_front-requires-clause-settled c =
    subst (λ (n : ℕ). c.args.front ≤ n)
    (ap settled_front (nodes-forest (map (node_in (nodes_from 0 c.args.rows.now)) (values_of c.args.roots.now.entries)))) c.requires.settled

pub returns : goal.returns
returns c =
    c.settled_front.ensures
    ∙ ap settled_front (sym (nodes-forest (map (node_in (nodes_from 0 c.args.rows.now)) (values_of c.args.roots.now.entries))))
