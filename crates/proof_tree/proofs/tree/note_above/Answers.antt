use Rattle.std.proofs.Common.{◌≡◌, ◌<◌, ℕ, Some, is_some, true, List, length, map, get_or, slice_get, IsSomeAnd, sym, ap, subst, ◌∙◌, arith}
use Rattle.std.proofs.lemmas.List.{length-map}
use Rattle.std.proofs.lemmas.Option.{slice_get-map, slice_get-get_or}
use Rattle.std.specs.Map.{values_of}
use Rattle.std.specs.Option.{option_map}
use Rattle.draughts_board.specs.Board.{Board}
use Rattle.proof_tree.specs.Forest.{Node, nodes, value_of}
use Rattle.proof_tree.specs.Rows.{node_in, nodes_from, forest_of, IsSettledAt}
use Rattle.proof_tree.proofs.Choosing.{nodes-forest}
use Rattle.proof_tree.proofs.RootLemmas.{place-inside}
use Rattle.proof_tree.proofs.Trees.{tops-are}
use Rattle.proof_tree.proofs.tree.note_above.Goals as goal

pub row_of-requires : goal.row_of-requires
row_of-requires c = place-inside _ c.args.roots.now.entries c.in-Some.place c.in-Some.ensures

pub is_settled-requires-clause-inside : goal.is_settled-requires-clause-inside
is_settled-requires-clause-inside c =
    let tops = values_of c.args.roots.now.entries in
    let within = place-inside _ c.args.roots.now.entries c.in-Some.place c.in-Some.ensures in
    let many = length-map c.args.roots.now.entries (λ (e : Board × ℕ). e.1) in
    subst (λ (k : ℕ). k < length c.args.rows.now) (sym c.row_of.ensures)
    (tops-are c.args.rows.now tops c.requires.roots c.in-Some.place (omega (arith, within, many))).0

pub returns-then-is_settled-clause-noted : goal.returns-then-is_settled-clause-noted
returns-then-is_settled-clause-noted c =
    let rows = c.args.rows.now in
    let tops = values_of c.args.roots.now.entries in
    let place = c.in-Some.place in
    let within = place-inside _ c.args.roots.now.entries place c.in-Some.ensures in
    let many = length-map c.args.roots.now.entries (λ (e : Board × ℕ). e.1) in
    let inside : place < length tops = omega (arith, within, many) in
    let f = node_in (nodes_from 0 rows) in
    let root = get_or tops place 0 in
    let found : slice_get (map f tops) place ≡ Some (f root) = slice_get-map f tops place ∙ ap (option_map f) (slice_get-get_or tops place 0 inside) in
    let settled : is_some (value_of (f root)) ≡ true =
    ap (λ (k : ℕ). is_some (value_of (f k))) (sym c.row_of.ensures) ∙ (sym c.is_settled.ensures ∙ c.if-is_settled.true) in
    let here : IsSettledAt (map f tops) place = subst (λ o. IsSomeAnd o (λ (x : Node). is_some (value_of x) ≡ true)) (sym found) settled in
    c.note.ensures.noted (nodes (forest_of rows tops)) (subst (λ (xs : List Node). IsSettledAt xs place) (sym (nodes-forest (map f tops))) here) c.requires.noted
