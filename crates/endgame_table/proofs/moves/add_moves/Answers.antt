use Rattle.std.proofs.Common.{◌≡◌, ◌-◌, ◌<◌, ◌≤◌, cond, length, map, sym, ◌∙◌, ap, subst, arith}
use Rattle.std.specs.Prelude.{All}
use Rattle.std.proofs.lemmas.Bool.{ne_eqb}
use Rattle.std.proofs.lemmas.List.{length-map}
use Rattle.draughts_board.specs.Board.{Board, piece_count}
use Rattle.draughts_board.specs.Play.{successors_of}
use Rattle.table_index.specs.Order.{entry_count, index_of}
use Rattle.endgame_table.specs.Rows.{begun_number}
use Rattle.endgame_table.proofs.Sound.{size-most}
use Rattle.endgame_table.proofs.Filled.{count-most, few-after, indices-few}
use Rattle.endgame_table.proofs.moves.add_moves.Goals as goal

pub position_at-requires : goal.position_at-requires
position_at-requires c =
    let below = c.requires.index in
    let count = c.requires.table.1.1 in
    let most = count-most c.requires.table.0 c.requires.table.1.0 in
    omega (arith, below, count, most)

pub add_origins-requires-clause-few : goal.add_origins-requires-clause-few
add_origins-requires-clause-few c =
    let below = c.requires.index in
    let count = c.requires.table.1.1 in
    let most = count-most c.requires.table.0 c.requires.table.1.0 in
    subst (All (λ (q : Board). piece_count q ≤ 3)) (sym (c.as_slice.ensures.value ∙ c.in_ok-successors_into.ensures.exact))
    (few-after c.in-Some.p c.in-Some.ensures.lawful (c.in-Some.ensures.few 3 (omega arith) (omega (arith, below, count, most))))

pub add_origins-requires-clause-inside : goal.add_origins-requires-clause-inside
add_origins-requires-clause-inside c =
    let k = c.requires.table.0 in
    let size = c.requires.table.1.0 in
    let count = c.requires.table.1.1 in
    let below : c.args.index < entry_count k = (let b = c.requires.index in omega (arith, b, count)) in
    let few = c.in-Some.ensures.few k (size-most k size) below in
    subst (λ n. All (λ (q : Board). index_of q < n) c.as_slice.result.now) (sym count)
    (subst (All (λ (q : Board). index_of q < entry_count k)) (sym (c.as_slice.ensures.value ∙ c.in_ok-successors_into.ensures.exact))
    (indices-few k (size-most k size) c.in-Some.p c.in-Some.ensures.lawful few))

pub returns-else-count-eq0-clause-number : goal.returns-else-count-eq0-clause-number
returns-else-count-eq0-clause-number c =
    let p : Board = c.in-Some.p in
    let long : length (map index_of c.as_slice.result.now) ≡ length (successors_of p) = length-map c.as_slice.result.now index_of ∙ ap length (c.as_slice.ensures.value ∙ c.in_ok-successors_into.ensures.exact) in
    let links = c.in_ok-add_origins.ensures.adds.links in
    let size : length (successors_of p) ≡ c.len.result - c.len-before.result = omega (arith, long, links, c.len.ensures, c.len-before.ensures, c.add_origins.new.origins.links.ok.0, c.args.origins.now.links.ok.0) in
    sym (ap (λ b. cond b 1 0) (ne_eqb (length (successors_of p)) 0 (λ z. c.if-count-eq0.false (sym size ∙ z)))) ∙ ap begun_number c.in-Some.ensures.value
