use Rattle.std.proofs.Common.{◌≡◌, List, Some, set, slice_get, ◌∙◌, ap}
use Rattle.std.proofs.lemmas.Option.{get_or_from_slice_get}
use Rattle.draughts_board.specs.Board.{Board}
use Rattle.position_rows.specs.Rows.{RowList}
use Rattle.position_rows.proofs.ApartLemmas.{apart_replaced, positions_stay}
use Rattle.position_rows.proofs.IndexedLemmas.{index_of_same}
use Rattle.position_rows.proofs.rows.PositionRows.replace.Goals as goal

pub invariant_of-self : goal.invariant_of-self
invariant_of-self g c =
    let rows = c.self.inside.rows.items in
    let row : Board × g.row.E.Denot = c.index_mut.result.now in (
      apart_replaced rows c.self.invariant.0 c.args.i row c.args.e c.index_mut.ensures.value,
      index_of_same rows (set rows c.args.i (row.0, c.args.e)) c.self.inside.index (positions_stay rows c.args.i row c.args.e c.index_mut.ensures.value) c.self.invariant.1,
    )

pub returns-clause-entries : goal.returns-clause-entries
returns-clause-entries g c p old at =
    let rows = c.self.inside.rows.items in
    let row : Board × g.row.E.Denot = c.index_mut.result.now in
    let same : c.self.inside.rows.items ≡ c.args.self.now.entries = ap (λ (v : RowList g.row.E.Denot). v.entries) c.self.view_is in
    let there : slice_get c.self.inside.rows.items c.args.i ≡ Some (p, old) = ap (λ (es : List (Board × g.row.E.Denot)). slice_get es c.args.i) same ∙ at in
    let first : row.0 ≡ p = ap (λ (r : Board × g.row.E.Denot). r.0) (c.index_mut.ensures.value ∙ get_or_from_slice_get rows c.args.i (p, old) row there) in
    λ k. set (same k) c.args.i (first k, c.args.e)

pub returns-clause-apart : goal.returns-clause-apart
returns-clause-apart g c = apart_replaced c.self.inside.rows.items c.self.invariant.0 c.args.i c.index_mut.result.now c.args.e c.index_mut.ensures.value
