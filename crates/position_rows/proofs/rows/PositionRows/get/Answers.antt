use Rattle.std.proofs.Common.{List, position, sym, ◌∙◌, ap}
use Rattle.draughts_board.specs.Board.{Board, same_board}
use Rattle.position_rows.specs.Rows.{RowList, positions_of}
use Rattle.position_rows.proofs.ApartLemmas.{get_none, get_some}
use Rattle.position_rows.proofs.rows.PositionRows.get.Goals as goal

pub returns-in_err-i : goal.returns-in_err-i
returns-in_err-i g c =
    c.from_residual.ensures
    ∙ sym (get_none c.self.inside.rows.items c.args.self.now.entries (ap (λ (v : RowList g.row.E.Denot). v.entries) c.self.view_is) c.self.invariant.0 c.args.p.now
    c.place.result (c.place.ensures ∙ ap (λ (rows : List (Board × g.row.E.Denot)). position (same_board c.args.p.now) (positions_of rows)) c.deref.ensures.value) c.in_err-i.was)

pub returns : goal.returns
returns g c =
    sym (get_some c.self.inside.rows.items c.args.self.now.entries (ap (λ (v : RowList g.row.E.Denot). v.entries) c.self.view_is) c.self.invariant.0 c.args.p.now
    c.place.result c.in_ok-i.i (c.place.ensures ∙ ap (λ (rows : List (Board × g.row.E.Denot)). position (same_board c.args.p.now) (positions_of rows)) c.deref.ensures.value)
    c.in_ok-i.was c.index.result.now c.index.ensures)
