use Rattle.std.proofs.Common.{List, sym, subst}
use Rattle.draughts_board.specs.Board.{Board}
use Rattle.position_rows.specs.Rows.{AreApart}
use Rattle.position_rows.specs.Tables.{IsIndexOf}
use Rattle.position_rows.proofs.ApartLemmas.{apart_nil}
use Rattle.position_rows.proofs.IndexedLemmas.{index_of_none}
use Rattle.position_rows.proofs.rows.PositionRows.new.Goals as goal

pub invariant_of-result : goal.invariant_of-result
invariant_of-result g c =
    subst (λ (rows : List (Board × g.row.E.Denot)). AreApart rows × IsIndexOf rows c.new-2.result) (sym c.new.ensures.items)
    (apart_nil g.row.E.Denot, index_of_none {E = g.row.E.Denot} c.new-2.result c.new-2.ensures.nodes c.new-2.ensures.room)
