use Rattle.std.proofs.Common.{List, sym, subst}
use Rattle.draughts_board.specs.Board.{Board}
use Rattle.position_rows.specs.Rows.{AreApart}
use Rattle.position_rows.specs.Tables.{IsIndexOf}
use Rattle.position_rows.proofs.ApartLemmas.{apart_taken}
use Rattle.position_rows.proofs.IndexedLemmas.{index_of_first}
use Rattle.position_rows.proofs.rows.PositionRows.truncate.Goals as goal

pub invariant_of-self : goal.invariant_of-self
invariant_of-self g c =
    subst (λ (rows : List (Board × g.row.E.Denot)). AreApart rows × IsIndexOf rows c.self.inside.index) (sym c.truncate.ensures.items)
    (apart_taken c.self.inside.rows.items c.self.invariant.0 c.args.count, index_of_first c.self.inside.rows.items c.self.inside.index c.args.count c.self.invariant.1)

pub returns-clause-apart : goal.returns-clause-apart
returns-clause-apart g c =
    subst (λ (rows : List (Board × g.row.E.Denot)). AreApart rows) (sym c.truncate.ensures.items) (apart_taken c.self.inside.rows.items c.self.invariant.0 c.args.count)
