use Rattle.std.proofs.Common.{sym}
use Rattle.position_rows.proofs.ApartLemmas.{position_found, position_none}
use Rattle.position_rows.proofs.IndexedLemmas.{tells_none}
use Rattle.position_rows.proofs.tables.Index.place.Goals as goal

pub returns-in-At : goal.returns-in-At
returns-in-At g c = sym (position_found c.args.rows.now c.requires.apart c.in-At.i c.args.p.now c.in-At.ensures)

pub returns-in_default : goal.returns-in_default
returns-in_default g c =
    sym (position_none c.args.rows.now c.args.p.now
    (tells_none c.args.rows.now c.deref.result.now c.deref-2.result.now c.args.p.now c.look_up.result c.in_default.not-At c.look_up.ensures))
