use Rattle.std.proofs.Common.{◌≡◌, sym, subst, Some}
use Rattle.std.specs.Prelude.{eqb, position}
use Rattle.std.specs.List.{IsDistinct}
use Rattle.std.specs.Map.{keys_of}
use Rattle.indexmap.proofs.CallerLemmas.{keys-with_value_at}
use Rattle.indexmap.proofs.MapLemmas.{Found-position, insert_entry-first}
use Rattle.lease_table.proofs.table.put.Goals as goal

pub returns-clause-entries : goal.returns-clause-entries
returns-clause-entries c =
    let es = c.args.rows.now.entries in
    let at : position (eqb c.args.number) (keys_of es) ≡ Some c.in-Some.place = sym c.in-Some.ensures.index in
    sym (insert_entry-first eqb c.args.number c.args.row es c.in-Some.place (Found-position (eqb c.args.number) es c.in-Some.place at).first)

pub returns-clause-unique : goal.returns-clause-unique
returns-clause-unique c = subst (IsDistinct eqb) (sym (keys-with_value_at c.args.rows.now c.in-Some.place c.args.row)) c.in-Some.ensures.unique
