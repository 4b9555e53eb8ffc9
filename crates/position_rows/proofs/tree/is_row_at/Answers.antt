use Rattle.std.proofs.Common.{sym, subst, ◌↔◌, ◌≡◌, Bool, true}
use Rattle.position_rows.specs.Rows.{IsRowAt}
use Rattle.position_rows.proofs.RowLemmas.{row_at-iff}
use Rattle.position_rows.proofs.tree.is_row_at.Goals as goal

pub returns : goal.returns
returns g c =
    let iff = row_at-iff c.args.rows.now c.args.i c.args.p.now c.index-rows-i.result c.requires in
    subst (λ (b : Bool). (b ≡ true) ↔ IsRowAt c.args.rows.now c.args.i c.args.p.now) (sym c.eq.ensures) iff
