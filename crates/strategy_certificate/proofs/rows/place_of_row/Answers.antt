use Rattle.position_rows.proofs.ApartLemmas.{position_found, row_found}
use Rattle.strategy_certificate.proofs.rows.place_of_row.Goals as goal

pub returns : goal.returns
returns g c i =
    let rows = c.args.rows.now.entries in
    rw c.place.ensures (row_found rows i c.args.p.now, λ row. position_found rows c.requires i c.args.p.now row)
