use Rattle.std.proofs.Common.{◌∙◌, ap, arith}
use Rattle.std.specs.Option.{option_map}
use Rattle.std.proofs.lemmas.Option.{slice_get-map}
use Rattle.position_rows.proofs.ApartLemmas.{as_many}
use Rattle.bench_records.proofs.named.position_in.Goals as goal

pub row_at-requires : goal.row_at-requires
row_at-requires c = omega (arith, as_many c.args.rows.now.entries)

pub returns : goal.returns
returns c =
    slice_get-map (λ row. row.0) c.args.rows.now.entries c.args.i ∙ ap (option_map (λ row. row.0)) c.row_at.ensures
