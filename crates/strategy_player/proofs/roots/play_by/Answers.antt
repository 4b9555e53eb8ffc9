use Rattle.std.proofs.Common.{refl}
use Rattle.std.proofs.lemmas.Result.{err_from_is_err_and}
use Rattle.certificate_plays.specs.declared.refusals.LinesRefusal.TheVariants as lines
use Rattle.strategy_player.proofs.roots.play_by.Goals as goal

pub returns-in_err-table-clause-refused : goal.returns-in_err-table-clause-refused
returns-in_err-table-clause-refused c =
    let p = err_from_is_err_and c.from_residual.result c.from_residual.ensures.1 in
    rw (p.1, p.2) (record { cause = lines.Memory c.in_err-table.field-0.0; fault = tt; is = refl })

pub returns-in_err-proved-clause-refused : goal.returns-in_err-proved-clause-refused
returns-in_err-proved-clause-refused c =
    let p = err_from_is_err_and c.from_residual-in_err-proved.result c.from_residual-in_err-proved.ensures.1 in
    rw (p.1, p.2) (record { cause = lines.Memory c.in_err-proved.field-0.0; fault = tt; is = refl })

pub returns-in_err-play_text-clause-refused : goal.returns-in_err-play_text-clause-refused
returns-in_err-play_text-clause-refused c =
    let p = err_from_is_err_and c.from_residual-in_err-play_text.result c.from_residual-in_err-play_text.ensures.1 in
    rw (p.1, p.2) (record { cause = lines.Memory c.in_err-play_text.field-0.0; fault = tt; is = refl })
