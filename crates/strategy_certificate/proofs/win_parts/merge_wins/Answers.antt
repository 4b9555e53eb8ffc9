use Rattle.std.proofs.Common.{◌≡◌, sym, subst, ◌∙◌, ap}
use Rattle.std.specs.Prelude.{All}
use Rattle.strategy_certificate.specs.Parts.{IsWinRow, merged_wins}
use Rattle.strategy_certificate.proofs.RowLemmas.{All-merged_wins}
use Rattle.strategy_certificate.proofs.win_parts.merge_wins.Goals as goal

pub invariant_of-into-2 : goal.invariant_of-into-2
invariant_of-into-2 c =
    let into = c.into.inside.entries.entries in
    let from = c.from.inside.entries.entries in
    let merged : c.improve_all.new.into.entries ≡ merged_wins into from =
    c.improve_all.ensures.entries ∙ ap (λ rows. merged_wins rows from) c.in_ok-reserve.ensures.entries in
    record {
      distinct = c.improve_all.ensures.distinct;
      rows = subst (All IsWinRow) (sym merged) (All-merged_wins into from c.into.invariant.rows c.from.invariant.rows);
    }
