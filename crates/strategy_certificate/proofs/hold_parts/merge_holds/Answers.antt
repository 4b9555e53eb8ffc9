use Rattle.std.proofs.Common.{◌≡◌, sym, subst, ◌∙◌, ap}
use Rattle.std.specs.Prelude.{All}
use Rattle.strategy_certificate.specs.Parts.{IsHoldRow, merged_holds}
use Rattle.strategy_certificate.proofs.RowLemmas.{All-merged_holds}
use Rattle.strategy_certificate.proofs.hold_parts.merge_holds.Goals as goal

pub invariant_of-into-2 : goal.invariant_of-into-2
invariant_of-into-2 c =
    let into = c.into.inside.entries.entries in
    let from = c.from.inside.entries.entries in
    let merged : c.add_all_new.new.into.entries ≡ merged_holds into from =
    c.add_all_new.ensures.entries ∙ ap (λ rows. merged_holds rows from) c.in_ok-reserve.ensures.entries in
    record {
      distinct = c.add_all_new.ensures.distinct;
      rows = subst (All IsHoldRow) (sym merged) (All-merged_holds into from c.into.invariant.rows c.from.invariant.rows);
    }
