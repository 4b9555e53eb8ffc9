use Rattle.std.proofs.Common.{sym, subst}
use Rattle.std.specs.Prelude.{All}
use Rattle.strategy_certificate.specs.Parts.{IsHoldRow}
use Rattle.strategy_certificate.proofs.RowLemmas.{All-hold_of}
use Rattle.strategy_certificate.proofs.win_parts.as_hold.Goals as goal

pub of-requires : goal.of-requires
of-requires c = record {
  distinct = c.in_ok-entries.ensures.distinct;
  rows = subst (All IsHoldRow) (sym c.in_ok-entries.ensures.entries) (All-hold_of c.part.inside.entries.entries c.part.invariant.rows);
}
