use Rattle.std.proofs.Common.{sym, subst}
use Rattle.std.specs.List.{All}
use Rattle.std.proofs.lemmas.List.Elements.{All-nil}
use Rattle.archive_records.specs.Inside.{IsGameWithin}
use Rattle.archive_records.proofs.kept.Kept.new.Goals as goal

pub invariant_of-result : goal.invariant_of-result
invariant_of-result c = record {
  draft_within = c.empty.ensures.within 0;
  ended_within = subst (All (IsGameWithin 0)) (sym c.new.ensures.items) (All-nil (IsGameWithin 0));
}
