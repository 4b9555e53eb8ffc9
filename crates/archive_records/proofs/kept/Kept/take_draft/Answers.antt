use Rattle.std.proofs.Common.{sym, subst}
use Rattle.archive_records.specs.Inside.{IsGameWithin}
use Rattle.archive_records.proofs.kept.Kept.take_draft.Goals as goal

pub invariant_of-self : goal.invariant_of-self
invariant_of-self c = record {
  draft_within = subst (IsGameWithin c.args.self.now.reached) (sym c.replace-game.ensures.after) (c.empty-next.ensures.within c.args.self.now.reached);
  ended_within = c.args.self.now.ended_within;
}
