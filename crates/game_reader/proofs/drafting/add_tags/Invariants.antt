use Rattle.std.proofs.Common.{◌≡◌}
use Rattle.game_reader.proofs.drafting.add_tags.Given as goal

abbrev pub invariant-loop-tag : goal.invariant-loop-tag
invariant-loop-tag l = record { set_up : l.draft.set_up ≡ l.initial.draft.set_up; here : l.draft.here ≡ l.initial.draft.here }
