use Rattle.std.proofs.Common.{◌≡◌, Some, take}
use Rattle.std.specs.Prelude.{map}
use Rattle.strict_games.specs.Drafts.{led_to}
use Rattle.game_reader.specs.Drafting.{squares_of}
use Rattle.game_reader.proofs.drafting.play_all.Given as goal

abbrev pub invariant-loop-i : goal.invariant-loop-i
invariant-loop-i l = record {
  led : led_to (Some l.initial.draft.here) (map squares_of (take l.i l.moves)) ≡ Some l.draft.here;
  set_up : l.draft.set_up ≡ l.initial.draft.set_up;
}
