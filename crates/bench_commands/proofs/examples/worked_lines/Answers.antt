use Rattle.std.proofs.Common.{refl}
use Rattle.bench_commands.proofs.examples.worked_lines.Goals as goal

pub returns : goal.returns
returns c shown = record {
  begun = refl;
  staged = refl;
  unapplied = refl;
  committed = refl;
  all_applied = refl;
  given = refl;
  no_work_yet = refl;
  one_work = refl;
  first_lives = refl;
  first_ends = refl;
  runs_out = refl;
  lasts_longer = refl;
  released = refl;
  waits_for_commit = refl;
  is_done = refl;
  one_row = refl;
  kept_row = refl;
  no_row = refl;
  budget = refl;
  most = refl;
  same_root = refl;
}
