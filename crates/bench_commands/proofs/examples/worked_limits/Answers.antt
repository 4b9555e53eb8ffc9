use Rattle.std.proofs.Common.{refl}
use Rattle.bench_commands.proofs.examples.worked_limits.Goals as goal

pub returns : goal.returns
returns c = record {
  games_bytes = refl;
  certificate_bytes = refl;
  table_bytes = refl;
  games = refl;
  roots = refl;
  work = refl;
  depth = refl;
  lease = refl;
  openings = refl;
  first_searches = refl;
  rank = refl;
  found_rank = refl;
  short_rank = refl;
  jumps = refl;
  others = refl;
  indices = refl;
  seed_factor = refl;
  step_factor = refl;
  fewest_workers = refl;
  most_workers = refl;
  workers = refl;
  deepest = refl;
  depth_unsaid = refl;
  fewest_pieces = refl;
  most_pieces = refl;
  pieces = refl;
  most_plies = refl;
  plies = refl;
  most_budget = refl;
  budget = refl;
  shortest_lease = refl;
  longest_lease = refl;
  lease_unsaid = refl;
  first_root = refl;
  last_root = refl;
  last_seed = refl;
  fewest_openings = refl;
  most_openings = refl;
  generate_pieces = refl;
  generate_depth = refl;
  generate_lease = refl;
}
