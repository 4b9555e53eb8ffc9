use Rattle.std.proofs.Common.{◌≡◌, take}
use Rattle.bench_commands.specs.Solving.{roots_of_openings}
use Rattle.bench_commands.proofs.commands.solve.distinct_positions.Given as goal

abbrev pub invariant-loop-opening : goal.invariant-loop-opening
invariant-loop-opening l = l.positions ≡ roots_of_openings (take l.opening-index l.openings)
