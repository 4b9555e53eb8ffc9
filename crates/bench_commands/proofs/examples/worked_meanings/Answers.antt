use Rattle.std.proofs.Common.{refl}
use Rattle.draughts_board.specs.Geometry.{squares}
use Rattle.draughts_board.specs.Play.{grown, captures, steps, legal_paths}
use Rattle.draughts_board.specs.Resolution.{matches}
use Rattle.bench_commands.proofs.examples.worked_meanings.Goals as goal

pub returns : goal.returns
unfolding squares grown captures steps legal_paths matches
returns c = record { round = refl; both_ways = refl; one_way = refl; half_way = refl }
