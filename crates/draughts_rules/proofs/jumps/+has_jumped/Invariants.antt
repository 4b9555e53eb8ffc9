use Rattle.std.proofs.Common.{length}
use Rattle.draughts_rules.proofs.jumps.+has_jumped.Given as goal

abbrev pub decreases-has_jumped : goal.decreases-has_jumped
decreases-has_jumped l = length l.path.now
