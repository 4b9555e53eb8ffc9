use Rattle.std.proofs.Common.{length}
use Rattle.draughts_rules.proofs.next.+take_jumped.Given as goal

abbrev pub decreases-take_jumped : goal.decreases-take_jumped
decreases-take_jumped l = length l.path.now
