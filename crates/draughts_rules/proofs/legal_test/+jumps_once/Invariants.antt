use Rattle.std.proofs.Common.{length}
use Rattle.draughts_rules.proofs.legal_test.+jumps_once.Given as goal

abbrev pub decreases-jumps_once : goal.decreases-jumps_once
decreases-jumps_once l = length l.path.now
