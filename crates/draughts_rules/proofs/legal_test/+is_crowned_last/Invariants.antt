use Rattle.std.proofs.Common.{length}
use Rattle.draughts_rules.proofs.legal_test.+is_crowned_last.Given as goal

abbrev pub decreases-is_crowned_last : goal.decreases-is_crowned_last
decreases-is_crowned_last l = length l.path.now
