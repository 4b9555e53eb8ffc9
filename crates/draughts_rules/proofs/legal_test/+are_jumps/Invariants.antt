use Rattle.std.proofs.Common.{length}
use Rattle.draughts_rules.proofs.legal_test.+are_jumps.Given as goal

abbrev pub decreases-are_jumps : goal.decreases-are_jumps
decreases-are_jumps l = length l.path.now
