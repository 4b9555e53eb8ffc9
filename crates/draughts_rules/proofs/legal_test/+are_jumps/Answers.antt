use Rattle.draughts_board.proofs.LegalTests.{following-short}
use Rattle.draughts_rules.proofs.legal_test.+are_jumps.Goals as goal

pub returns-in_default : goal.returns-in_default
returns-in_default t c = following-short _ c.args.path.now c.in_default.len_below
