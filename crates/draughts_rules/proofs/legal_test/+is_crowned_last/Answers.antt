use Rattle.draughts_board.proofs.LegalTests.{but_last-short}
use Rattle.draughts_rules.proofs.legal_test.+is_crowned_last.Goals as goal

pub returns-in_default : goal.returns-in_default
returns-in_default t c = but_last-short _ c.args.path.now c.in_default.len_below
