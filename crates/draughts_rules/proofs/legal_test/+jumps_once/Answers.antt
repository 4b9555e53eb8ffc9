use Rattle.draughts_board.proofs.LegalTests.{distinct-short}
use Rattle.draughts_rules.proofs.legal_test.+jumps_once.Goals as goal

pub returns-in_default : goal.returns-in_default
returns-in_default t c = distinct-short c.args.path.now c.in_default.len_below
