use Rattle.std.proofs.Common.{subst}
use Rattle.std.specs.Prelude.{IsTrue, ◌↔◌}
use Rattle.draughts_board.specs.Board.{Board}
use Rattle.draughts_board.specs.Rules.{IsLegal}
use Rattle.draughts_rules.proofs.legal_test.is_legal.Goals as goal

pub returns : goal.returns
returns c = subst (λ (p : Board). IsTrue c.is_legal_on.result ↔ IsLegal p c.args.m.now) c.of.ensures c.is_legal_on.ensures
