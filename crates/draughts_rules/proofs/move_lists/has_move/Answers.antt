use Rattle.std.proofs.Common.{◌∙◌, not, ap, subst, List, ℕ}
use Rattle.std.specs.Prelude.{IsTrue, ◌↔◌}
use Rattle.draughts_board.specs.Board.{Board}
use Rattle.draughts_board.specs.Rules.{IsLegal}
use Rattle.draughts_board.specs.Play.{is_nil, legal_paths}
use Rattle.draughts_rules.proofs.move_lists.has_move.Goals as goal

pub returns-clause-rules : goal.returns-clause-rules
returns-clause-rules c = subst (λ (p : Board). IsTrue c.has_move_on.result ↔ ((path : List ℕ) × IsLegal p path)) c.of.ensures c.has_move_on.ensures.rules

pub returns-clause-listed : goal.returns-clause-listed
returns-clause-listed c = c.has_move_on.ensures.listed ∙ ap (λ (p : Board). not (is_nil (legal_paths p))) c.of.ensures
