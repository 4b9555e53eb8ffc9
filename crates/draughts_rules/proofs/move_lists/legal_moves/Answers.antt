use Rattle.std.proofs.Common.{◌≡◌, subst}
use Rattle.std.specs.Prelude.{IfOk}
use Rattle.draughts_board.specs.Board.{Board}
use Rattle.draughts_board.specs.Rules.{AreLegalPaths}
use Rattle.draughts_board.specs.Play.{legal_paths}
use Rattle.draughts_rules.proofs.move_lists.legal_moves.Goals as goal

pub returns-clause-exact : goal.returns-clause-exact
returns-clause-exact c = subst (λ (p : Board). IfOk c.moves_on.result (λ moves. moves.items ≡ legal_paths p)) c.of.ensures c.moves_on.ensures.exact

pub returns-clause-rules : goal.returns-clause-rules
returns-clause-rules c = subst (λ (p : Board). IfOk c.moves_on.result (λ moves. AreLegalPaths p moves.items)) c.of.ensures c.moves_on.ensures.rules
