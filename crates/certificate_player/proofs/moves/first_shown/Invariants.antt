use Rattle.std.proofs.Common.{take}
use Rattle.std.specs.Prelude.{All}
use Rattle.draughts_board.specs.Rules.{after}
use Rattle.certificate_player.specs.Choices.{IsShown}
use Rattle.certificate_player.proofs.moves.first_shown.Given as goal

abbrev pub invariant-loop-m : goal.invariant-loop-m
invariant-loop-m g l = All (λ path. IsShown (g.O.Oracle.answer_at l.oracle) (after l.p path) l.rank l.part → ⊥) (take l.m-index l.moves)
