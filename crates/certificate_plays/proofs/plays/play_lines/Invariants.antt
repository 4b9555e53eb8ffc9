use Rattle.std.proofs.Common.{length}
use Rattle.certificate_plays.proofs.PlayLemmas.{Comes}
use Rattle.certificate_plays.proofs.plays.play_lines.Given as goal

abbrev pub invariant-loop-line : goal.invariant-loop-line
invariant-loop-line g l = Comes (g.O.Oracle.answer_at l.oracle) l.fn.player.certificate l.fn.player.side l.source l.rest l.moves.items l.number l.player

abbrev pub decreases-loop-line : goal.decreases-loop-line
decreases-loop-line g l = length l.rest
