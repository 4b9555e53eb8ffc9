use Rattle.std.proofs.Common.{sym, subst}
use Rattle.draughts_board.specs.Board.{Board}
use Rattle.certificate_player.specs.Choices.{GoesOnAt}
use Rattle.certificate_lines.proofs.LineLemmas.{chosen_on}
use Rattle.certificate_lines.proofs.plies.own_ply.Goals as goal

pub next_rank-rank-requires : goal.next_rank-rank-requires
next_rank-rank-requires g c =
    let answer = g.O.Oracle.answer_at c.args.oracle.now in
    subst (λ (q : Board). GoesOnAt answer q c.args.rank c.args.part.now) (sym c.apply-next.ensures)
    (chosen_on answer c.args.part.now c.args.p.now c.args.rank c.requires.stands c.in_ok-path.path c.in_ok-path.ensures.chosen)
