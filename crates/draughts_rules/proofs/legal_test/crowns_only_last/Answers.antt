use Rattle.std.proofs.Common.{◌∙◌, ap, not}
use Rattle.draughts_board.specs.Board.{cell_at}
use Rattle.draughts_board.specs.Rules.{all_but_last, is_crowned_on}
use Rattle.draughts_rules.proofs.legal_test.crowns_only_last.Goals as goal

pub returns : goal.returns
returns c =
    c.is_crowned_last.ensures
    ∙ ap (λ piece. all_but_last (λ x. not (is_crowned_on piece x)) c.args.path.now) (c.at.ensures.value ∙ ap (cell_at c.args.p.now) c.first.ensures)
