use Rattle.std.proofs.Common.{◌≡◌, ◌∙◌, ap}
use Rattle.draughts_board.specs.Board.{belongs, cell_at}
use Rattle.draughts_board.specs.declared.pieces.Side.TheVariants.{Black, White}
use Rattle.fen_text.proofs.Behind.{black-mask, white-mask}
use Rattle.fen_text.proofs.comparing.squares_with.Goals as goal

pub returns-in-Black-clause-mask : goal.returns-in-Black-clause-mask
returns-in-Black-clause-mask c n square =
    let side : Black ≡ c.args.side = (let is = c.in-Black.is in cc) in
    black-mask c.args.p.now c.masks.result c.masks.ensures.squares n square ∙ ap (λ s. belongs s (cell_at c.args.p.now n)) side

pub returns-in-White-clause-mask : goal.returns-in-White-clause-mask
returns-in-White-clause-mask c n square =
    let side : White ≡ c.args.side = (let is = c.in-White.is in cc) in
    white-mask c.args.p.now c.masks.result c.masks.ensures.squares n square ∙ ap (λ s. belongs s (cell_at c.args.p.now n)) side
