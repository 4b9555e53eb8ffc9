use Rattle.std.proofs.Common.{◌≡◌, ◌∙◌, ◌||◌, false, not, ap, sym}
use Rattle.draughts_board.specs.Geometry.{squares}
use Rattle.draughts_board.specs.Board.{cell_at}
use Rattle.draughts_board.specs.Rules.{first_square, last_square, is_crowned_on, goes_on, further_jumps}
use Rattle.draughts_board.specs.Play.{is_nil}
use Rattle.draughts_board.specs.Masks.{stands_in}
use Rattle.draughts_board.proofs.OnSquares.{any-on_squares}
use Rattle.swift_moves.proofs.CaptureMasks.{nil-filter}
use Rattle.swift_moves.proofs.captures.is_done.Goals as goal

pub returns-else-is_crowned_on : goal.returns-else-is_crowned_on
returns-else-is_crowned_on c =
    let p = c.args.p.now in
    let path = c.args.path.now in
    let uncrowned : is_crowned_on (cell_at p (first_square path)) (last_square path) ≡ false =
    (λ i. is_crowned_on (sym (c.piece_at.ensures ∙ ap (cell_at p) c.first.ensures) i) (sym c.last.ensures i)) ∙ sym c.is_crowned_on.ensures ∙ c.if-is_crowned_on.false in
    ap not (c.is_any.ensures ∙ any-on_squares (stands_in c.args.targets) (goes_on p path) c.requires.targets)
    ∙ sym (nil-filter (goes_on p path) squares)
    ∙ ap (λ b. b || is_nil (further_jumps p path)) (sym uncrowned)
