use Rattle.std.proofs.Common.{◌≡◌, ◌≤◌, ◌<◌, ◌+◌, ◌++◌, ◌∙◌, List, ℕ, length, get_or, ap, refl, subst, arith}
use Rattle.std.specs.Prelude.{OnOk, codes}
use Rattle.draughts_board.specs.declared.pieces.Cell.TheVariants.{Empty}
use Rattle.fen_text.proofs.Lists.{cell_is, square_is}
use Rattle.page_text.specs.Boards.{board, piece, pieces}
use Rattle.page_text.specs.Markup.{markup_text}
use Rattle.page_text.proofs.TextLemmas.{board-text, pieces-end, pieces-step}
use Rattle.page_text.proofs.boards.push_board.Goals as goal

pub loop-square-preserved : goal.loop-square-preserved
loop-square-preserved c =
    let p = c.args.p.now in
    let i = c.loop-square.square-index in
    let size = c.at-cell.ensures.lawful.squares in
    let here = square_is c.all-square-items.result i c.square-item.result c.all-square-items.ensures c.loop-square-test.true in
    let cell = cell_is p i (get_or c.all-square-items.result i c.square-item.result) c.at-cell.result here c.at-cell.ensures.value in
    let pushed : c.push_piece.new.text.items ≡ c.loop-square.text.items ++ markup_text (piece (get_or p.cells i Empty) (i + 1)) = c.in_ok-push_piece.ensures ∙ rw (here, cell) refl in
    let within : i < length p.cells = omega (arith, size, c.loop-square-test.true) in
    (pieces-step c.loop-square.text.items c.push_piece.new.text.items (c.say.new.text.items ++ markup_text (pieces 1 p.cells)) p.cells i within pushed c.loop-square.invariant.0, λ some. size)

pub returns : goal.returns
unfolding board
returns c =
    let p = c.args.p.now in
    let i = c.loop-square.square-index in
    let test = c.loop-square-test.false in
    let size = c.loop-square.invariant.1 (omega (arith, test)) in
    let past : length p.cells ≤ i = omega (arith, size, test) in
    let shown = pieces-end c.loop-square.text.items (c.say.new.text.items ++ markup_text (pieces 1 p.cells)) p.cells i past c.loop-square.invariant.0 in
    let all = ap (λ t. t ++ codes "</svg>") (shown ∙ ap (λ t. t ++ markup_text (pieces 1 p.cells)) c.in_ok-say.ensures) ∙ board-text c.args.text.now.items (pieces 1 p.cells) in
    subst (λ (t : List ℕ). OnOk c.say-2.result (c.say-2.new.text.items ≡ t)) all c.say-2.ensures
