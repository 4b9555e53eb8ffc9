use Rattle.std.proofs.Common.{◌≡◌, ◌++◌, ◌+◌, ◌<◌, drop, length}
use Rattle.page_text.specs.Markup.{markup_text}
use Rattle.page_text.specs.Boards.{pieces}
use Rattle.page_text.proofs.boards.push_board.Given as goal

abbrev pub invariant-loop-square : goal.invariant-loop-square
invariant-loop-square l =
    (l.text.items ++ markup_text (pieces (l.square-index + 1) (drop l.square-index l.p.cells)) ≡ l.initial.text.items ++ markup_text (pieces 1 l.p.cells))
    × (0 < l.square-index → length l.p.cells ≡ 32)
