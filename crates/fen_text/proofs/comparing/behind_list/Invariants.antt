-- What stands behind the squares left, behind the rest, is what stands behind all, behind the text.
use Rattle.std.proofs.Common.{◌≡◌}
use Rattle.draughts_board.specs.Masks.{squares_of}
use Rattle.fen_text.specs.Behind.{behind, items_text}
use Rattle.fen_text.specs.Grammar.{list_text}
use Rattle.fen_text.specs.Printed.{printed_items}
use Rattle.fen_text.proofs.comparing.behind_list.Given as goal

abbrev pub invariant-loop-left : goal.invariant-loop-left
invariant-loop-left l =
    behind (items_text l.p l.is_first (squares_of l.left)) l.rest ≡ behind (list_text (printed_items l.fn.side 1 l.p.cells)) l.text

abbrev pub decreases-loop-left : goal.decreases-loop-left
decreases-loop-left l = l.left
