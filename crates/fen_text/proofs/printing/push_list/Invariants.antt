use Rattle.std.proofs.Common.{take}
use Rattle.fen_text.specs.Printed.{printed_items}
use Rattle.fen_text.proofs.Lists.{ListSoFar}
use Rattle.fen_text.proofs.printing.push_list.Given as goal

abbrev pub invariant-loop-square : goal.invariant-loop-square
invariant-loop-square l = ListSoFar l.initial.text.bytes l.text.bytes l.is_first (printed_items l.side 1 (take l.square-index l.p.cells))
