use Rattle.std.proofs.Common.{refl, ◌∙◌, arith}
use Rattle.fen_text.specs.Printed.{fen_of}
use Rattle.fen_text.proofs.Lists.{printed_text}
use Rattle.fen_text.proofs.printing.print_fen.Goals as goal

pub returns-clause-text : goal.returns-clause-text
unfolding fen_of
returns-clause-text c = printed_text _ _ _ c.push.new.self.bytes c.push_str.new.self.bytes c.push_list.new.text.bytes c.push_str-2.new.self.bytes c.push_list-2.new.text.bytes (c.push.ensures.ascii (omega (arith, c.from.ensures, c.letter.ensures.ascii)) ∙ rw (c.new-text.ensures, c.from.ensures, c.letter.ensures.value, c.to_move.ensures.value) refl) c.push_str.ensures.bytes c.push_list.ensures.bytes c.push_str-2.ensures.bytes c.push_list-2.ensures.bytes
