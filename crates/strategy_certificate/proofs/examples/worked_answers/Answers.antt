use Rattle.std.proofs.Common.{refl, inl, inr, arith}
use Rattle.draughts_board.specs.Examples.{man_blocked}
use Rattle.strategy_certificate.proofs.WinInOne.{blocked_ends, blocks}
use Rattle.strategy_certificate.proofs.examples.worked_answers.Goals as goal

pub returns : goal.returns
returns c = record {
  blocked_lost = λ a. (λ q next. absurd (blocked_ends q next), inl refl);
  blocked_no_draw = λ a h. blocked_ends h.0.0 h.0.1.0;
  blocked_no_win = λ a r h. blocked_ends h.1.1.0.0 h.1.1.0.1.0;
  blocked_no_later = λ a h. elim h.1 [ inl e ↦ cc | inr next ↦ blocked_ends next.0 next.1.0 ];
  to_block_won = λ a lost. (0, (refl, ((man_blocked, (blocks, lost)), λ q next m is. omega arith)));
  to_block_no_later = λ a lost h. (let le = h.1.1.1 man_blocked blocks 0 lost in let e = h.1.0 in omega arith);
  to_block_no_draw = λ a lost h. h.1 man_blocked blocks 0 lost;
}
