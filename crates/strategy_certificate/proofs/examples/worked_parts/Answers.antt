use Rattle.strategy_certificate.specs.Examples.{no_answer, win_in_one}
use Rattle.strategy_certificate.proofs.GoodMerges.{good_wins_hold}
use Rattle.strategy_certificate.proofs.WinInOne.{win_in_one-good, level, without_move, backward, alone}
use Rattle.strategy_certificate.proofs.examples.worked_parts.Goals as goal

pub returns : goal.returns
returns c = record {
  good = win_in_one-good;
  good_as_hold = (good_wins_hold no_answer win_in_one win_in_one-good).0;
  level = level;
  without_move = without_move;
  backward = backward;
  alone = alone;
}
