use Rattle.std.proofs.Common.{[], refl}
use Rattle.std.proofs.lemmas.List.Elements.{All-nil, All-cons}
use Rattle.draughts_board.specs.Examples.{man_to_block}
use Rattle.strategy_certificate.specs.declared.certificates.Part.TheVariants as part
use Rattle.strategy_certificate.specs.Certificates.{IsGoodPart}
use Rattle.strategy_certificate.specs.Examples.{no_answer, win_in_one}
use Rattle.strategy_certificate.proofs.WinInOne.{win_in_one-good, root}
use Rattle.strategy_certificate.proofs.examples.worked_certificates.Goals as goal

pub returns : goal.returns
returns c = record {
  good = record {
    due = refl;
    parts = All-cons (IsGoodPart no_answer man_to_block) (part.Win win_in_one) [] (win_in_one-good, (1, root)) (All-nil (IsGoodPart no_answer man_to_block));
  };
  both_holds = refl;
  one_hold = λ e. cc;
  other_order = λ e. cc;
  win_for_hold = λ e. cc;
}
