use Rattle.strategy_certificate.proofs.PartLemmas.{good_win_parts_win, good_hold_parts_hold, good_certificates_are_true, good_by_each_table}
use Rattle.strategy_certificate.proofs.laws.good_certificates_are_true.Goals as goal

pub returns : goal.returns
returns c = record { wins = good_win_parts_win; holds = good_hold_parts_hold; claim = good_certificates_are_true; each_table = good_by_each_table }
