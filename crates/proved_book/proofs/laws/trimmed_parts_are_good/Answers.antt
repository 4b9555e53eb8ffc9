use Rattle.proved_book.proofs.TrimLaws.{trimmed_wins_are_good, trimmed_holds_are_good, one_trimmed_win, one_trimmed_hold}
use Rattle.proved_book.proofs.laws.trimmed_parts_are_good.Goals as goal

pub returns : goal.returns
returns c = record { wins = trimmed_wins_are_good; holds = trimmed_holds_are_good; one_win = one_trimmed_win; one_hold = one_trimmed_hold }
