use Rattle.journal_shortening.proofs.ChoiceLemmas.{chosen_is_whole}
use Rattle.journal_shortening.proofs.laws.chosen_is_whole.Goals as goal

pub returns : goal.returns
returns c = chosen_is_whole
