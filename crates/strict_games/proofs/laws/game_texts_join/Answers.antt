use Rattle.strict_games.proofs.Joining as joining
use Rattle.strict_games.proofs.laws.game_texts_join.Goals as goal

pub returns : goal.returns
returns c = joining.game_texts_join
