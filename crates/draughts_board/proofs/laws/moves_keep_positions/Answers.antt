use Rattle.std.proofs.Common.{refl}
use Rattle.draughts_board.proofs.Legal.{legal_paths_fit}
use Rattle.draughts_board.proofs.After.{after_is_lawful}
use Rattle.draughts_board.proofs.Successors.{draughts_takes_turns}
use Rattle.draughts_board.proofs.laws.moves_keep_positions.Goals as goal

pub returns : goal.returns
returns c = record { squares = legal_paths_fit; after = λ p path lawful legal. (after_is_lawful p path lawful legal, refl); turns = draughts_takes_turns }
