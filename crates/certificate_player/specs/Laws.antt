-- What a player's moves promise over whole plays.
use Rattle.std.specs.Prelude.{◌≡◌, ◌≢◌, ◌+◌, ◌≤◌, ℕ, zero, suc, List, [], Option, Some}
use Rattle.draughts_board.specs.Board.{Board, other}
use Rattle.draughts_board.specs.Play.{successors_of}
use Rattle.strategy_certificate.specs.declared.oracle.Answer.{Answer}
use Rattle.certificate_player.specs.Choices.{GoesOn}
use Rattle.certificate_player.specs.Plays.{IsPlay, Play, RankFalls, here}

-- This number of moves leads from the one play to the other, whoever makes them, each as `choose` and `hear`
-- leave a player.
abbrev pub LeadsIn : (Board → Option Answer) → ℕ → Play → Play → Type 0
LeadsIn answer zero v w = v ≡ w
LeadsIn answer (suc n) v w =
    (u : Play) × ((path : List ℕ) × (GoesOn answer v u path × (IsPlay u
    × (RankFalls v.rank u.rank × LeadsIn answer n u w))))

-- The player never stands without a move.
abbrev pub NeverStuck : Type 0
NeverStuck = (v : Play) → IsPlay v → (here v).to_move ≡ v.side → successors_of (here v) ≢ []

-- Against whatever replies, this number of moves and the rank that is left are no more than the first rank.
abbrev pub WithinRank : Type 0
WithinRank =
    (answer : Board → Option Answer) (n r : ℕ) (v w : Play) → v.rank ≡ Some r → LeadsIn answer n v w
    → (m : ℕ) × ((w.rank ≡ Some m) × (n + m ≤ r))

-- Where no rank is left, the other side stands without a move.
abbrev pub WonAtLast : Type 0
WonAtLast =
    (v : Play) → IsPlay v → v.rank ≡ Some 0
    → ((here v).to_move ≡ other v.side) × (successors_of (here v) ≡ [])
