-- What the steps of a line keep, which the private functions answer for.
use Rattle.std.specs.Prelude.{◌≡◌, ℕ, ◌+◌, ◌++◌, ◌≤◌, List, ◌∷◌, All, IsSome, true, length, map, Option, None, Some}
use Rattle.draughts_board.specs.Board.{Board}
use Rattle.draughts_board.specs.Rules.{IsLegal, after}
use Rattle.draughts_board.specs.Play.{is_nil, legal_paths}
use Rattle.draughts_board.specs.Draughts.{draughts}
use Rattle.strategy_certificate.specs.declared.certificates.Part.{Part}
use Rattle.strategy_certificate.specs.declared.oracle.Answer.{Answer}
use Rattle.strategy_certificate.specs.Certificates.{HasGoodEntries}
use Rattle.strategy_certificate.specs.Tables.{IsSoundTable}
use Rattle.certificate_player.specs.Choices.{IsNextRank}
use Rattle.certificate_player.specs.Plays.{Follows, RankFalls}
use Rattle.certificate_lines.specs.Lines.{GoesBy, GoesByBoth, KeepsNoMore, Leads, worth}
use Rattle.certificate_lines.specs.Variations.{IsVariation, fork_of, forks_by}
use Rattle.certificate_lines.specs.declared.variations.Fork.{Fork}
use Rattle.certificate_lines.specs.declared.variations.Variation.{Variation}

-- A line by the part may stand here: the table's answers are sound, the part's entries are good by them,
-- and the part goes on from here with this rank.
pub record Stands (answer : Board → Option Answer) (part : Part) (p : Board) (rank : Option ℕ)
    : Type 0 where
  pub pieces : ℕ
  pub sound : IsSoundTable draughts pieces answer
  pub good : HasGoodEntries part answer
  pub follows : Follows answer p rank part

-- Of the replies that were seen none holds out longer than this one, which is legal.
pub record IsLongest (answer : Board → Option Answer) (part : Part) (p : Board) (rank : Option ℕ)
    (seen : List (List ℕ)) (path : List ℕ) (kept : Option ℕ) : Type 0 where
  pub legal : IsLegal p path
  pub next : IsNextRank answer (after p path) rank part kept
  pub falls : RankFalls rank kept
  pub longest : All (KeepsNoMore answer part p rank kept) seen

-- The moves of a line by the part that begins here with this rank: they lead to where a rank is still
-- kept, and together with it they are no more than the first rank.
pub record GoesOut (answer : Board → Option Answer) (part : Part) (start : Board) (rank : ℕ)
    (moves : List (List ℕ)) (end : Board) (last : Option ℕ) : Type 0 where
  pub goes : GoesBy answer part start (Some rank) moves end last
  pub leads : Leads start moves end
  pub within : length moves + worth last ≤ rank
  pub ranked : IsSome last
  pub stands : Stands answer part end last

-- From a position with this rank on the part's line is played out: to where the mover has no legal move.
pub record WinsOut (answer : Board → Option Answer) (part : Part) (start : Board) (rank : ℕ)
    (moves : List (List ℕ)) (end : Board) : Type 0 where
  pub last : Option ℕ
  pub out : GoesOut answer part start rank moves end last
  pub lost : is_nil (legal_paths end) ≡ true

-- From a position that both parts hold each side held on for this number of plies.
pub record HoldsOn (answer : Board → Option Answer) (black white : Part) (start : Board) (plies : ℕ)
    (moves : List (List ℕ)) (end : Board) : Type 0 where
  pub goes : GoesByBoth answer black white start moves end
  pub leads : Leads start moves end
  pub long : length moves ≡ plies
  pub black_stands : Stands answer black end None
  pub white_stands : Stands answer white end None

-- By the part: a move at the one position, where this rank is kept, and the line behind it.
pub record PlaysOn (answer : Board → Option Answer) (part : Part) (p : Board) (rank : Option ℕ)
    (path : List ℕ) (moves : List (List ℕ)) (end : Board) (last : Option ℕ) : Type 0 where
  pub behind : List (List ℕ)
  pub all : moves ≡ path ∷ behind
  pub kept : Option ℕ
  pub next : IsNextRank answer (after p path) rank part kept
  pub goes : GoesBy answer part (after p path) kept behind end last
  pub leads : Leads p (path ∷ behind) end
  pub stands : Stands answer part end last

-- Behind the variations that were there stands one for each of these moves at a fork.
pub record AddsVariations (answer : Board → Option Answer) (part : Part) (fork : Fork) (varied : ℕ)
    (moves : List (List ℕ)) (old new : List Variation) : Type 0 where
  pub added : List Variation
  pub all : new ≡ old ++ added
  pub each : All (IsVariation answer part fork.position fork.rank varied) added
  pub behind : All (λ v. v.behind ≡ fork.behind) added
  pub forks : map fork_of added ≡ forks_by fork.behind moves
