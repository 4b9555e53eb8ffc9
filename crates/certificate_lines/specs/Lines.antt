-- A line of play from a certificate's position: each side's move, one after the other. `answer` is the
-- table's.
use Rattle.std.specs.Prelude.{◌≡◌, ℕ, ◌≤◌, List, [], ◌∷◌, true, length, Option, Some, None, if◌then◌else◌}
use Rattle.draughts_board.specs.declared.pieces.Side.{Side}
use Rattle.draughts_board.specs.declared.pieces.Side.TheVariants.{Black, White}
use Rattle.draughts_board.specs.declared.pieces.Value.TheVariants as value
use Rattle.draughts_board.specs.Board.{Board, other, same_side}
use Rattle.draughts_board.specs.Rules.{IsLegal, after}
use Rattle.draughts_board.specs.Play.{is_nil, legal_paths}
use Rattle.draughts_board.specs.Game.{HasValue, WinsIn}
use Rattle.draughts_board.specs.Draughts.{draughts}
use Rattle.strategy_certificate.specs.declared.certificates.Certificate.{Certificate}
use Rattle.strategy_certificate.specs.declared.certificates.Part.{Part}
use Rattle.strategy_certificate.specs.declared.claims.Claim.{Claim}
use Rattle.strategy_certificate.specs.declared.claims.Claim.TheVariants.{Win, Hold, Draw}
use Rattle.strategy_certificate.specs.declared.oracle.Answer.{Answer}
use Rattle.strategy_certificate.specs.Tables.{IsSoundTable}
use Rattle.certificate_player.specs.Choices.{IsChosen, IsFirstRank, IsNextRank}
use Rattle.certificate_player.specs.Plays.{RankFalls, own_part}
use Rattle.certificate_player.specs.Sides.{side_of}

-- the moves lead from p to q: each is legal in the position that those before it lead to
abbrev pub Leads : Board → List (List ℕ) → Board → Type 0
Leads p [] q = p ≡ q
Leads p (path ∷ moves) q = IsLegal p path × Leads (after p path) moves q

-- ---- a line by one part: its side's moves, and the replies that hold out longest

-- a rank as a number; 0 where none is kept
abbrev pub worth : Option ℕ → ℕ
worth None = 0
worth (Some r) = r

-- behind this reply a rank is kept that is no more than `kept`
abbrev pub KeepsNoMore : (Board → Option Answer) → Part → Board → Option ℕ → Option ℕ → List ℕ → Type 0
KeepsNoMore answer part p rank kept reply =
    (least : Option ℕ) × (IsNextRank answer (after p reply) rank part least
    × (worth least ≤ worth kept))

-- a reply behind which the rank is `kept` holds out longest
abbrev pub HoldsOut : (Board → Option Answer) → Part → Board → Option ℕ → Option ℕ → Type 0
HoldsOut answer part p rank kept =
    (reply : List ℕ) → IsLegal p reply → KeepsNoMore answer part p rank kept reply

-- The move of a line by the part, and the rank that is kept behind it: the side makes the move that the
-- part chooses, the other side a reply that holds out longest.
pub record IsPly (answer : Board → Option Answer) (part : Part) (p : Board) (rank : Option ℕ)
    (path : List ℕ) (kept : Option ℕ) : Type 0 where
  pub legal : IsLegal p path
  pub next : IsNextRank answer (after p path) rank part kept
  pub falls : RankFalls rank kept
  pub own : p.to_move ≡ side_of part → IsChosen answer p rank part path
  pub reply : p.to_move ≡ other (side_of part) → HoldsOut answer part p rank kept

-- These moves of a line by the part lead from the one position, and the rank that is kept there, to the
-- other.
abbrev pub GoesBy : (Board → Option Answer) → Part → Board → Option ℕ → List (List ℕ) → Board
    → Option ℕ → Type 0
GoesBy answer part p rank [] q last = (p ≡ q) × (rank ≡ last)
GoesBy answer part p rank (path ∷ moves) q last =
    (kept : Option ℕ) × (IsPly answer part p rank path kept
    × GoesBy answer part (after p path) kept moves q last)

-- The line of a win of the side: it goes by the side's part, from a rank within which the side wins. It
-- has no more plies than that, and at its end the other side is to move and has no legal move.
pub record IsWonLine (c : Certificate) (side : Side) (moves : List (List ℕ)) (end : Board) (rank : ℕ)
    : Type 0 where
  pub part : Part
  pub own : own_part c side ≡ Some part
  pub answer : Board → Option Answer
  pub sound : IsSoundTable draughts c.pieces answer
  pub first : IsFirstRank answer c.position part (Some rank)
  pub last : Option ℕ
  pub goes : GoesBy answer part c.position (Some rank) moves end last
  pub leads : Leads c.position moves end
  pub wins : WinsIn draughts side rank c.position
  pub within : length moves ≤ rank
  pub turn : end.to_move ≡ other side
  pub lost : is_nil (legal_paths end) ≡ true

-- ---- a line of a draw

-- the part of the side to move
abbrev pub mover_part : Part → Part → Board → Part
mover_part black white p = (if same_side p.to_move Black then black else white)

-- the moves lead from p to q, and each is the one that the mover's part chooses
abbrev pub GoesByBoth : (Board → Option Answer) → Part → Part → Board → List (List ℕ) → Board → Type 0
GoesByBoth answer black white p [] q = p ≡ q
GoesByBoth answer black white p (path ∷ moves) q =
    IsChosen answer p None (mover_part black white p) path
    × GoesByBoth answer black white (after p path) moves q

-- The line of a draw, of this number of plies: each side makes the move by which its part holds. At its
-- end both sides hold.
pub record IsDrawnLine (c : Certificate) (plies : ℕ) (moves : List (List ℕ)) (end : Board)
    : Type 0 where
  pub black : Part
  pub white : Part
  pub own_black : own_part c Black ≡ Some black
  pub own_white : own_part c White ≡ Some white
  pub answer : Board → Option Answer
  pub sound : IsSoundTable draughts c.pieces answer
  pub goes : GoesByBoth answer black white c.position moves end
  pub leads : Leads c.position moves end
  pub long : length moves ≡ plies
  pub drawn : HasValue draughts end value.Draw

-- ---- the line of a certificate

-- By its claim: a win is played to its end, a draw for this number of plies. A certificate of one
-- side's hold alone, which is no value, has no line.
abbrev pub IsLineFor : Claim → Certificate → ℕ → List (List ℕ) → Board → Option ℕ → Type 0
IsLineFor (Win side) c plies moves end (Some r) = IsWonLine c side moves end r
IsLineFor (Win side) c plies moves end None = ⊥
IsLineFor (Hold side) c plies moves end rank =
    (moves ≡ []) × ((end ≡ c.position) × (rank ≡ None))
IsLineFor Draw c plies moves end rank = IsDrawnLine c plies moves end × (rank ≡ None)

abbrev pub IsLineOf : Certificate → ℕ → List (List ℕ) → Board → Option ℕ → Type 0
IsLineOf c plies moves end rank = IsLineFor c.claim c plies moves end rank
