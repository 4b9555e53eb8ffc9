-- A play by a certificate against the lines of a source. `answer` is the table's.
use Rattle.std.specs.Prelude.{◌≡◌, ℕ, ◌+◌, List, [], ◌∷◌, ◌++◌, All, Bool, true, false, length, Option, Err}
use Rattle.std.specs.List.{flat_map}
use Rattle.draughts_board.specs.declared.pieces.Side.{Side}
use Rattle.draughts_board.specs.declared.resolution.ResolveRefusal.TheVariants as meant
use Rattle.draughts_board.specs.Board.{Board, other}
use Rattle.draughts_board.specs.Play.{is_nil, legal_paths}
use Rattle.draughts_board.specs.Game.{Holds, Wins}
use Rattle.draughts_board.specs.Draughts.{draughts}
use Rattle.certificate_player.specs.Choices.{Begins, GoesOn, Makes}
use Rattle.certificate_player.specs.Plays.{LeadOn, Play, here, positions}
use Rattle.pdn_openings.specs.Playing.{meaning_of}
use Rattle.pdn_text.specs.declared.game.MoveText.{MoveText}
use Rattle.strategy_certificate.specs.declared.certificates.Certificate.{Certificate}
use Rattle.strategy_certificate.specs.declared.oracle.Answer.{Answer}
use Rattle.strategy_certificate.specs.Claims.{TellsHold, TellsWin}
use Rattle.strategy_certificate.specs.Tables.{IsSoundTable}
use Rattle.certificate_plays.specs.Lines.{IsMoveLine, SaysMove, lines_of}
use Rattle.certificate_plays.specs.declared.refusals.LineFault.{LineFault}
use Rattle.certificate_plays.specs.declared.refusals.LineFault.TheVariants.{BadLine, Illegal, Ambiguous, AfterEnd}

-- ---- plies

-- one move of a play, by its path: the player's own, or one that a line says
pub data Ply : Type 0 where
  own : List ℕ → Ply
  said : List ℕ → List ℕ → Ply

-- the ply leads from the one play to the other
abbrev pub IsPly : (Board → Option Answer) → Play → Ply → Play → Type 0
IsPly answer v (own path) w = ((here v).to_move ≡ v.side) × Makes answer v w path
IsPly answer v (said line path) w =
    ((here v).to_move ≡ other v.side) × (SaysMove (here v) line path × GoesOn answer v w path)

-- the plies lead from the one play to the other, taken in turn
abbrev pub LeadTo : (Board → Option Answer) → Play → List Ply → Play → Type 0
LeadTo answer v [] w = v ≡ w
LeadTo answer v (ply ∷ plies) w =
    (u : Play) × (IsPly answer v ply u × LeadTo answer u plies w)

-- ---- moves and lines

abbrev pub own_of : Ply → List (List ℕ)
own_of (own path) = path ∷ []
own_of (said line path) = []

abbrev pub line_of : Ply → List (List ℕ)
line_of (own path) = []
line_of (said line path) = line ∷ []

-- the player's moves, and the lines of the source that say the others
abbrev pub own_moves : List Ply → List (List ℕ)
own_moves plies = flat_map own_of plies

abbrev pub said_lines : List Ply → List (List ℕ)
said_lines plies = flat_map line_of plies

-- the mover has no legal move
abbrev pub is_lost : Board → Bool
is_lost p = is_nil (legal_paths p)

-- ---- a whole play

-- From the certificate's position on the side, which holds it, plays by the certificate against the
-- lines of the source, of which each is used. These are its moves, and this is where the play ends.
pub record PlaysOut (c : Certificate) (side : Side) (source : List ℕ) (start_at : Board)
    (moves : List (List ℕ)) (end_at : Board) : Type 0 where
  pub own : TellsHold side c.claim
  pub answer : Board → Option Answer
  pub sound : IsSoundTable draughts c.pieces answer
  pub start : Play
  pub begins : Begins answer c side start
  pub plies : List Ply
  pub end : Play
  pub led : LeadTo answer start plies end
  pub lines : lines_of source ≡ said_lines plies
  pub starts : start_at ≡ c.position
  pub made : moves ≡ own_moves plies
  pub ends : end_at ≡ here end
  pub turn : end_at.to_move ≡ other side
  -- each position is a successor of the one before; the side holds each, and wins each where the
  -- certificate claims that it wins
  pub begun : positions end ≡ c.position ∷ end.later
  pub leads : LeadOn c.position end.later
  pub holds : All (Holds draughts side) (positions end)
  pub wins : TellsWin side c.claim → All (Wins draughts side) (positions end)

-- ---- lines that are refused

-- Why a line is refused where the play stands at p: the play is won; or else the line is no move,
-- or one that means no legal one, or several.
abbrev pub IsLineFault : Board → List ℕ → LineFault → Type 0
IsLineFault p line AfterEnd = is_lost p ≡ true
IsLineFault p line BadLine =
    (is_lost p ≡ false) × ((written : MoveText) → ¬ IsMoveLine line written)
IsLineFault p line Illegal =
    (is_lost p ≡ false) × ((written : MoveText) × (IsMoveLine line written
    × (meaning_of p written ≡ Err meant.Illegal)))
IsLineFault p line Ambiguous =
    (is_lost p ≡ false) × ((written : MoveText) × (IsMoveLine line written
    × ((one another : List ℕ) × (meaning_of p written ≡ Err (meant.Ambiguous one another)))))

-- The play by the certificate comes to the nth line of the source, counted from 1, at this position,
-- and the line is refused so.
pub record StopsAt (c : Certificate) (side : Side) (source : List ℕ) (n : ℕ) (p : Board)
    (fault : LineFault) : Type 0 where
  pub own : TellsHold side c.claim
  pub answer : Board → Option Answer
  pub sound : IsSoundTable draughts c.pieces answer
  pub start : Play
  pub begins : Begins answer c side start
  pub plies : List Ply
  pub now : Play
  pub led : LeadTo answer start plies now
  pub stands : here now ≡ p
  pub turn : p.to_move ≡ other side
  pub line : List ℕ
  pub more : List (List ℕ)
  pub lines : lines_of source ≡ said_lines plies ++ line ∷ more
  pub number : n ≡ length (said_lines plies) + 1
  pub fault_is : IsLineFault p line fault
