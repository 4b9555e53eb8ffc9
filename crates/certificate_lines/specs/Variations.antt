-- Variations of a line: other moves than its own, and the play behind each. `answer` is the table's.
use Rattle.std.specs.Prelude.{◌≡◌, ◌==◌, ◌&&◌, ℕ, ◌+◌, ◌<◌, ◌≤◌, List, [], ◌∷◌, ◌++◌, All, Bool, true, false, not, nat_lt, length, map, take, get_or, filter, Option, Some, IfSome}
use Rattle.std.specs.Cmp.Lexicographic.{pointwise}
use Rattle.draughts_board.specs.declared.pieces.Side.{Side}
use Rattle.draughts_board.specs.Board.{Board, other, same_side}
use Rattle.draughts_board.specs.Rules.{after}
use Rattle.draughts_board.specs.Play.{legal_paths}
use Rattle.draughts_board.specs.Game.{Holds, WinsIn}
use Rattle.draughts_board.specs.Draughts.{draughts}
use Rattle.strategy_certificate.specs.declared.certificates.Certificate.{Certificate}
use Rattle.strategy_certificate.specs.declared.certificates.Part.{Part}
use Rattle.strategy_certificate.specs.declared.claims.Claim.{Claim}
use Rattle.strategy_certificate.specs.declared.claims.Claim.TheVariants.{Win, Hold, Draw}
use Rattle.strategy_certificate.specs.declared.oracle.Answer.{Answer}
use Rattle.strategy_certificate.specs.Tables.{IsSoundTable}
use Rattle.certificate_player.specs.Choices.{IsNextRank}
use Rattle.certificate_player.specs.Plays.{own_part}
use Rattle.certificate_player.specs.Sides.{side_of}
use Rattle.certificate_lines.specs.Lines.{GoesBy, Leads}
use Rattle.certificate_lines.specs.declared.variations.Variation.{Variation}

abbrev pub first_move : Variation → List ℕ
first_move v = get_or v.moves.items 0 []

-- how many moves of the line stand before it, and its first move
abbrev pub fork_of : Variation → ℕ × List ℕ
fork_of v = (v.behind, first_move v)

-- the moves but this one, in order
abbrev pub others : List (List ℕ) → List ℕ → List (List ℕ)
others moves path = filter (λ m. not (pointwise ◌==◌ m path)) moves

-- the legal moves but this one
abbrev pub other_moves : Board → List ℕ → List (List ℕ)
other_moves p path = others (legal_paths p) path

-- Where the other side than the part's is to move and this rank is kept: a legal move, and behind it a
-- line by the part, which ends no later than at this ply of the line. At its end the part's side holds,
-- and wins within the rank that is kept there.
pub record IsVariation (answer : Board → Option Answer) (part : Part) (p : Board) (rank : Option ℕ)
    (varied : ℕ) (v : Variation) : Type 0 where
  pub turn : p.to_move ≡ other (side_of part)
  pub path : List ℕ
  pub moves : List (List ℕ)
  pub all : v.moves.items ≡ path ∷ moves
  pub kept : Option ℕ
  pub next : IsNextRank answer (after p path) rank part kept
  pub goes : GoesBy answer part (after p path) kept moves v.end v.rank
  pub leads : Leads p v.moves.items v.end
  pub short : v.behind + length v.moves.items ≤ varied
  pub holds : Holds draughts (side_of part) v.end
  pub wins : IfSome v.rank (λ r. WinsIn draughts (side_of part) r v.end)

-- A variation of a line from `start`, by the part that the position tells.
pub record VariesLine (answer : Board → Option Answer) (part_at : Board → Option Part) (varied : ℕ)
    (start : Board) (moves : List (List ℕ)) (v : Variation) : Type 0 where
  pub inside : v.behind < length moves
  pub place : Board
  pub there : Leads start (take v.behind moves) place
  pub part : Part
  pub own : part_at place ≡ Some part
  pub rank : Option ℕ
  pub is : IsVariation answer part place rank varied v

-- the moves for which variations are due at a ply of a line with this move: all others, or none
abbrev pub moves_due : Bool → Board → List ℕ → List (List ℕ)
moves_due true p path = other_moves p path
moves_due false p path = []

-- the forks behind this many moves of a line, by these moves
abbrev pub forks_by : ℕ → List (List ℕ) → List (ℕ × List ℕ)
forks_by behind moves = map (λ m. (behind, m)) moves

-- the forks of a line, the first of whose moves stands behind so many: each other legal move where the
-- position is varied and stands before this ply
abbrev pub forks_due : (Board → Bool) → ℕ → ℕ → Board → List (List ℕ) → List (ℕ × List ℕ)
forks_due varies varied behind p [] = []
forks_due varies varied behind p (path ∷ moves) =
    forks_by behind (moves_due (varies p && nat_lt behind varied) p path)
    ++ forks_due varies varied (behind + 1) (after p path) moves

-- A line has exactly the variations that are due, in order.
pub record HasVariations (answer : Board → Option Answer) (part_at : Board → Option Part)
    (varies : Board → Bool) (varied : ℕ) (start : Board) (moves : List (List ℕ))
    (variations : List Variation) : Type 0 where
  pub each : All (VariesLine answer part_at varied start moves) variations
  pub all : map fork_of variations ≡ forks_due varies varied 0 start moves

-- the other side is to move
abbrev pub is_reply : Side → Board → Bool
is_reply side p = same_side p.to_move (other side)

-- where a line by the claim is varied: a win at the other side's moves, a draw at each move
abbrev pub varies_by : Claim → Board → Bool
varies_by (Win side) p = is_reply side p
varies_by (Hold side) p = false
varies_by Draw p = true

-- The variations of the line of a certificate: the play behind each is by the part of the side that is
-- not to move.
pub record Varies (c : Certificate) (varied : ℕ) (moves : List (List ℕ))
    (variations : List Variation) : Type 0 where
  pub answer : Board → Option Answer
  pub sound : IsSoundTable draughts c.pieces answer
  pub has : HasVariations answer (λ p. own_part c (other p.to_move)) (varies_by c.claim) varied
      c.position moves variations
