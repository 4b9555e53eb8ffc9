-- A line of play as a game of PDN.
use Rattle.std.specs.Prelude.{ℕ, ◌+◌, ◌==◌, List, [], ◌∷◌, ◌++◌, Option, Some, None, codes, decimal, length, if◌then◌else◌}
use Rattle.certificate_lines.specs.declared.variations.Variation.{Variation}
use Rattle.certificate_text.specs.Lines.{claim_word, move_text}
use Rattle.draughts_board.specs.declared.pieces.Side.{Side}
use Rattle.draughts_board.specs.declared.pieces.Side.TheVariants.{Black, White}
use Rattle.draughts_board.specs.Board.{Board, other}
use Rattle.fen_text.specs.Printed.{fen_of}
use Rattle.strategy_certificate.specs.declared.claims.Claim.{Claim}
use Rattle.strategy_certificate.specs.declared.claims.Claim.TheVariants.{Win, Hold, Draw}

-- Black's move stands behind its number, and a blank or a line end behind each move
abbrev pub move_number_text : ℕ → Side → List ℕ
move_number_text n Black = decimal n ++ codes ". "
move_number_text n White = []

-- the number of the move behind that of this side
abbrev pub number_behind : ℕ → Side → ℕ
number_behind n Black = n
number_behind n White = n + 1

-- before moves of which the first has this number: nothing where Black is the first to move
abbrev pub opening_text : ℕ → Side → List ℕ
opening_text n Black = []
opening_text n White = decimal n ++ codes "... "

-- ---- variations

-- the moves of a variation
abbrev pub varied_text : ℕ → Side → List (List ℕ) → List ℕ
varied_text n side [] = []
varied_text n side (path ∷ moves) =
    move_number_text n side ++ (move_text path
    ++ 32 ∷ varied_text (number_behind n side) (other side) moves)

-- what the play of a variation against this side shows: the other side's win and within how many plies, or
-- its hold
abbrev pub shown_text : Side → Option ℕ → List ℕ
shown_text side (Some rank) =
    123 ∷ claim_word (Win (other side)) ++ (codes " within " ++ (decimal rank ++ codes " plies}"))
shown_text side None = 123 ∷ claim_word (Hold (other side)) ++ codes "}"

-- a variation that begins with a move of this side, in a line of its own
abbrev pub variation_text : ℕ → Side → Variation → List ℕ
variation_text n side v =
    codes "\n(" ++ (opening_text n side ++ (varied_text n side v.moves.items
    ++ (shown_text side v.rank ++ codes ")")))

-- those of the ply behind this many moves
abbrev pub variations_text : ℕ → ℕ → Side → List Variation → List ℕ
variations_text behind n side [] = []
variations_text behind n side (v ∷ variations) =
    (if v.behind == behind then variation_text n side v else [])
    ++ variations_text behind n side variations

-- ---- the line

-- behind a ply
abbrev pub space_behind : Side → ℕ
space_behind Black = 32
space_behind White = 10

-- moves behind so many, the first of which has this number and is this side's; behind each move the
-- variations that stand for it
abbrev pub moves_text : ℕ → ℕ → Side → List (List ℕ) → List Variation → List ℕ
moves_text behind n side [] variations = []
moves_text behind n side (path ∷ moves) variations =
    move_number_text n side ++ (move_text path ++ (variations_text behind n side variations
    ++ space_behind side
    ∷ moves_text (behind + 1) (number_behind n side) (other side) moves variations))

-- what the play shows, as a comment: of a win after how many plies; and the result, which is open
abbrev pub verdict_text : Claim → ℕ → List ℕ
verdict_text (Win side) plies =
    123 ∷ claim_word (Win side) ++ (codes " after " ++ (decimal plies ++ codes " plies} *\n"))
verdict_text claim plies = 123 ∷ claim_word claim ++ codes "} *\n"

-- the line of play of the root with this number, from its position on
abbrev pub line_text : ℕ → Board → Claim → List (List ℕ) → List Variation → List ℕ
line_text n start claim moves variations =
    codes "[Event \"root " ++ (decimal n ++ (codes "\"]\n[FEN \"" ++ (fen_of start ++ (codes "\"]\n"
    ++ (opening_text 1 start.to_move
    ++ (moves_text 0 1 start.to_move moves variations ++ verdict_text claim (length moves)))))))
