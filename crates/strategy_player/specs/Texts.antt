-- What is written of a play.
use Rattle.std.specs.Prelude.{◌≡◌, ℕ, List, [], ◌∷◌, ◌++◌, codes, if◌then◌else◌}
use Rattle.std.specs.List.{flat_map}
use Rattle.certificate_plays.specs.Plays.{PlaysOut, is_lost}
use Rattle.certificate_text.specs.Lines.{move_text}
use Rattle.draughts_board.specs.declared.pieces.Side.{Side}
use Rattle.draughts_board.specs.Board.{Board}
use Rattle.fen_text.specs.Printed.{fen_of}
use Rattle.strategy_certificate.specs.declared.certificates.Certificate.{Certificate}

abbrev pub position_line : List ℕ → Board → List ℕ
position_line label p = label ++ (fen_of p ++ 10 ∷ [])

-- the line of a move of the player
abbrev pub move_line : List ℕ → List ℕ
move_line path = codes "move " ++ (move_text path ++ 10 ∷ [])

abbrev pub move_lines : List (List ℕ) → List ℕ
move_lines moves = flat_map move_line moves

-- the last line: `won` where the other side, which is to move, has no legal move
abbrev pub end_line : Board → List ℕ
end_line p = if is_lost p then codes "won\n" else position_line (codes "open ") p

-- from where the play goes, by which moves of the player, and where it stands at its end
abbrev pub game_text : Board → List (List ℕ) → Board → List ℕ
game_text start moves end =
    position_line (codes "position ") start ++ (move_lines moves ++ end_line end)

-- The text is that of a play of the side by the certificate, against the lines of the source.
pub record WritesOut (c : Certificate) (side : Side) (source text : List ℕ) : Type 0 where
  pub start : Board
  pub moves : List (List ℕ)
  pub end : Board
  pub plays : PlaysOut c side source start moves end
  pub written : text ≡ game_text start moves end
