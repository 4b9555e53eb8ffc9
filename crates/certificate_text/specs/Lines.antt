-- The lines of a certificate's text: what each says, and its one spelling.
use Rattle.std.specs.Prelude.{ℕ, List, [], ◌∷◌, ◌++◌, Option, Some, None, codes, decimal, ◌==◌, if◌then◌else◌}
use Rattle.std.specs.List.{flat_map}
use Rattle.shared_words.specs.Bytes.{line_end}
use Rattle.draughts_board.specs.Geometry.{row, distance}
use Rattle.draughts_board.specs.declared.pieces.Side.{Side}
use Rattle.draughts_board.specs.declared.pieces.Side.TheVariants.{Black, White}
use Rattle.strategy_certificate.specs.declared.claims.Claim.{Claim}
use Rattle.strategy_certificate.specs.declared.claims.Claim.TheVariants.{Win, Hold, Draw}

-- ---- words: 32 is a blank, 45 is `-`, 120 is `x`

abbrev pub side_word : Side → List ℕ
side_word Black = codes "black"
side_word White = codes "white"

abbrev pub claim_word : Claim → List ℕ
claim_word (Win Black) = codes "black-wins"
claim_word (Win White) = codes "white-wins"
claim_word (Hold Black) = codes "black-holds"
claim_word (Hold White) = codes "white-holds"
claim_word Draw = codes "draw"

-- ---- moves

-- `x` where the rows of the first two squares differ by two, else `-`
abbrev pub separator : List ℕ → ℕ
separator [] = 45
separator (a ∷ []) = 45
separator (a ∷ b ∷ path) = if distance (row a) (row b) == 2 then 120 else 45

-- squares behind others
abbrev pub further_squares : ℕ → List ℕ → List ℕ
further_squares sep squares = flat_map (λ square. sep ∷ decimal square) squares

-- the squares in decimal, with a separator between each two
abbrev pub squares_text : ℕ → List ℕ → List ℕ
squares_text sep [] = []
squares_text sep (a ∷ squares) = decimal a ++ further_squares sep squares

-- a move by its path
abbrev pub move_text : List ℕ → List ℕ
move_text path = squares_text (separator path) path

-- a blank and a move, or nothing where none is chosen
abbrev pub choice_text : Option (List ℕ) → List ℕ
choice_text None = []
choice_text (Some path) = 32 ∷ move_text path

-- ---- lines

-- what a line says; a position is said by its field of bytes
pub data Line : Type 0 where
  title : Line
  table : ℕ → Line
  position : List ℕ → Line
  claim : Claim → Line
  -- a win part and a hold part begins, with this number of entries
  win : Side → ℕ → Line
  hold : Side → ℕ → Line
  -- an entry of a win part with its rank, one of a hold part, each with its move if one is chosen
  win_entry : List ℕ → ℕ → Option (List ℕ) → Line
  hold_entry : List ℕ → Option (List ℕ) → Line
  end : Line

-- its spelling, without the byte that ends it
abbrev pub line_text : Line → List ℕ
line_text title = codes "certificate 1"
line_text (table pieces) = codes "table " ++ decimal pieces
line_text (position field) = codes "position " ++ field
line_text (claim c) = codes "claim " ++ claim_word c
line_text (win side count) = codes "win " ++ (side_word side ++ 32 ∷ decimal count)
line_text (hold side count) = codes "hold " ++ (side_word side ++ 32 ∷ decimal count)
line_text (win_entry field rank chosen) = field ++ 32 ∷ (decimal rank ++ choice_text chosen)
line_text (hold_entry field chosen) = field ++ choice_text chosen
line_text end = codes "end"

-- its field of bytes that says a position
abbrev pub field_of : Line → Option (List ℕ)
field_of title = None
field_of (table pieces) = None
field_of (position field) = Some field
field_of (claim c) = None
field_of (win side count) = None
field_of (hold side count) = None
field_of (win_entry field rank chosen) = Some field
field_of (hold_entry field chosen) = Some field
field_of end = None

-- lines one after the other, each with its end
abbrev pub text_of_lines : List Line → List ℕ
text_of_lines lines = flat_map (λ line. line_text line ++ line_end ∷ []) lines
