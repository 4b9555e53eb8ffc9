-- Why a text is no certificate's.
use Rattle.std.specs.Prelude.{◌≡◌, ◌≢◌, ℕ, ◌+◌, ◌<◌, ◌≤◌, ◌^◌, List, ◌∷◌, ◌++◌, length, Bool, true, false, Some, IfSome}
use Rattle.draughts_board.specs.Board.{Board, IsLawful}
use Rattle.strategy_certificate.specs.declared.certificates.Part.{Part}
use Rattle.strategy_certificate.specs.declared.certificates.Part.TheVariants.{Win, Hold}
use Rattle.strategy_certificate.specs.declared.certificates.Certificate.{Certificate}
use Rattle.strategy_certificate.specs.declared.entries.TheConstants.{MOST_RANK}
use Rattle.strategy_certificate.specs.Tables.{IsTableSize}
use Rattle.strategy_certificate.specs.Parts.{HasEntry, IsPath}
use Rattle.shared_words.specs.Bytes.{Lacks, line_end}
use Rattle.fen_text.specs.Printed.{fen_of}
use Rattle.certificate_text.specs.Lines.{Line, title, table, position, claim, win, hold, win_entry, hold_entry, end, line_text, text_of_lines, field_of}
use Rattle.certificate_text.specs.Text.{before, IsSoundPlace, IsOpenPlace}
use Rattle.certificate_text.specs.Places.{Place, at_title, at_table, at_position, at_claim, at_part, at_entry, at_end}
use Rattle.certificate_text.specs.declared.refusal.TextRefusal.{TextRefusal}
use Rattle.certificate_text.specs.declared.refusal.TextRefusal.TheVariants as refusal

-- ---- which lines may stand

-- a line that begins a part, or the last line
abbrev pub BeginsPart : Line → Type 0
BeginsPart (win side count) = count < 2 ^ 32
BeginsPart (hold side count) = count < 2 ^ 32
BeginsPart end = Unit {0}
BeginsPart line = ⊥

-- an entry line of this part; its field of a position has no blank and is not looked at
abbrev pub IsEntryOf : Part → Line → Type 0
IsEntryOf (Win part) (win_entry field rank chosen) =
    Lacks 32 field × ((rank ≤ MOST_RANK) × IfSome chosen IsPath)
IsEntryOf (Hold part) (hold_entry field chosen) = Lacks 32 field × IfSome chosen IsPath
IsEntryOf part line = ⊥

-- the line may stand where this is due
abbrev pub MayStand : Place → Line → Type 0
MayStand at_title line = line ≡ title
MayStand at_table (table pieces) = IsTableSize pieces
MayStand (at_position pieces) (position field) = Lacks 32 field
MayStand (at_claim pieces p) (claim c) = Unit {0}
MayStand (at_part c) line = BeginsPart line
MayStand (at_entry c part left) line = IsEntryOf part line
MayStand d line = ⊥

-- the field is a FEN as printed
abbrev pub IsFen : List ℕ → Type 0
IsFen field = (p : Board) × (IsLawful p × (field ≡ fen_of p))

-- the position has an entry in the part that is being read
abbrev pub IsTaken : Place → Board → Type 0
IsTaken (at_entry c (Win part) left) p = HasEntry part.entries p
IsTaken (at_entry c (Hold part) left) p = HasEntry part.entries p
IsTaken d p = ⊥

-- ---- refusals

-- The text begins with what stands before this is due; `rest` stands behind it, and its first line,
-- if it has one, is line `number` of the text.
pub record StandsAt (text : List ℕ) (number : ℕ) (d : Place) (rest : List ℕ) : Type 0 where
  pub sound : IsSoundPlace d
  pub spelled : text ≡ text_of_lines (before d) ++ rest
  pub counted : number ≡ length (before d) + 1

-- line `number` of the text is this line, which stands where this is due
pub record IsLineAt (text : List ℕ) (number : ℕ) (d : Place) (line : List ℕ) : Type 0 where
  pub rest : List ℕ
  pub stands : StandsAt text number d (line ++ line_end ∷ rest)
  pub whole : Lacks line_end line
  pub due : IsOpenPlace d

-- where a line is due no line ends in the rest of the text
pub record IsTruncatedText (text : List ℕ) : Type 0 where
  pub number : ℕ
  pub place : Place
  pub rest : List ℕ
  pub stands : StandsAt text number place rest
  pub due : IsOpenPlace place
  pub endless : Lacks line_end rest

-- the line is none that may stand there
abbrev pub IsNoLine : Place → List ℕ → Type 0
IsNoLine d line = (l : Line) → MayStand d l → line ≢ line_text l

-- the line may stand there, but its field is no FEN as printed
pub record HasBadFen (d : Place) (line : List ℕ) : Type 0 where
  pub said : Line
  pub field : List ℕ
  pub may : MayStand d said
  pub spelled : line ≡ line_text said
  pub has : field_of said ≡ Some field
  pub wrong : ¬ IsFen field

-- the line may stand there, but its position has an entry in the same part already
pub record IsDoubled (d : Place) (line : List ℕ) : Type 0 where
  pub said : Line
  pub p : Board
  pub may : MayStand d said
  pub spelled : line ≡ line_text said
  pub lawful : IsLawful p
  pub has : field_of said ≡ Some (fen_of p)
  pub taken : IsTaken d p

-- the line is refused where this is due
abbrev pub IsBadLineAt : (Place → List ℕ → Type 0) → List ℕ → ℕ → Type 0
IsBadLineAt Fault text number =
    (d : Place) × ((line : List ℕ) × (IsLineAt text number d line × Fault d line))

-- bytes stand behind the line `end`, and the first of them begins line `number`
abbrev pub IsAfterEnd : List ℕ → ℕ → Type 0
IsAfterEnd text number =
    (c : Certificate) × ((b : ℕ) × ((rest : List ℕ) × StandsAt text number (at_end c) (b ∷ rest)))

-- memory ran out
abbrev pub text_wants_memory : TextRefusal → Bool
text_wants_memory (refusal.Memory e) = true
text_wants_memory r = false

-- why a text is no certificate's; want of memory is no fault of it
abbrev pub IsTextRefusal : List ℕ → TextRefusal → Type 0
IsTextRefusal text (refusal.BadLine n) = IsBadLineAt IsNoLine text n
IsTextRefusal text (refusal.BadFen n) = IsBadLineAt HasBadFen text n
IsTextRefusal text (refusal.Doubled n) = IsBadLineAt IsDoubled text n
IsTextRefusal text refusal.Truncated = IsTruncatedText text
IsTextRefusal text (refusal.AfterEnd n) = IsAfterEnd text n
IsTextRefusal text (refusal.Memory e) = ⊥
