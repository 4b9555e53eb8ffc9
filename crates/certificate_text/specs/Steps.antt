-- How one line is read: what it is refused as, and what is due behind it.
use Rattle.std.specs.Prelude.{◌≡◌, ℕ, zero, suc, ◌-◌, ◌<◌, ◌^◌, List, [], ◌∷◌, ◌++◌, Option, Some, None}
use Rattle.draughts_board.specs.Board.{Board, IsLawful}
use Rattle.strategy_certificate.specs.declared.entries.WinEntry.{WinEntry}
use Rattle.strategy_certificate.specs.declared.certificates.Part.{Part}
use Rattle.strategy_certificate.specs.declared.certificates.Part.TheVariants.{Win, Hold}
use Rattle.strategy_certificate.specs.declared.certificates.Certificate.{Certificate}
use Rattle.strategy_certificate.specs.Parts.{WinList, HoldList, IsWinList, IsHoldList, HasEntry, IsInRange, IsPath}
use Rattle.fen_text.specs.Printed.{fen_of}
use Rattle.std.specs.Option.{IfSome}
use Rattle.certificate_text.specs.Lines.{Line, title, table, position, claim, win, hold, win_entry, hold_entry, end, line_text}
use Rattle.strategy_certificate.specs.Tables.{IsTableSize}
use Rattle.certificate_text.specs.Refusals.{IsNoLine, HasBadFen, IsDoubled}
use Rattle.certificate_text.specs.Places.{Place, at_title, at_table, at_position, at_claim, at_part, at_entry, at_end}
use Rattle.certificate_text.specs.declared.due.Due.{Due}
use Rattle.certificate_text.specs.declared.due.Due.TheVariants as due
use Rattle.certificate_text.specs.declared.refusal.TextRefusal.{TextRefusal}
use Rattle.certificate_text.specs.declared.refusal.TextRefusal.TheVariants as refusal

-- the place where a reader stands
abbrev pub place_due : Due → Place
place_due due.Title = at_title
place_due due.Table = at_table
place_due (due.Position pieces) = at_position pieces
place_due (due.Claim pieces p) = at_claim pieces p
place_due (due.Part c) = at_part c
place_due (due.Entry c part left) = at_entry c part left
place_due (due.Nothing c) = at_end c

-- an entry of a win part is read behind the others
pub record AddsWin (old : WinList) (field : List ℕ) (e : WinEntry) (new : WinList) : Type 0 where
  pub p : Board
  pub lawful : IsLawful p
  pub fen : field ≡ fen_of p
  pub absent : ¬ HasEntry old.entries p
  pub range : IsInRange e
  pub behind : new ≡ record old { entries = old.entries ++ (p, e) ∷ [] }
  pub valid : IsWinList new

-- an entry of a hold part is read behind the others
pub record AddsHold (old : HoldList) (field : List ℕ) (chosen : Option (List ℕ))
    (new : HoldList) : Type 0 where
  pub p : Board
  pub lawful : IsLawful p
  pub fen : field ≡ fen_of p
  pub absent : ¬ HasEntry old.entries p
  pub path : IfSome chosen IsPath
  pub behind : new ≡ record old { entries = old.entries ++ (p, chosen) ∷ [] }
  pub valid : IsHoldList new

-- the line adds an entry to the part
abbrev pub AddsLine : Part → Line → Part → Type 0
AddsLine (Win old) (win_entry field rank chosen) (Win new) =
    AddsWin old field (record { rank = rank; chosen = chosen }) new
AddsLine (Hold old) (hold_entry field chosen) (Hold new) = AddsHold old field chosen new
AddsLine old line new = ⊥

abbrev pub with_part : Certificate → Part → Certificate
with_part c part = record c { parts = c.parts ++ part ∷ [] }

-- what is due where this number of entries of the part are left
abbrev pub settled : Certificate → Part → ℕ → Place
settled c part zero = at_part (with_part c part)
settled c part (suc n) = at_entry c part (suc n)

-- the position of a field, and what is due behind it
pub record SaysPosition (pieces : ℕ) (field : List ℕ) (next : Place) : Type 0 where
  pub p : Board
  pub lawful : IsLawful p
  pub fen : field ≡ fen_of p
  pub leads : next ≡ at_claim pieces p

-- behind the line, this is due
abbrev pub Leads : Place → Line → Place → Type 0
Leads at_title title next = next ≡ at_table
Leads at_table (table pieces) next = IsTableSize pieces × (next ≡ at_position pieces)
Leads (at_position pieces) (position field) next = SaysPosition pieces field next
Leads (at_claim pieces p) (claim c) next =
    next ≡ at_part (record { position = p; claim = c; pieces = pieces; parts = [] })
Leads (at_part c) (win side count) next =
    (count < 2 ^ 32) × (next ≡ settled c (Win (record { side = side; entries = [] })) count)
Leads (at_part c) (hold side count) next =
    (count < 2 ^ 32) × (next ≡ settled c (Hold (record { side = side; entries = [] })) count)
Leads (at_part c) end next = next ≡ at_end c
Leads (at_entry c part left) line next =
    (longer : Part) × (AddsLine part line longer × (next ≡ settled c longer (left - 1)))
Leads d line next = ⊥

-- the bytes are a line behind which this is due
abbrev pub Advances : Place → List ℕ → Place → Type 0
Advances d line next = (said : Line) × ((line ≡ line_text said) × Leads d said next)

-- line `number` is refused so
abbrev pub RefusesLine : Place → List ℕ → ℕ → TextRefusal → Type 0
RefusesLine d line number (refusal.BadLine n) = (n ≡ number) × IsNoLine d line
RefusesLine d line number (refusal.BadFen n) = (n ≡ number) × HasBadFen d line
RefusesLine d line number (refusal.Doubled n) = (n ≡ number) × IsDoubled d line
RefusesLine d line number (refusal.Memory e) = Unit {0}
RefusesLine d line number r = ⊥

-- ---- pieces of a line

-- what stands behind a field: nothing, or a blank and this
abbrev pub behind_field : Option (List ℕ) → List ℕ
behind_field None = []
behind_field (Some text) = 32 ∷ text
