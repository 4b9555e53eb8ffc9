-- How a look-up goes through a window of the table. Nobody has to believe it: that a look-up tells what stands there is proved.
use Rattle.std.specs.Prelude.{◌≡◌, ℕ, ◌+◌, ◌-◌, ◌<◌, ◌/◌, ◌^◌, List, length, get_or, bit_and}
use Rattle.draughts_board.specs.Board.{Board}
use Rattle.position_rows.specs.declared.windows.Slot.{Slot}
use Rattle.position_rows.specs.declared.windows.Found.{Found}
use Rattle.position_rows.specs.declared.windows.Found.TheVariants.{At, Free, Full}
use Rattle.position_rows.specs.Rows.{IsRowAt, IsNumberOf}
use Rattle.position_rows.specs.Words.{hash_of}

abbrev pub no_slot : Slot
no_slot = record { tag = 0; number = 0 }

abbrev pub slot_at : List Slot → ℕ → Slot
slot_at slots i = get_or slots i no_slot

-- where the window of a hash begins in so many slots
unfoldable pub first_slot : ℕ → ℕ → ℕ
first_slot hash count = bit_and hash (count - 8)

-- the tag of a hash: its highest 32 bits
unfoldable pub tag_of : ℕ → ℕ
tag_of hash = hash / 2 ^ 32

-- slot j of the window of a position, counted from 0
abbrev pub in_window : List Slot → Board → ℕ → Slot
in_window slots p j = slot_at slots (first_slot (hash_of p) (length slots) + j)

-- none of the first j slots of the window is free
abbrev pub AreTaken : List Slot → Board → ℕ → Type 0
AreTaken slots p j = (i : ℕ) → i < j → 0 < (in_window slots p i).number

-- row r stands in the window of its position, behind taken slots alone
pub record IsInWindow (slots : List Slot) (p : Board) (r : ℕ) : Type 0 where
  pub slot : ℕ
  pub inside : slot < 8
  pub taken : AreTaken slots p slot
  pub tag : (in_window slots p slot).tag ≡ tag_of (hash_of p)
  pub number : (in_window slots p slot).number ≡ r + 1

-- slot k is the first free one of the window of the position
pub record IsFirstFree (slots : List Slot) (p : Board) (k : ℕ) : Type 0 where
  pub slot : ℕ
  pub inside : slot < 8
  pub taken : AreTaken slots p slot
  pub place : k ≡ first_slot (hash_of p) (length slots) + slot
  pub within : k < length slots
  pub free : (slot_at slots k).number ≡ 0

-- no row of the position stands in its window
abbrev pub IsMissed : {E : Type 0} → List (Board × E) → List Slot → Board → Type 0
IsMissed rows slots p = (r : ℕ) → IsRowAt rows r p → ¬ IsInWindow slots p r

-- what a look-up tells
abbrev pub Tells : {E : Type 0} → List (Board × E) → List Slot → Board → Found → Type 0
Tells rows slots p (At i) = IsRowAt rows i p
Tells rows slots p (Free k) = IsFirstFree slots p k × IsMissed rows slots p
Tells rows slots p Full = AreTaken slots p 8 × IsMissed rows slots p

-- the first j slots of the window of a position have not its row
abbrev pub AreMissed : {E : Type 0} → List (Board × E) → List Slot → Board → ℕ → Type 0
AreMissed rows slots p j = (i : ℕ) → i < j → (in_window slots p i).tag ≡ tag_of (hash_of p)
    → ¬ IsNumberOf rows (in_window slots p i).number p

-- the free slot k took this tag and this number; all else is as it was
pub record IsPut (old new : List Slot) (k t n : ℕ) : Type 0 where
  pub long : length new ≡ length old
  pub was : (slot_at old k).number ≡ 0
  pub others : (i : ℕ) → ¬ (i ≡ k) → slot_at new i ≡ slot_at old i
  pub taken : (i : ℕ) → 0 < (slot_at old i).number → 0 < (slot_at new i).number
  pub tag : (slot_at new k).tag ≡ t
  pub number : (slot_at new k).number ≡ n
