-- What a look-up in the whole index tells.
use Rattle.std.specs.Prelude.{◌≡◌, ℕ, ◌⊎◌, List, []}
use Rattle.draughts_board.specs.Board.{Board}
use Rattle.position_rows.specs.declared.tree.Node.{Node}
use Rattle.position_rows.specs.declared.windows.Slot.{Slot}
use Rattle.position_rows.specs.declared.index.Look.{Look}
use Rattle.position_rows.specs.declared.index.Look.TheVariants.{At, Free, First, Behind}
use Rattle.position_rows.specs.Rows.{IsRowAt}
use Rattle.position_rows.specs.Walks.{IsBehind, IsEnd}
use Rattle.position_rows.specs.Windows.{AreTaken, IsInWindow, IsFirstFree}

-- row r stands in the window of its position, or in the tree behind a window without a free slot
abbrev pub IsIndexed : List Slot → List Node → Board → ℕ → Type 0
IsIndexed slots nodes p r = IsInWindow slots p r ⊎ (AreTaken slots p 8 × IsBehind nodes p r)

abbrev pub AreIndexed : {E : Type 0} → List (Board × E) → List Slot → List Node → Type 0
AreIndexed rows slots nodes = (r : ℕ) (p : Board) → IsRowAt rows r p → IsIndexed slots nodes p r

-- no row is that of the position
abbrev pub HasNoRow : {E : Type 0} → List (Board × E) → Board → Type 0
HasNoRow rows p = (r : ℕ) → ¬ IsRowAt rows r p

-- where a new row of the position goes
abbrev pub IsPlaceFor : List Slot → List Node → Board → Look → Type 0
IsPlaceFor slots nodes p (At i) = ⊥
IsPlaceFor slots nodes p (Free k) = IsFirstFree slots p k
IsPlaceFor slots nodes p First = AreTaken slots p 8 × (nodes ≡ [])
IsPlaceFor slots nodes p (Behind i d) = AreTaken slots p 8 × IsEnd nodes p i d

-- what a look-up tells
abbrev pub TellsAll : {E : Type 0} → List (Board × E) → List Slot → List Node → Board → Look → Type 0
TellsAll rows slots nodes p (At i) = IsRowAt rows i p
TellsAll rows slots nodes p look = IsPlaceFor slots nodes p look × HasNoRow rows p

-- row r of the position is found from now on, and each that was found still is
pub record IsEntered (old_slots new_slots : List Slot) (old_nodes new_nodes : List Node) (p : Board) (r : ℕ) : Type 0 where
  pub entered : IsIndexed new_slots new_nodes p r
  pub others : (q : Board) (s : ℕ) → IsIndexed old_slots old_nodes q s → IsIndexed new_slots new_nodes q s
