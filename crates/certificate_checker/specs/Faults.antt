-- What is wrong with an entry, and with a part: each fault by the condition of a good part that it
-- breaks, in the order in which they are looked for.
use Rattle.std.specs.Prelude.{◌≡◌, ◌≤◌, ◌-◌, ℕ, List, Contains, All, take, slice_get, Option, Some}
use Rattle.draughts_board.specs.Board.{Board}
use Rattle.draughts_board.specs.Rules.{IsLegal}
use Rattle.draughts_board.specs.declared.pieces.Side.{Side}
use Rattle.strategy_certificate.specs.declared.oracle.Answer.{Answer}
use Rattle.strategy_certificate.specs.declared.entries.WinEntry.{WinEntry}
use Rattle.strategy_certificate.specs.declared.certificates.Part.{Part}
use Rattle.strategy_certificate.specs.declared.certificates.Part.TheVariants as part
use Rattle.strategy_certificate.specs.Parts.{WinList, HoldList}
use Rattle.strategy_certificate.specs.Certificates.{HasDueMove, due_positions, IsReached, IsReachedBelow, IsHeld, IsGoodWinEntry, IsGoodHoldEntry, HasGoodEntries, HasRoot}
use Rattle.certificate_checker.specs.declared.faults.EntryFault.{EntryFault}
use Rattle.certificate_checker.specs.declared.faults.EntryFault.TheVariants.{StuckHolder, BadMove, Missing, BadRank}
use Rattle.certificate_checker.specs.declared.faults.PartFault.{PartFault}
use Rattle.certificate_checker.specs.declared.faults.PartFault.TheVariants.{Entry, NoRoot}

-- ---- places in a list

-- x is the nth of the list, counted from 1, and P holds of each before it
pub record IsNthAfter {A : Type 0} (P : A → Type 0) (xs : List A) (n : ℕ) (x : A) : Type 0 where
  pub counted : 1 ≤ n
  pub here : slice_get xs (n - 1) ≡ Some x
  pub before : All P (take (n - 1) xs)

-- x is the first of the list that fails P
abbrev pub FailsFirst : {A : Type 0} → (A → Type 0) → List A → A → Type 0
FailsFirst P xs x = (n : ℕ) × (IsNthAfter P xs n x × (P x → ⊥))

-- ---- an entry

-- the side moves and has no legal move
abbrev pub IsStuck : Side → Board → Type 0
IsStuck s p = (p.to_move ≡ s) × ((path : List ℕ) → IsLegal p path → ⊥)

-- the position is an entry of the part, or a win of its side by the table
abbrev pub IsShownWon : WinList → (Board → Option Answer) → Board → Type 0
IsShownWon part answer q = (r : ℕ) × IsReached part answer r q

-- what is wrong with the due positions of a win part's entry of this rank
abbrev pub IsRankFault : WinList → (Board → Option Answer) → ℕ → List Board → EntryFault → Type 0
IsRankFault part answer rank due StuckHolder = ⊥
IsRankFault part answer rank due BadMove = ⊥
IsRankFault part answer rank due (Missing q) = FailsFirst (IsShownWon part answer) due q
IsRankFault part answer rank due BadRank =
    All (IsShownWon part answer) due
    × ((q : Board) × (Contains due q × (IsReachedBelow part answer rank q → ⊥)))

-- what is wrong with an entry of a win part
abbrev pub IsWinFault : WinList → (Board → Option Answer) → Board → WinEntry → EntryFault → Type 0
IsWinFault part answer p e StuckHolder = ⊥
IsWinFault part answer p e BadMove = HasDueMove part.side p e.chosen → ⊥
IsWinFault part answer p e (Missing q) =
    HasDueMove part.side p e.chosen
    × IsRankFault part answer e.rank (due_positions p e.chosen) (Missing q)
IsWinFault part answer p e BadRank =
    HasDueMove part.side p e.chosen
    × IsRankFault part answer e.rank (due_positions p e.chosen) BadRank

-- what is wrong with an entry of a hold part; a side that has its due move is not stuck
abbrev pub IsHoldFault : HoldList → (Board → Option Answer) → Board → Option (List ℕ) → EntryFault
    → Type 0
IsHoldFault part answer p chosen StuckHolder = IsStuck part.side p
IsHoldFault part answer p chosen BadMove =
    (IsStuck part.side p → ⊥) × (HasDueMove part.side p chosen → ⊥)
IsHoldFault part answer p chosen (Missing q) =
    HasDueMove part.side p chosen × FailsFirst (IsHeld part answer) (due_positions p chosen) q
IsHoldFault part answer p chosen BadRank = ⊥

-- ---- a part

-- its nth entry, counted from 1, is the first with a fault, and has this one
abbrev pub HasWinFault : WinList → (Board → Option Answer) → ℕ → EntryFault → Type 0
HasWinFault list answer n fault =
    (row : Board × WinEntry)
    × (IsNthAfter (λ row. IsGoodWinEntry list answer row.0 row.1) list.entries n row
    × IsWinFault list answer row.0 row.1 fault)

abbrev pub HasHoldFault : HoldList → (Board → Option Answer) → ℕ → EntryFault → Type 0
HasHoldFault list answer n fault =
    (row : Board × Option (List ℕ))
    × (IsNthAfter (λ row. IsGoodHoldEntry list answer row.0 row.1) list.entries n row
    × IsHoldFault list answer row.0 row.1 fault)

abbrev pub HasEntryFault : Part → (Board → Option Answer) → ℕ → EntryFault → Type 0
HasEntryFault (part.Win list) answer n fault = HasWinFault list answer n fault
HasEntryFault (part.Hold list) answer n fault = HasHoldFault list answer n fault

-- what is wrong with a part for the position: its first entry with a fault, or else that it does
-- not begin there
abbrev pub HasPartFault : (Board → Option Answer) → Board → Part → PartFault → Type 0
HasPartFault answer p one (Entry n fault) = HasEntryFault one answer n fault
HasPartFault answer p one NoRoot = HasGoodEntries one answer × (HasRoot one answer p → ⊥)
