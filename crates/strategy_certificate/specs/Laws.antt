-- What sound tables and good certificates promise, each law the contract of a function of
-- `src/laws.rt`.
use Rattle.std.specs.Prelude.{◌≡◌, ◌≤◌, ◌<◌, ℕ, Option}
use Rattle.draughts_board.specs.Board.{Board}
use Rattle.draughts_board.specs.Draughts.{draughts}
use Rattle.draughts_board.specs.Game.{Game, WinsIn, Holds}
use Rattle.draughts_board.specs.declared.pieces.Side.{Side}
use Rattle.strategy_certificate.specs.declared.oracle.TheConstants.{TABLE_POSITIONS}
use Rattle.strategy_certificate.specs.declared.oracle.Answer.{Answer}
use Rattle.strategy_certificate.specs.declared.certificates.Certificate.{Certificate}
use Rattle.strategy_certificate.specs.Tables.{IsSoundTable, TableWins, TableHolds}
use Rattle.strategy_certificate.specs.Parts.{WinList, HoldList, HasDistinctPositions, merged_wins, merged_holds, hold_of}
use Rattle.strategy_certificate.specs.Certificates.{IsReached, IsHeld, IsGoodWinPart, IsGoodHoldPart, IsGoodBy, IsGood, IsTrueOf}

-- ---- tables, in any game

-- A win that a sound table shows is a forced win, and its rank bounds the plies.
abbrev pub ShownWinsAreTrue : {P : Type 0} → Game P → Type 0
ShownWinsAreTrue {P} game =
    (k : ℕ) (answer : P → Option Answer) → IsSoundTable game k answer
    → (s : Side) (r : ℕ) (p : P) → TableWins game answer s r p → WinsIn game s r p

-- A hold that a sound table shows is a hold.
abbrev pub ShownHoldsAreTrue : {P : Type 0} → Game P → Type 0
ShownHoldsAreTrue {P} game =
    (k : ℕ) (answer : P → Option Answer) → IsSoundTable game k answer
    → (s : Side) (p : P) → TableHolds game answer s p → Holds game s p

-- There is one sound table for each number of pieces.
abbrev pub OneSoundTable : {P : Type 0} → Game P → Type 0
OneSoundTable {P} game =
    (k : ℕ) (a b : P → Option Answer) → IsSoundTable game k a → IsSoundTable game k b → (p : P)
    → a p ≡ b p

-- In draughts each rank in a sound table of at most three pieces is below the number of its
-- positions.
abbrev pub TableRanksAreLow : Type 0
TableRanksAreLow =
    (k : ℕ) (answer : Board → Option Answer) → k ≤ 3 → IsSoundTable draughts k answer
    → (s : Side) (r : ℕ) (p : Board) → TableWins draughts answer s r p → r < TABLE_POSITIONS

-- ---- good certificates, in draughts

-- What a good win part reaches is a forced win of its side, and the rank bounds the plies.
abbrev pub GoodWinPartsWin : Type 0
GoodWinPartsWin =
    (k : ℕ) (answer : Board → Option Answer) → IsSoundTable draughts k answer
    → (part : WinList) → IsGoodWinPart part answer
    → (r : ℕ) (p : Board) → IsReached part answer r p → WinsIn draughts part.side r p

-- What a good hold part holds, its side holds.
abbrev pub GoodHoldPartsHold : Type 0
GoodHoldPartsHold =
    (k : ℕ) (answer : Board → Option Answer) → IsSoundTable draughts k answer
    → (part : HoldList) → IsGoodHoldPart part answer
    → (p : Board) → IsHeld part answer p → Holds draughts part.side p

-- What a good certificate claims is true.
abbrev pub GoodCertificatesAreTrue : Type 0
GoodCertificatesAreTrue = (c : Certificate) → IsGood c → IsTrueOf c.claim c.position

-- A good certificate is good by whichever sound table of its number of pieces is asked.
abbrev pub GoodByEachTable : Type 0
GoodByEachTable =
    (c : Certificate) (answer : Board → Option Answer) → IsSoundTable draughts c.pieces answer
    → IsGood c → IsGoodBy answer c

-- ---- merging

-- what the one part reaches, the other reaches too, with a rank that is no greater
abbrev pub ReachesNoLater : (Board → Option Answer) → WinList → WinList → Type 0
ReachesNoLater answer part other =
    (r : ℕ) (p : Board) → IsReached part answer r p
    → (m : ℕ) × ((m ≤ r) × IsReached other answer m p)

-- what the one part holds, the other holds too
abbrev pub HoldsAsMuch : (Board → Option Answer) → HoldList → HoldList → Type 0
HoldsAsMuch answer part other = (p : Board) → IsHeld part answer p → IsHeld other answer p

abbrev pub merged_win_list : WinList → WinList → WinList
merged_win_list into from =
    record { side = into.side; entries = merged_wins into.entries from.entries }

abbrev pub merged_hold_list : HoldList → HoldList → HoldList
merged_hold_list into from =
    record { side = into.side; entries = merged_holds into.entries from.entries }

-- Of good win parts of one side a good part comes out, which reaches what each of them reached.
abbrev pub MergedWinsAreGood : Type 0
MergedWinsAreGood =
    (answer : Board → Option Answer) (into from : WinList) → into.side ≡ from.side
    → HasDistinctPositions from.entries
    → IsGoodWinPart into answer → IsGoodWinPart from answer
    → IsGoodWinPart (merged_win_list into from) answer
    × (ReachesNoLater answer into (merged_win_list into from)
    × ReachesNoLater answer from (merged_win_list into from))

-- Of good hold parts of one side a good part comes out, which holds what each of them held.
abbrev pub MergedHoldsAreGood : Type 0
MergedHoldsAreGood =
    (answer : Board → Option Answer) (into from : HoldList) → into.side ≡ from.side
    → IsGoodHoldPart into answer → IsGoodHoldPart from answer
    → IsGoodHoldPart (merged_hold_list into from) answer
    × (HoldsAsMuch answer into (merged_hold_list into from)
    × HoldsAsMuch answer from (merged_hold_list into from))

-- A good win part without its ranks is a good hold part, and it holds what was reached.
abbrev pub GoodWinsHold : Type 0
GoodWinsHold =
    (answer : Board → Option Answer) (part : WinList) → IsGoodWinPart part answer
    → IsGoodHoldPart (hold_of part) answer
    × ((r : ℕ) (p : Board) → IsReached part answer r p → IsHeld (hold_of part) answer p)
