-- What one step of a strategy does to a part that is growing. Nobody has to believe it.
use Rattle.std.specs.Prelude.{◌≡◌, ℕ, ◌+◌, ◌≤◌, ◌⊎◌, List, [], ◌∷◌, ◌++◌, Contains, All, Option}
use Rattle.draughts_board.specs.Board.{Board, IsLawful}
use Rattle.draughts_board.specs.Draughts.{draughts}
use Rattle.draughts_board.specs.declared.pieces.Side.{Side}
use Rattle.strategy_certificate.specs.declared.entries.TheConstants.{MOST_FOUND_RANK}
use Rattle.strategy_certificate.specs.declared.oracle.Answer.{Answer}
use Rattle.strategy_certificate.specs.declared.certificates.Part.{Part}
use Rattle.strategy_certificate.specs.declared.certificates.Part.TheVariants as part
use Rattle.strategy_certificate.specs.Tables.{IsSoundTable, TableWins, TableHolds}
use Rattle.strategy_certificate.specs.Parts.{WinList, HoldList, HasEntry, HasDistinctPositions, hold_of}
use Rattle.strategy_certificate.specs.Certificates.{HasDueMove, due_positions, IsGoodWinPart, IsHeld, IsGoodHoldPart}
use Rattle.strategy_certificate.specs.Laws.{merged_win_list}
use Rattle.certificate_joiner.specs.declared.steps.Step.{Step}
use Rattle.certificate_joiner.specs.declared.steps.Reason.{Reason}
use Rattle.certificate_joiner.specs.declared.steps.Reason.TheVariants.{Table, Shown, Play, Repeats}
use Rattle.certificate_joiner.specs.Growing.{IsReachedWithin, WinsAll, HoldsAllBut}

-- F by each sound table of k pieces
abbrev pub ByEachTable : ℕ → ((Board → Option Answer) → Type 0) → Type 0
ByEachTable k F = (answer : Board → Option Answer) → IsSoundTable draughts k answer → F answer

-- ---- parts

abbrev pub part_side : Part → Side
part_side (part.Win list) = list.side
part_side (part.Hold list) = list.side

-- no position stands twice in a part that wins, as each part keeps
abbrev pub IsDistinctPart : Part → Type 0
IsDistinctPart (part.Win list) = HasDistinctPositions list.entries
IsDistinctPart (part.Hold list) = Unit {0}

-- the winning part with what the other part wins
abbrev pub with_win : WinList → Part → WinList
with_win old (part.Win list) = merged_win_list old list
with_win old (part.Hold list) = old

abbrev pub as_hold_list : Part → HoldList
as_hold_list (part.Win list) = hold_of list
as_hold_list (part.Hold list) = list

-- the list with this row behind it, or as it was where the position has a row already
abbrev pub HasOneMore : {E : Type 0} → List (Board × E) → Board × E → List (Board × E) → Type 0
HasOneMore old row new = (HasEntry old row.0 × (new ≡ old)) ⊎ (new ≡ old ++ row ∷ [])

-- the part that shows the step is of the side, and no position stands twice in it
abbrev pub IsUsable : Side → Reason → Type 0
IsUsable s Table = Unit {0}
IsUsable s (Shown shown) = (part_side shown.now ≡ s) × IsDistinctPart shown.now
IsUsable s (Play chosen) = Unit {0}
IsUsable s Repeats = Unit {0}

-- ---- wins

-- by tables of k pieces the position is won for the side, with a rank as low as those that a search may give
abbrev pub TableShowsWin : ℕ → Side → Board → Type 0
TableShowsWin k s p = ByEachTable k (λ answer. (r : ℕ) × ((r ≤ MOST_FOUND_RANK) × TableWins draughts answer s r p))

-- a good part of the side with such ranks, by which the position is won
pub record ListShowsWin (k : ℕ) (s : Side) (p : Board) (list : WinList) : Type 0 where
  pub side : list.side ≡ s
  pub ranks : All (λ row. row.1.rank ≤ MOST_FOUND_RANK) list.entries
  pub good : ByEachTable k (IsGoodWinPart list)
  pub here : ByEachTable k (λ answer. IsReachedWithin list answer MOST_FOUND_RANK p)

abbrev pub PartShowsWin : ℕ → Side → Board → Part → Type 0
PartShowsWin k s p (part.Win list) = ListShowsWin k s p list
PartShowsWin k s p (part.Hold list) = ⊥

-- the due move is made, and leads to positions of the list
pub record PlaysTo (s : Side) (later : List Board) (p : Board) (chosen : Option (List ℕ)) : Type 0 where
  pub lawful : IsLawful p
  pub move : HasDueMove s p chosen
  pub leads : All (Contains later) (due_positions p chosen)

abbrev pub ShowsWinBy : ℕ → Side → List Board → Board → Reason → Type 0
ShowsWinBy k s later p Table = TableShowsWin k s p
ShowsWinBy k s later p (Shown shown) = PartShowsWin k s p shown.now
ShowsWinBy k s later p (Play chosen) = PlaysTo s later p chosen
ShowsWinBy k s later p Repeats = ⊥

-- What one more step does to a part: from one that wins the later positions comes one that wins its own too.
abbrev pub JoinsWin : WinList → Step → ℕ → WinList → Type 0
JoinsWin old step rank new =
    (k : ℕ) (answer : Board → Option Answer) (n : ℕ) (later : List Board) → IsSoundTable draughts k answer
    → MOST_FOUND_RANK ≤ n → rank ≡ n + 1 → ShowsWinBy k old.side later step.position step.reason
    → WinsAll answer n later old → WinsAll answer (n + 1) (step.position ∷ later) new

-- ---- holds

abbrev pub TableShowsHold : ℕ → Side → Board → Type 0
TableShowsHold k s p = ByEachTable k (λ answer. TableHolds draughts answer s p)

-- a good part of the side, by which the position is held
pub record ListShowsHold (k : ℕ) (s : Side) (p : Board) (list : HoldList) : Type 0 where
  pub side : list.side ≡ s
  pub good : ByEachTable k (IsGoodHoldPart list)
  pub here : ByEachTable k (λ answer. IsHeld list answer p)

abbrev pub PartShowsHold : ℕ → Side → Board → Part → Type 0
PartShowsHold k s p one = ListShowsHold k s p (as_hold_list one)

abbrev pub ShowsHoldBy : ℕ → Side → List Board → List Board → Board → Reason → Type 0
ShowsHoldBy k s before later p Table = TableShowsHold k s p
ShowsHoldBy k s before later p (Shown shown) = PartShowsHold k s p shown.now
ShowsHoldBy k s before later p (Play chosen) = PlaysTo s later p chosen
ShowsHoldBy k s before later p Repeats = Contains before p

-- What one more step does to a part, where it and the earlier steps were still open.
abbrev pub JoinsHold : HoldList → Step → HoldList → Type 0
JoinsHold old step new =
    (k : ℕ) (answer : Board → Option Answer) (waiting before later : List Board) → IsSoundTable draughts k answer
    → ((q : Board) → Contains waiting q → (step.position ≡ q) ⊎ Contains before q)
    → ShowsHoldBy k old.side before later step.position step.reason
    → HoldsAllBut answer waiting later old → HoldsAllBut answer before (step.position ∷ later) new
