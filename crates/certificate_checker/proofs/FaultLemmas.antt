-- A good entry and a good part have no fault, and no entry and no part has two.
use Rattle.std.proofs.Common.{◌≡◌, ℕ, List, Option, None, Some, refl, sym, ap, subst}
use Rattle.std.specs.Prelude.{All, MatchOption}
use Rattle.std.proofs.lemmas.List.Elements.{All-contains}
use Rattle.draughts_board.specs.Board.{Board, IsLawful, other}
use Rattle.draughts_board.specs.declared.pieces.Side.{Side}
use Rattle.draughts_board.specs.declared.pieces.Side.TheVariants.{Black, White}
use Rattle.strategy_certificate.specs.declared.oracle.Answer.{Answer}
use Rattle.strategy_certificate.specs.declared.entries.WinEntry.{WinEntry}
use Rattle.strategy_certificate.specs.declared.certificates.Part.{Part}
use Rattle.strategy_certificate.specs.declared.certificates.Part.TheVariants as part
use Rattle.strategy_certificate.specs.Parts.{WinList, HoldList}
use Rattle.strategy_certificate.specs.Certificates.{HasDueMove, due_positions, IsReachedBelow, IsHeld, IsGoodWinEntry, IsGoodWinPart, IsGoodHoldEntry, IsGoodHoldPart, HasGoodEntries, IsGoodPart}
use Rattle.certificate_checker.specs.declared.faults.EntryFault.{EntryFault}
use Rattle.certificate_checker.specs.declared.faults.EntryFault.TheVariants.{StuckHolder, BadMove, Missing, BadRank}
use Rattle.certificate_checker.specs.declared.faults.PartFault.{PartFault}
use Rattle.certificate_checker.specs.declared.faults.PartFault.TheVariants.{Entry, NoRoot}
use Rattle.certificate_checker.specs.Faults.{FailsFirst, IsStuck, IsShownWon, IsRankFault, IsWinFault, IsHoldFault, HasWinFault, HasHoldFault, HasEntryFault, HasPartFault}
use Rattle.certificate_checker.proofs.ListLemmas.{All-nth, one_failure, FailsFirst-one}

differ : (s : Side) → s ≡ other s → ⊥
differ Black e = cc
differ White e = cc

-- a side that has its due move is not stuck
pub due_is_not_stuck : (s : Side) (p : Board) (chosen : Option (List ℕ)) → HasDueMove s p chosen → IsStuck s p → ⊥
due_is_not_stuck s p (Some path) due stuck = stuck.1 path due.1
due_is_not_stuck s p None due stuck = let mine = stuck.0 in differ s cc

-- what fails first fails, and no later place does so too
nth_all : {A : Type 0} (P : A → Type 0) (xs : List A) (x : A) → FailsFirst P xs x → All P xs → ⊥
nth_all P xs x f all = f.1.1 (All-nth P xs f.0 x f.1.0 all)

module _ (list : WinList) (answer : Board → Option Answer) where
  abbrev IsGoodRow : Board × WinEntry → Type 0
  IsGoodRow row = IsGoodWinEntry list answer row.0 row.1

  below_is_won : (r : ℕ) (due : List Board) → All (IsReachedBelow list answer r) due → All (IsShownWon list answer) due
  below_is_won r due all = λ i q within. let below = all i q within in (below.0, below.1.1)

  rank_fault_is_no_good : (r : ℕ) (due : List Board) (f : EntryFault) → IsRankFault list answer r due f → All (IsReachedBelow list answer r) due → ⊥
  rank_fault_is_no_good r due StuckHolder f all = f
  rank_fault_is_no_good r due BadMove f all = f
  rank_fault_is_no_good r due (Missing q) f all = nth_all (IsShownWon list answer) due q f (below_is_won r due all)
  rank_fault_is_no_good r due BadRank f all = f.1.1.1 (All-contains (IsReachedBelow list answer r) due f.1.0 all f.1.1.0)

  pub win_fault_is_no_good : (p : Board) (e : WinEntry) (f : EntryFault) → IsWinFault list answer p e f → IsGoodWinEntry list answer p e → ⊥
  win_fault_is_no_good p e StuckHolder f good = f
  win_fault_is_no_good p e BadMove f good = f good.move
  win_fault_is_no_good p e (Missing q) f good = rank_fault_is_no_good e.rank (due_positions p e.chosen) (Missing q) f.1 good.below
  win_fault_is_no_good p e BadRank f good = rank_fault_is_no_good e.rank (due_positions p e.chosen) BadRank f.1 good.below

  one_rank_fault : (r : ℕ) (due : List Board) (f g : EntryFault) → IsRankFault list answer r due f → IsRankFault list answer r due g → f ≡ g
  one_rank_fault r due StuckHolder g a b = absurd a
  one_rank_fault r due BadMove g a b = absurd a
  one_rank_fault r due (Missing q) StuckHolder a b = absurd b
  one_rank_fault r due (Missing q) BadMove a b = absurd b
  one_rank_fault r due (Missing q) (Missing w) a b = ap Missing (FailsFirst-one (IsShownWon list answer) due q w a b)
  one_rank_fault r due (Missing q) BadRank a b = absurd (nth_all (IsShownWon list answer) due q a b.0)
  one_rank_fault r due BadRank StuckHolder a b = absurd b
  one_rank_fault r due BadRank BadMove a b = absurd b
  one_rank_fault r due BadRank (Missing w) a b = absurd (nth_all (IsShownWon list answer) due w b a.0)
  one_rank_fault r due BadRank BadRank a b = refl

  one_win_fault : (p : Board) (e : WinEntry) (f g : EntryFault) → IsWinFault list answer p e f → IsWinFault list answer p e g → f ≡ g
  one_win_fault p e StuckHolder g a b = absurd a
  one_win_fault p e BadMove StuckHolder a b = absurd b
  one_win_fault p e BadMove BadMove a b = refl
  one_win_fault p e BadMove (Missing w) a b = absurd (a b.0)
  one_win_fault p e BadMove BadRank a b = absurd (a b.0)
  one_win_fault p e (Missing q) StuckHolder a b = absurd b
  one_win_fault p e (Missing q) BadMove a b = absurd (b a.0)
  one_win_fault p e (Missing q) (Missing w) a b = one_rank_fault e.rank (due_positions p e.chosen) (Missing q) (Missing w) a.1 b.1
  one_win_fault p e (Missing q) BadRank a b = one_rank_fault e.rank (due_positions p e.chosen) (Missing q) BadRank a.1 b.1
  one_win_fault p e BadRank StuckHolder a b = absurd b
  one_win_fault p e BadRank BadMove a b = absurd (b a.0)
  one_win_fault p e BadRank (Missing w) a b = one_rank_fault e.rank (due_positions p e.chosen) BadRank (Missing w) a.1 b.1
  one_win_fault p e BadRank BadRank a b = refl

  faulty_wins_are_not_good : (n : ℕ) (f : EntryFault) → HasWinFault list answer n f → IsGoodWinPart list answer → ⊥
  faulty_wins_are_not_good n f found good = win_fault_is_no_good found.0.0 found.0.1 f found.1.1 (All-nth IsGoodRow list.entries n found.0 found.1.0 good)

  one_fault_of_wins : (m n : ℕ) (f g : EntryFault) → HasWinFault list answer m f → HasWinFault list answer n g → (m ≡ n) × (f ≡ g)
  one_fault_of_wins m n f g a b =
      let same = one_failure IsGoodRow list.entries m n a.0 b.0 a.1.0 b.1.0
      (win_fault_is_no_good a.0.0 a.0.1 f a.1.1) (win_fault_is_no_good b.0.0 b.0.1 g b.1.1) in
      (same.0, one_win_fault a.0.0 a.0.1 f g a.1.1 (subst (λ (row : Board × WinEntry). IsWinFault list answer row.0 row.1 g) (sym same.1) b.1.1))

  -- with its due move an entry is as good as its due positions
  pub win_verdict : (p : Board) (e : WinEntry) (found : Option EntryFault) → IsLawful p → HasDueMove list.side p e.chosen
      → MatchOption found (All (IsReachedBelow list answer e.rank) (due_positions p e.chosen)) (IsRankFault list answer e.rank (due_positions p e.chosen))
      → MatchOption found (IsGoodWinEntry list answer p e) (IsWinFault list answer p e)
  win_verdict p e None lawful due all = record { lawful = lawful; move = due; below = all }
  win_verdict p e (Some StuckHolder) lawful due never = never
  win_verdict p e (Some BadMove) lawful due never = absurd never
  win_verdict p e (Some (Missing q)) lawful due fault = (due, fault)
  win_verdict p e (Some BadRank) lawful due fault = (due, fault)

module _ (list : HoldList) (answer : Board → Option Answer) where
  abbrev IsGoodHeldRow : Board × Option (List ℕ) → Type 0
  IsGoodHeldRow row = IsGoodHoldEntry list answer row.0 row.1

  pub hold_fault_is_no_good : (p : Board) (chosen : Option (List ℕ)) (f : EntryFault) → IsHoldFault list answer p chosen f → IsGoodHoldEntry list answer p chosen → ⊥
  hold_fault_is_no_good p chosen StuckHolder f good = due_is_not_stuck list.side p chosen good.move f
  hold_fault_is_no_good p chosen BadMove f good = f.1 good.move
  hold_fault_is_no_good p chosen (Missing q) f good = nth_all (IsHeld list answer) (due_positions p chosen) q f.1 good.held
  hold_fault_is_no_good p chosen BadRank f good = f

  one_hold_fault : (p : Board) (chosen : Option (List ℕ)) (f g : EntryFault) → IsHoldFault list answer p chosen f → IsHoldFault list answer p chosen g → f ≡ g
  one_hold_fault p chosen BadRank g a b = absurd a
  one_hold_fault p chosen StuckHolder StuckHolder a b = refl
  one_hold_fault p chosen StuckHolder BadMove a b = absurd (b.0 a)
  one_hold_fault p chosen StuckHolder (Missing w) a b = absurd (due_is_not_stuck list.side p chosen b.0 a)
  one_hold_fault p chosen StuckHolder BadRank a b = absurd b
  one_hold_fault p chosen BadMove StuckHolder a b = absurd (a.0 b)
  one_hold_fault p chosen BadMove BadMove a b = refl
  one_hold_fault p chosen BadMove (Missing w) a b = absurd (a.1 b.0)
  one_hold_fault p chosen BadMove BadRank a b = absurd b
  one_hold_fault p chosen (Missing q) StuckHolder a b = absurd (due_is_not_stuck list.side p chosen a.0 b)
  one_hold_fault p chosen (Missing q) BadMove a b = absurd (b.1 a.0)
  one_hold_fault p chosen (Missing q) (Missing w) a b = ap Missing (FailsFirst-one (IsHeld list answer) (due_positions p chosen) q w a.1 b.1)
  one_hold_fault p chosen (Missing q) BadRank a b = absurd b

  faulty_holds_are_not_good : (n : ℕ) (f : EntryFault) → HasHoldFault list answer n f → IsGoodHoldPart list answer → ⊥
  faulty_holds_are_not_good n f found good = hold_fault_is_no_good found.0.0 found.0.1 f found.1.1 (All-nth IsGoodHeldRow list.entries n found.0 found.1.0 good)

  one_fault_of_holds : (m n : ℕ) (f g : EntryFault) → HasHoldFault list answer m f → HasHoldFault list answer n g → (m ≡ n) × (f ≡ g)
  one_fault_of_holds m n f g a b =
      let same = one_failure IsGoodHeldRow list.entries m n a.0 b.0 a.1.0 b.1.0
      (hold_fault_is_no_good a.0.0 a.0.1 f a.1.1) (hold_fault_is_no_good b.0.0 b.0.1 g b.1.1) in
      (same.0, one_hold_fault a.0.0 a.0.1 f g a.1.1 (subst (λ (row : Board × Option (List ℕ)). IsHoldFault list answer row.0 row.1 g) (sym same.1) b.1.1))

-- ---- parts

module _ (answer : Board → Option Answer) where
  faulty_entries_are_not_good : (one : Part) (n : ℕ) (f : EntryFault) → HasEntryFault one answer n f → HasGoodEntries one answer → ⊥
  faulty_entries_are_not_good (part.Win list) n f found good = faulty_wins_are_not_good list answer n f found good
  faulty_entries_are_not_good (part.Hold list) n f found good = faulty_holds_are_not_good list answer n f found good

  one_entry_fault : (one : Part) (m n : ℕ) (f g : EntryFault) → HasEntryFault one answer m f → HasEntryFault one answer n g → (m ≡ n) × (f ≡ g)
  one_entry_fault (part.Win list) m n f g a b = one_fault_of_wins list answer m n f g a b
  one_entry_fault (part.Hold list) m n f g a b = one_fault_of_holds list answer m n f g a b

  pub faulty_part_is_not_good : (p : Board) (one : Part) (f : PartFault) → HasPartFault answer p one f → IsGoodPart answer p one → ⊥
  faulty_part_is_not_good p one (Entry n f) found good = faulty_entries_are_not_good one n f found good.0
  faulty_part_is_not_good p one NoRoot found good = found.1 good.1

  pub one_part_fault : (p : Board) (one : Part) (f g : PartFault) → HasPartFault answer p one f → HasPartFault answer p one g → f ≡ g
  one_part_fault p one (Entry m f) (Entry n g) a b = let same = one_entry_fault one m n f g a b in let place = same.0 in let fault = same.1 in cc
  one_part_fault p one (Entry m f) NoRoot a b = absurd (faulty_entries_are_not_good one m f a b.0)
  one_part_fault p one NoRoot (Entry n g) a b = absurd (faulty_entries_are_not_good one n g b a.0)
  one_part_fault p one NoRoot NoRoot a b = refl
