-- What trimming keeps.
use Rattle.std.proofs.Common.{◌≡◌, ℕ, suc, zero, inl, inr, List, refl, sym, ◌∙◌, ap, subst, Option, map}
use Rattle.std.specs.Prelude.{Contains, All}
use Rattle.std.proofs.lemmas.List.Elements.{All-contains, All-contains_itself, All-weaker}
use Rattle.draughts_board.specs.Board.{Board}
use Rattle.draughts_board.proofs.Members.{Contains-map, Contains-from_map}
use Rattle.strategy_certificate.specs.declared.oracle.Answer.{Answer}
use Rattle.strategy_certificate.specs.declared.entries.WinEntry.{WinEntry}
use Rattle.draughts_board.specs.declared.pieces.Side.{Side}
use Rattle.draughts_board.specs.Draughts.{draughts}
use Rattle.strategy_certificate.specs.Tables.{TableWins, TableHolds}
use Rattle.strategy_certificate.specs.Parts.{WinList, HoldList, HasEntry, without_rank}
use Rattle.strategy_certificate.specs.Certificates.{HasDueMove, due_positions, HasRank, IsReachedBelow, IsGoodWinEntry, IsGoodWinPart, IsHeld, IsGoodHoldEntry, IsGoodHoldPart}
use Rattle.proved_book.specs.Trimming.{Strategy, GoesOn, LeadsIn, Leads, IsTrimmedWin, IsTrimmedHold}
use Rattle.proved_book.specs.Laws.{TrimmedWinsAreGood, TrimmedHoldsAreGood, OneTrimmedWin, OneTrimmedHold}
use Rattle.proved_book.proofs.Those.{those_meet, those_all, those_once}

-- ---- a position with an entry

pub entry_without_rank : (rows : List (Board × WinEntry)) (q : Board) → HasEntry rows q → HasEntry (map without_rank rows) q
entry_without_rank rows q (e, there) = (e.chosen, Contains-map without_rank rows (q, e) there)

pub entry_with_rank : (rows : List (Board × WinEntry)) (q : Board) → HasEntry (map without_rank rows) q → HasEntry rows q
entry_with_rank rows q (chosen, there) =
    let row = Contains-from_map without_rank rows (q, chosen) there in
    (row.0.1, subst (λ (b : Board). Contains rows (b, row.0.1)) (ap (λ (x : Board × Option (List ℕ)). x.0) row.1.1) row.1.0)

module _ (rows : Strategy) (p : Board) where
  -- p leads to itself, and where q leads on, p leads too
  pub leads_here : HasEntry rows p → Leads rows p p
  leads_here there = (0, (refl, there))

  pub leads_on : (q r : Board) → Leads rows p q → GoesOn rows q r → Leads rows p r
  leads_on q r (n, way) on = (suc n, (q, (way, on)))

  -- where it leads, there is an entry
  pub led_entry : (n : ℕ) (q : Board) → LeadsIn rows p n q → HasEntry rows q
  led_entry zero q (same, there) = there
  led_entry (suc n) q (m, (way, on)) = on.there

-- ---- wins

module _ (answer : Board → Option Answer) (part kept : WinList) (p : Board) (trimmed : IsTrimmedWin part p kept) where
  rows : Strategy
  rows = map without_rank part.entries

  abbrev IsLed : Board × WinEntry → Type 0
  IsLed row = Leads (map without_rank part.entries) p row.0

  kept_row : (q : Board) (e : WinEntry) → Contains part.entries (q, e) → Leads (map without_rank part.entries) p q → Contains kept.entries (q, e)
  kept_row q e there led = those_all IsLed part.entries kept.entries trimmed.entries (q, e) there led

  -- a due position that was reached is still reached, with the same rank
  still_below : (q : Board) (e : WinEntry) → Contains part.entries (q, e) → Leads (map without_rank part.entries) p q
      → (r : Board) → Contains (due_positions q e.chosen) r → IsReachedBelow part answer e.rank r → IsReachedBelow kept answer e.rank r
  still_below q e there led r due (m, (lt, inl (f, (found, rank)))) =
      let on : GoesOn (map without_rank part.entries) q r = record {
        chosen = e.chosen;
        entry = Contains-map without_rank part.entries (q, e) there;
        due = due;
        there = entry_without_rank part.entries r (f, found);
      } in
      (m, (lt, inl (f, (kept_row r f found (leads_on (map without_rank part.entries) p q r led on), rank))))
  still_below q e there led r due (m, (lt, inr table)) = (m, (lt, inr (subst (λ (s : Side). TableWins draughts answer s m r) (sym trimmed.side) table)))

  still_good : IsGoodWinPart part answer → (row : Board × WinEntry) → Contains kept.entries row → IsGoodWinEntry kept answer row.0 row.1
  still_good good row there =
      let from = those_meet IsLed part.entries kept.entries trimmed.entries row there in
      let was = All-contains (λ (x : Board × WinEntry). IsGoodWinEntry part answer x.0 x.1) part.entries row good from.0 in
      let each : All (λ r. Contains (due_positions row.0 row.1.chosen) r × IsReachedBelow part answer row.1.rank r) (due_positions row.0 row.1.chosen) =
      λ k d within. (All-contains_itself (due_positions row.0 row.1.chosen) k d within, was.below k d within) in
      record {
        lawful = was.lawful;
        move = subst (λ s. HasDueMove s row.0 row.1.chosen) (sym trimmed.side) was.move;
        below = All-weaker (λ r. Contains (due_positions row.0 row.1.chosen) r × IsReachedBelow part answer row.1.rank r) (IsReachedBelow kept answer row.1.rank)
            (λ r both. still_below row.0 row.1 from.0 from.1 r both.0 both.1) (due_positions row.0 row.1.chosen) each;
      }

  pub trimmed_win_good : IsGoodWinPart part answer → IsGoodWinPart kept answer
  trimmed_win_good good =
      All-weaker (Contains kept.entries) (λ row. IsGoodWinEntry kept answer row.0 row.1) (still_good good) kept.entries (All-contains_itself kept.entries)

  pub trimmed_win_rank : (r : ℕ) → HasRank part r p → HasRank kept r p
  trimmed_win_rank r (e, (there, rank)) =
      (e, (kept_row p e there (leads_here (map without_rank part.entries) p (entry_without_rank part.entries p (e, there))), rank))

pub trimmed_wins_are_good : TrimmedWinsAreGood
trimmed_wins_are_good answer part kept p trimmed good = (trimmed_win_good answer part kept p trimmed good, trimmed_win_rank answer part kept p trimmed)

win_with : Side → List (Board × WinEntry) → WinList
win_with side entries = record { side = side; entries = entries }

pub one_trimmed_win : OneTrimmedWin
unfolding win_with
one_trimmed_win part a b p one another =
    let side : a.side ≡ b.side = one.side ∙ sym another.side in
    let entries : a.entries ≡ b.entries = those_once (λ row. Leads (map without_rank part.entries) p row.0) part.entries a.entries b.entries one.entries another.entries in
    λ i. win_with (side i) (entries i)

-- ---- holds

module _ (answer : Board → Option Answer) (part kept : HoldList) (p : Board) (trimmed : IsTrimmedHold part p kept) where
  abbrev IsLedHold : Board × Option (List ℕ) → Type 0
  IsLedHold row = Leads part.entries p row.0

  kept_hold : (q : Board) (chosen : Option (List ℕ)) → Contains part.entries (q, chosen) → Leads part.entries p q → Contains kept.entries (q, chosen)
  kept_hold q chosen there led = those_all IsLedHold part.entries kept.entries trimmed.entries (q, chosen) there led

  -- a due position that was held is still held
  still_held : (q : Board) (chosen : Option (List ℕ)) → Contains part.entries (q, chosen) → Leads part.entries p q
      → (r : Board) → Contains (due_positions q chosen) r → IsHeld part answer r → IsHeld kept answer r
  still_held q chosen there led r due (inl (f, found)) =
      let on : GoesOn part.entries q r = record { chosen = chosen; entry = there; due = due; there = (f, found) } in
      inl (f, kept_hold r f found (leads_on part.entries p q r led on))
  still_held q chosen there led r due (inr table) = inr (subst (λ (s : Side). TableHolds draughts answer s r) (sym trimmed.side) table)

  still_closed : IsGoodHoldPart part answer → (row : Board × Option (List ℕ)) → Contains kept.entries row → IsGoodHoldEntry kept answer row.0 row.1
  still_closed good row there =
      let from = those_meet IsLedHold part.entries kept.entries trimmed.entries row there in
      let was = All-contains (λ (x : Board × Option (List ℕ)). IsGoodHoldEntry part answer x.0 x.1) part.entries row good from.0 in
      let each : All (λ r. Contains (due_positions row.0 row.1) r × IsHeld part answer r) (due_positions row.0 row.1) =
      λ k d within. (All-contains_itself (due_positions row.0 row.1) k d within, was.held k d within) in
      record {
        lawful = was.lawful;
        move = subst (λ s. HasDueMove s row.0 row.1) (sym trimmed.side) was.move;
        held = All-weaker (λ r. Contains (due_positions row.0 row.1) r × IsHeld part answer r) (IsHeld kept answer)
            (λ r both. still_held row.0 row.1 from.0 from.1 r both.0 both.1) (due_positions row.0 row.1) each;
      }

  pub trimmed_hold_good : IsGoodHoldPart part answer → IsGoodHoldPart kept answer
  trimmed_hold_good good =
      All-weaker (Contains kept.entries) (λ row. IsGoodHoldEntry kept answer row.0 row.1) (still_closed good) kept.entries (All-contains_itself kept.entries)

  pub trimmed_hold_entry : HasEntry part.entries p → HasEntry kept.entries p
  trimmed_hold_entry (chosen, there) = (chosen, kept_hold p chosen there (leads_here part.entries p (chosen, there)))

pub trimmed_holds_are_good : TrimmedHoldsAreGood
trimmed_holds_are_good answer part kept p trimmed good = (trimmed_hold_good answer part kept p trimmed good, trimmed_hold_entry answer part kept p trimmed)

hold_with : Side → List (Board × Option (List ℕ)) → HoldList
hold_with side entries = record { side = side; entries = entries }

pub one_trimmed_hold : OneTrimmedHold
unfolding hold_with
one_trimmed_hold part a b p one another =
    let side : a.side ≡ b.side = one.side ∙ sym another.side in
    let entries : a.entries ≡ b.entries = those_once (λ row. Leads part.entries p row.0) part.entries a.entries b.entries one.entries another.entries in
    λ i. hold_with (side i) (entries i)
