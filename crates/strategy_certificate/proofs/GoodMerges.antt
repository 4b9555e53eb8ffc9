-- Of good parts a merged part is good.
use Rattle.std.proofs.Common.{◌≡◌, ℕ, ◌≤◌, inl, inr, List, refl, sym, ap, subst, Option, Some, None, Bool, true, false, cond, map, arith}
use Rattle.std.specs.Prelude.{Contains, IfSome, is_none, nat_lt}
use Rattle.std.proofs.lemmas.Bool.Decides.{nat_tests}
use Rattle.std.proofs.lemmas.List.Elements.{All-contains, All-contains_itself, All-weaker, All-append, All-map, All-filter, Contains-append_left, Contains-append_right}
use Rattle.std.proofs.lemmas.Map.Views.{Contains-from_lookup, lookup-from_Contains}
use Rattle.draughts_board.specs.Board.{Board}
use Rattle.draughts_board.specs.Draughts.{draughts}
use Rattle.draughts_board.specs.Same.{same_board-equivalence}
use Rattle.draughts_board.proofs.Members.{Contains-filter, Contains-map}
use Rattle.strategy_certificate.specs.declared.oracle.Answer.{Answer}
use Rattle.strategy_certificate.specs.declared.entries.WinEntry.{WinEntry}
use Rattle.strategy_certificate.specs.Tables.{TableWins, TableHolds}
use Rattle.strategy_certificate.specs.Parts.{WinList, HoldList, HasDistinctPositions, entry_of, smaller, improved, added_rows, without_rank, hold_of}
use Rattle.strategy_certificate.specs.Certificates.{HasDueMove, due_positions, HasRank, IsReached, IsReachedBelow, IsGoodWinEntry, IsGoodWinPart, IsHeld, IsGoodHoldEntry, IsGoodHoldPart}
use Rattle.strategy_certificate.specs.Laws.{ReachesNoLater, HoldsAsMuch, merged_win_list, merged_hold_list, MergedWinsAreGood, MergedHoldsAreGood, GoodWinsHold}
use Rattle.strategy_certificate.proofs.MergeLemmas.{equal_boards, none_or_some, pick, pick-all}

-- ---- a good entry stays good in a part that reaches or holds as much

module _ (answer : Board → Option Answer) (part other : WinList) (side : part.side ≡ other.side) (reaches : ReachesNoLater answer part other) where
  reached_below : (r : ℕ) (q : Board) → IsReachedBelow part answer r q → IsReachedBelow other answer r q
  reached_below r q (m, (lt, here)) = let better = reaches m q here in (better.0, (omega arith, better.1.1))

  good_entry_stays : (p : Board) (e : WinEntry) → IsGoodWinEntry part answer p e → IsGoodWinEntry other answer p e
  good_entry_stays p e good = record {
    lawful = good.lawful;
    move = subst (λ s. HasDueMove s p e.chosen) side good.move;
    below = All-weaker (IsReachedBelow part answer e.rank) (IsReachedBelow other answer e.rank) (reached_below e.rank) (due_positions p e.chosen) good.below;
  }

module _ (answer : Board → Option Answer) (part other : HoldList) (side : part.side ≡ other.side) (holds : HoldsAsMuch answer part other) where
  good_hold_stays : (p : Board) (chosen : Option (List ℕ)) → IsGoodHoldEntry part answer p chosen → IsGoodHoldEntry other answer p chosen
  good_hold_stays p chosen good = record {
    lawful = good.lawful;
    move = subst (λ s. HasDueMove s p chosen) side good.move;
    held = All-weaker (IsHeld part answer) (IsHeld other answer) holds (due_positions p chosen) good.held;
  }

-- ---- the rows of a merged list

module _ {E : Type 0} (into from : List (Board × E)) where
  -- the row of a position without entry is new
  new_row : (q : Board) (e : E) → Contains from (q, e) → entry_of into q ≡ None → Contains (added_rows into from) (q, e)
  new_row q e there none = Contains-filter (λ row. is_none (entry_of into row.0)) from (q, e) there (ap is_none none)

  found_row : (rows : List (Board × E)) (q : Board) (e : E) → entry_of rows q ≡ Some e → Contains rows (q, e)
  found_row rows q e is = Contains-from_lookup equal_boards q e rows is

smaller-first : (e f : WinEntry) → (smaller e f).rank ≤ e.rank
smaller-first e f = by (nat_lt f.rank e.rank) refl
  where
    by : (b : Bool) → nat_lt f.rank e.rank ≡ b → (cond b f e).rank ≤ e.rank
    by true is = grind (arith, nat_tests)
    by false is = omega arith

smaller-second : (e f : WinEntry) → (smaller e f).rank ≤ f.rank
smaller-second e f = by (nat_lt f.rank e.rank) refl
  where
    by : (b : Bool) → nat_lt f.rank e.rank ≡ b → (cond b f e).rank ≤ f.rank
    by true is = omega arith
    by false is = grind (arith, nat_tests)

pick-first : (e : WinEntry) (o : Option WinEntry) → (pick e o).rank ≤ e.rank
pick-first e None = omega arith
pick-first e (Some f) = smaller-first e f

module _ (answer : Board → Option Answer) (into from : WinList) (side : into.side ≡ from.side) (distinct : HasDistinctPositions from.entries) where
  into_rank : (r : ℕ) (q : Board) → HasRank into r q → (m : ℕ) × ((m ≤ r) × HasRank (merged_win_list into from) m q)
  into_rank r q (e, (there, is)) =
      let best = pick e (entry_of from.entries q) in
      let row : Contains (map (improved from.entries) into.entries) (q, best) = Contains-map (improved from.entries) into.entries (q, e) there in
      let le = pick-first e (entry_of from.entries q) in
      (best.rank, (omega arith, (best, (Contains-append_left (map (improved from.entries) into.entries) (added_rows into.entries from.entries) (q, best) row, refl))))

  from_rank : (r : ℕ) (q : Board) → HasRank from r q → (m : ℕ) × ((m ≤ r) × HasRank (merged_win_list into from) m q)
  from_rank r q (e, (there, is)) =
      elim (none_or_some (entry_of into.entries q)) [
        | inl none ↦ (
            let row = new_row into.entries from.entries q e there none in
            (r, (omega arith, (e, (Contains-append_right (map (improved from.entries) into.entries) (added_rows into.entries from.entries) (q, e) row, is)))))
        | inr some ↦ (
            let kept = some.0 in
            let known : entry_of from.entries q ≡ Some e = lookup-from_Contains same_board-equivalence q e from.entries distinct there in
            let best = smaller kept e in
            let old = found_row into.entries from.entries into.entries q kept some.1 in
            let row : Contains (map (improved from.entries) into.entries) (q, best) =
            subst (λ o. Contains (map (improved from.entries) into.entries) (q, pick kept o)) known (Contains-map (improved from.entries) into.entries (q, kept) old) in
            let le = smaller-second kept e in
            (best.rank, (omega arith, (best, (Contains-append_left (map (improved from.entries) into.entries) (added_rows into.entries from.entries) (q, best) row, refl)))))
      ]

  into_reaches : ReachesNoLater answer into (merged_win_list into from)
  into_reaches r q (inl entry) = let better = into_rank r q entry in (better.0, (better.1.0, inl better.1.1))
  into_reaches r q (inr table) = (r, (omega arith, inr table))

  from_reaches : ReachesNoLater answer from (merged_win_list into from)
  from_reaches r q (inl entry) = let better = from_rank r q entry in (better.0, (better.1.0, inl better.1.1))
  from_reaches r q (inr table) = (r, (omega arith, inr (subst (λ s. TableWins draughts answer s r q) (sym side) table)))

  module _ (good_into : IsGoodWinPart into answer) (good_from : IsGoodWinPart from answer) where
    abbrev IsGoodRow : Board × WinEntry → Type 0
    IsGoodRow row = IsGoodWinEntry (merged_win_list into from) answer row.0 row.1

    from_row : (q : Board) (e : WinEntry) → Contains from.entries (q, e) → IsGoodRow (q, e)
    from_row q e there =
        good_entry_stays answer from (merged_win_list into from) (sym side) from_reaches q e
        (All-contains (λ row. IsGoodWinEntry from answer row.0 row.1) from.entries (q, e) good_from there)

    -- what `from` has of the position is good
    best_row : (q : Board) (o : Option WinEntry) → entry_of from.entries q ≡ o → IfSome o (λ e. IsGoodRow (q, e))
    best_row q None is = tt
    best_row q (Some e) is = from_row q e (found_row into.entries from.entries from.entries q e is)

    improved_row : (row : Board × WinEntry) → IsGoodWinEntry into answer row.0 row.1 → IsGoodRow (improved from.entries row)
    improved_row row good =
        pick-all (λ e. IsGoodRow (row.0, e)) row.1 (entry_of from.entries row.0)
        (good_entry_stays answer into (merged_win_list into from) refl into_reaches row.0 row.1 good)
        (best_row row.0 (entry_of from.entries row.0) refl)

    merged_wins_good : IsGoodWinPart (merged_win_list into from) answer
    merged_wins_good =
        All-append IsGoodRow (map (improved from.entries) into.entries) (added_rows into.entries from.entries)
        (All-map IsGoodRow (improved from.entries) into.entries
        (All-weaker (λ row. IsGoodWinEntry into answer row.0 row.1) (λ row. IsGoodRow (improved from.entries row)) improved_row into.entries good_into))
        (All-filter (λ row. is_none (entry_of into.entries row.0)) IsGoodRow from.entries
        (All-weaker (Contains from.entries) IsGoodRow (λ row there. from_row row.0 row.1 there) from.entries (All-contains_itself from.entries)))

pub merged_wins_are_good : MergedWinsAreGood
merged_wins_are_good answer into from side distinct good_into good_from =
    (merged_wins_good answer into from side distinct good_into good_from, (into_reaches answer into from side distinct, from_reaches answer into from side distinct))

-- ---- holds

module _ (answer : Board → Option Answer) (into from : HoldList) (side : into.side ≡ from.side) where
  into_holds : HoldsAsMuch answer into (merged_hold_list into from)
  into_holds q (inl (chosen, there)) =
      inl (chosen, Contains-append_left into.entries (added_rows into.entries from.entries) (q, chosen) there)
  into_holds q (inr table) = inr table

  from_holds : HoldsAsMuch answer from (merged_hold_list into from)
  from_holds q (inl (chosen, there)) =
      elim (none_or_some (entry_of into.entries q)) [
        | inl none ↦ inl (chosen, Contains-append_right into.entries (added_rows into.entries from.entries) (q, chosen) (new_row into.entries from.entries q chosen there none))
        | inr some ↦ inl (some.0, Contains-append_left into.entries (added_rows into.entries from.entries) (q, some.0) (found_row into.entries from.entries into.entries q some.0 some.1))
      ]
  from_holds q (inr table) = inr (subst (λ s. TableHolds draughts answer s q) (sym side) table)

  merged_holds_good : IsGoodHoldPart into answer → IsGoodHoldPart from answer → IsGoodHoldPart (merged_hold_list into from) answer
  merged_holds_good good_into good_from =
      All-append (λ row. IsGoodHoldEntry (merged_hold_list into from) answer row.0 row.1) into.entries (added_rows into.entries from.entries)
      (All-weaker (λ row. IsGoodHoldEntry into answer row.0 row.1) (λ row. IsGoodHoldEntry (merged_hold_list into from) answer row.0 row.1)
      (λ row. good_hold_stays answer into (merged_hold_list into from) refl into_holds row.0 row.1) into.entries good_into)
      (All-filter (λ row. is_none (entry_of into.entries row.0)) (λ row. IsGoodHoldEntry (merged_hold_list into from) answer row.0 row.1) from.entries
      (All-weaker (λ row. IsGoodHoldEntry from answer row.0 row.1) (λ row. IsGoodHoldEntry (merged_hold_list into from) answer row.0 row.1)
      (λ row. good_hold_stays answer from (merged_hold_list into from) (sym side) from_holds row.0 row.1) from.entries good_from))

pub merged_holds_are_good : MergedHoldsAreGood
merged_holds_are_good answer into from side good_into good_from =
    (merged_holds_good answer into from side good_into good_from, (into_holds answer into from side, from_holds answer into from side))

-- ---- a win part without its ranks

module _ (answer : Board → Option Answer) (part : WinList) where
  reached_held : (r : ℕ) (q : Board) → IsReached part answer r q → IsHeld (hold_of part) answer q
  reached_held r q (inl (e, (there, is))) = inl (e.chosen, Contains-map without_rank part.entries (q, e) there)
  reached_held r q (inr table) = inr (inl (r, table))

  hold_entry : (row : Board × WinEntry) → IsGoodWinEntry part answer row.0 row.1 → IsGoodHoldEntry (hold_of part) answer row.0 row.1.chosen
  hold_entry row good = record {
    lawful = good.lawful;
    move = good.move;
    held = All-weaker (IsReachedBelow part answer row.1.rank) (IsHeld (hold_of part) answer) (λ q below. reached_held below.0 q below.1.1) (due_positions row.0 row.1.chosen) good.below;
  }

  hold_of-good : IsGoodWinPart part answer → IsGoodHoldPart (hold_of part) answer
  hold_of-good good =
      All-map (λ row. IsGoodHoldEntry (hold_of part) answer row.0 row.1) without_rank part.entries
      (All-weaker (λ row. IsGoodWinEntry part answer row.0 row.1) (λ row. IsGoodHoldEntry (hold_of part) answer row.0 row.1.chosen) hold_entry part.entries good)

pub good_wins_hold : GoodWinsHold
good_wins_hold answer part good = (hold_of-good answer part good, reached_held answer part)
