-- How a part that wins grows by one position.
use Rattle.std.proofs.Common.{◌≡◌, ℕ, suc, ◌≤◌, inl, inr, List, [], ◌∷◌, ◌++◌, refl, sym, subst, Option, Some, None, map, arith}
use Rattle.std.specs.Prelude.{Contains, All, IfSome, is_none}
use Rattle.std.proofs.lemmas.List.Elements.{All-contains, All-weaker, All-cons, All-nil, All-append, All-map, All-filter, All-push, Contains-append_left, Contains-append_right, Contains-push}
use Rattle.std.proofs.lemmas.Map.Views.{Contains-from_lookup}
use Rattle.draughts_board.specs.Board.{Board, IsLawful}
use Rattle.strategy_certificate.specs.declared.oracle.Answer.{Answer}
use Rattle.strategy_certificate.specs.declared.entries.WinEntry.{WinEntry}
use Rattle.draughts_board.specs.Draughts.{draughts}
use Rattle.strategy_certificate.specs.Tables.{TableWins}
use Rattle.strategy_certificate.specs.Parts.{WinList, HasDistinctPositions, entry_of, improved, added_rows}
use Rattle.strategy_certificate.specs.Certificates.{HasDueMove, due_positions, IsReachedBelow, IsGoodWinEntry, IsGoodWinPart}
use Rattle.strategy_certificate.specs.Laws.{ReachesNoLater, merged_win_list}
use Rattle.strategy_certificate.proofs.MergeLemmas.{equal_boards, pick-all}
use Rattle.strategy_certificate.proofs.GoodMerges.{merged_wins_are_good}
use Rattle.certificate_joiner.specs.Growing.{IsReachedWithin, WinsAll}

module _ (answer : Board → Option Answer) where
  -- ---- the bound may rise, and a position that is reached may join

  reached_later : (part : WinList) (n m : ℕ) → n ≤ m → (q : Board) → IsReachedWithin part answer n q → IsReachedWithin part answer m q
  reached_later part n m le q (r, (low, here)) = (r, (omega arith, here))

  pub WinsAll-later : (n m : ℕ) (ps : List Board) (part : WinList) → n ≤ m → WinsAll answer n ps part → WinsAll answer m ps part
  WinsAll-later n m ps part le all = record {
    good = all.good;
    ranks = All-weaker (λ (row : Board × WinEntry). row.1.rank ≤ n) (λ row. row.1.rank ≤ m) (λ row low. omega arith) part.entries all.ranks;
    reached = All-weaker (IsReachedWithin part answer n) (IsReachedWithin part answer m) (reached_later part n m le) ps all.reached;
  }

  pub WinsAll-one_more : (n : ℕ) (ps : List Board) (part : WinList) (p : Board) → IsReachedWithin part answer n p → WinsAll answer n ps part → WinsAll answer n (p ∷ ps) part
  WinsAll-one_more n ps part p here all = record {
    good = all.good;
    ranks = all.ranks;
    reached = All-cons (IsReachedWithin part answer n) p ps here all.reached;
  }

  -- a position with an entry is reached
  pub reached_by_entry : (n : ℕ) (part : WinList) (p : Board) (e : WinEntry) → All (λ row. row.1.rank ≤ n) part.entries → Contains part.entries (p, e) → IsReachedWithin part answer n p
  reached_by_entry n part p e ranks there =
      (e.rank, (All-contains (λ (row : Board × WinEntry). row.1.rank ≤ n) part.entries (p, e) ranks there, inl (e, (there, refl))))

  -- ---- a part that reaches no later keeps what was good

  module _ (part other : WinList) (side : part.side ≡ other.side) (reaches : ReachesNoLater answer part other) where
    below_stays : (r : ℕ) (q : Board) → IsReachedBelow part answer r q → IsReachedBelow other answer r q
    below_stays r q (m, (lt, here)) = let better = reaches m q here in (better.0, (omega arith, better.1.1))

    within_stays : (n : ℕ) (q : Board) → IsReachedWithin part answer n q → IsReachedWithin other answer n q
    within_stays n q (m, (le, here)) = let better = reaches m q here in (better.0, (omega arith, better.1.1))

    entry_stays : (row : Board × WinEntry) → IsGoodWinEntry part answer row.0 row.1 → IsGoodWinEntry other answer row.0 row.1
    entry_stays row good = record {
      lawful = good.lawful;
      move = subst (λ s. HasDueMove s row.0 row.1.chosen) side good.move;
      below = All-weaker (IsReachedBelow part answer row.1.rank) (IsReachedBelow other answer row.1.rank) (below_stays row.1.rank) (due_positions row.0 row.1.chosen) good.below;
    }

  -- ---- an entry of the greatest rank

  module _ (n : ℕ) (ps : List Board) (part : WinList) (p : Board) (chosen : Option (List ℕ)) (all : WinsAll answer n ps part) where
    abbrev entry : WinEntry
    entry = record { rank = suc n; chosen = chosen }

    abbrev grown : WinList
    grown = record { side = part.side; entries = part.entries ++ (p, entry) ∷ [] }

    grown_reaches : ReachesNoLater answer part grown
    grown_reaches r q (inl (e, (there, is))) = (r, (omega arith, inl (e, (Contains-append_left part.entries ((p, entry) ∷ []) (q, e) there, is))))
    grown_reaches r q (inr table) = (r, (omega arith, inr table))

    due_below : (q : Board) → Contains ps q → IsReachedBelow grown answer (suc n) q
    due_below q there =
        let old = All-contains (IsReachedWithin part answer n) ps q all.reached there in
        let better = grown_reaches old.0 q old.1.1 in
        let low = old.1.0 in
        (better.0, (omega arith, better.1.1))

    pub WinsAll-entry : IsLawful p → HasDueMove part.side p chosen → All (Contains ps) (due_positions p chosen) → WinsAll answer (suc n) (p ∷ ps) grown
    WinsAll-entry lawful move due = record {
      good = All-push (λ row. IsGoodWinEntry grown answer row.0 row.1) part.entries (p, entry)
          (All-weaker (λ row. IsGoodWinEntry part answer row.0 row.1) (λ row. IsGoodWinEntry grown answer row.0 row.1) (entry_stays part grown refl grown_reaches) part.entries all.good)
          (record { lawful = lawful; move = move; below = All-weaker (Contains ps) (IsReachedBelow grown answer (suc n)) due_below (due_positions p chosen) due });
      ranks = All-push (λ (row : Board × WinEntry). row.1.rank ≤ suc n) part.entries (p, entry)
          (All-weaker (λ (row : Board × WinEntry). row.1.rank ≤ n) (λ row. row.1.rank ≤ suc n) (λ row low. omega arith) part.entries all.ranks)
          (omega arith);
      reached = All-cons (IsReachedWithin grown answer (suc n)) p ps
          (suc n, (omega arith, inl (entry, (Contains-push part.entries (p, entry), refl))))
          (All-weaker (IsReachedWithin part answer n) (IsReachedWithin grown answer (suc n)) (λ q here. reached_later grown n (suc n) (omega arith) q (within_stays part grown refl grown_reaches n q here)) ps all.reached);
    }

  -- ---- a good part, merged in

  abbrev IsLow : ℕ → Board × WinEntry → Type 0
  IsLow n row = row.1.rank ≤ n

  merged_ranks : (n : ℕ) (into from : List (Board × WinEntry)) → All (λ row. row.1.rank ≤ n) into → All (λ row. row.1.rank ≤ n) from → All (λ row. row.1.rank ≤ n) (map (improved from) into ++ added_rows into from)
  merged_ranks n into from low_into low_from =
      All-append (IsLow n) (map (improved from) into) (added_rows into from)
      (All-map (IsLow n) (improved from) into (All-weaker (IsLow n) (λ row. IsLow n (improved from row)) one into low_into))
      (All-filter (λ (row : Board × WinEntry). is_none (entry_of into row.0)) (IsLow n) from low_from)
    where
      found : (q : Board) (o : Option WinEntry) → entry_of from q ≡ o → IfSome o (λ e. e.rank ≤ n)
      found q None is = tt
      found q (Some e) is = All-contains (IsLow n) from (q, e) low_from (Contains-from_lookup equal_boards q e from is)

      one : (row : Board × WinEntry) → IsLow n row → IsLow n (improved from row)
      one row low = pick-all (λ e. e.rank ≤ n) row.1 (entry_of from row.0) low (found row.0 (entry_of from row.0) refl)

  pub WinsAll-merged : (n : ℕ) (ps : List Board) (into from : WinList) (p : Board) → into.side ≡ from.side → HasDistinctPositions from.entries
      → WinsAll answer n ps into → IsGoodWinPart from answer → All (λ row. row.1.rank ≤ n) from.entries → IsReachedWithin from answer n p
      → WinsAll answer n (p ∷ ps) (merged_win_list into from)
  WinsAll-merged n ps into from p side distinct all good ranks here =
      let merged = merged_wins_are_good answer into from side distinct all.good good in
      record {
        good = merged.0;
        ranks = merged_ranks n into.entries from.entries all.ranks ranks;
        reached = All-cons (IsReachedWithin (merged_win_list into from) answer n) p ps
            (within_stays from (merged_win_list into from) (sym side) merged.1.1 n p here)
            (All-weaker (IsReachedWithin into answer n) (IsReachedWithin (merged_win_list into from) answer n) (within_stays into (merged_win_list into from) refl merged.1.0 n) ps all.reached);
      }

  -- ---- two parts, one behind the other

  abbrev pub both_win_list : WinList → WinList → WinList
  both_win_list into from = record { side = into.side; entries = into.entries ++ from.entries }

  module _ (into from : WinList) (side : into.side ≡ from.side) where
    into_reaches : ReachesNoLater answer into (both_win_list into from)
    into_reaches r q (inl (e, (there, is))) = (r, (omega arith, inl (e, (Contains-append_left into.entries from.entries (q, e) there, is))))
    into_reaches r q (inr table) = (r, (omega arith, inr table))

    from_reaches : ReachesNoLater answer from (both_win_list into from)
    from_reaches r q (inl (e, (there, is))) = (r, (omega arith, inl (e, (Contains-append_right into.entries from.entries (q, e) there, is))))
    from_reaches r q (inr table) = (r, (omega arith, inr (subst (λ s. TableWins draughts answer s r q) (sym side) table)))

    pub WinsAll-both : (n : ℕ) (ps : List Board) (p : Board)
        → WinsAll answer n ps into → IsGoodWinPart from answer → All (λ row. row.1.rank ≤ n) from.entries → IsReachedWithin from answer n p
        → WinsAll answer n (p ∷ ps) (both_win_list into from)
    WinsAll-both n ps p all good ranks here = record {
      good = All-append (λ row. IsGoodWinEntry (both_win_list into from) answer row.0 row.1) into.entries from.entries
          (All-weaker (λ row. IsGoodWinEntry into answer row.0 row.1) (λ row. IsGoodWinEntry (both_win_list into from) answer row.0 row.1) (entry_stays into (both_win_list into from) refl into_reaches) into.entries all.good)
          (All-weaker (λ row. IsGoodWinEntry from answer row.0 row.1) (λ row. IsGoodWinEntry (both_win_list into from) answer row.0 row.1) (entry_stays from (both_win_list into from) (sym side) from_reaches) from.entries good);
      ranks = All-append (IsLow n) into.entries from.entries all.ranks ranks;
      reached = All-cons (IsReachedWithin (both_win_list into from) answer n) p ps
          (within_stays from (both_win_list into from) (sym side) from_reaches n p here)
          (All-weaker (IsReachedWithin into answer n) (IsReachedWithin (both_win_list into from) answer n) (within_stays into (both_win_list into from) refl into_reaches n) ps all.reached);
    }

  -- ---- nothing yet

  pub WinsAll-none : (n : ℕ) (part : WinList) → part.entries ≡ [] → WinsAll answer n [] part
  WinsAll-none n part none = record {
    good = subst (All (λ row. IsGoodWinEntry part answer row.0 row.1)) (sym none) (All-nil (λ row. IsGoodWinEntry part answer row.0 row.1));
    ranks = subst (All (IsLow n)) (sym none) (All-nil (IsLow n));
    reached = All-nil (IsReachedWithin part answer n);
  }
