-- What one more step does to a part.
use Rattle.std.proofs.Common.{◌≡◌, ℕ, suc, ◌+◌, ◌≤◌, ◌⊎◌, inl, inr, List, [], ◌∷◌, ◌++◌, sym, subst, Option, arith}
use Rattle.std.specs.Prelude.{Contains, Result, Ok, Err, OnOk}
use Rattle.std.proofs.lemmas.List.Elements.{All-weaker}
use Rattle.draughts_board.specs.Board.{Board}
use Rattle.draughts_board.specs.Draughts.{draughts}
use Rattle.strategy_certificate.specs.declared.entries.TheConstants.{MOST_FOUND_RANK}
use Rattle.strategy_certificate.specs.declared.oracle.Answer.{Answer}
use Rattle.strategy_certificate.specs.declared.entries.WinEntry.{WinEntry}
use denote.Bor.{Bor}
use Rattle.strategy_certificate.specs.declared.certificates.Part.{Part}
use Rattle.strategy_certificate.specs.declared.certificates.Part.TheVariants as part
use Rattle.strategy_certificate.specs.Tables.{IsSoundTable}
use Rattle.strategy_certificate.specs.Parts.{WinList, HoldList, HasDistinctPositions}
use Rattle.strategy_certificate.specs.Certificates.{due_positions}
use Rattle.strategy_certificate.specs.Laws.{merged_win_list, merged_hold_list}
use Rattle.certificate_joiner.specs.declared.steps.Step.{Step}
use Rattle.certificate_joiner.specs.declared.steps.Reason.{Reason}
use Rattle.certificate_joiner.specs.declared.steps.Reason.TheVariants.{Table, Shown, Play, Repeats}
use Rattle.certificate_joiner.specs.Steps.{IsDistinctPart}
use Rattle.certificate_joiner.specs.Growing.{IsReachedWithin, WinsAll}
use Rattle.certificate_joiner.specs.Steps.{with_win, as_hold_list, HasOneMore, ShowsWinBy, ListShowsWin, PartShowsWin, JoinsWin, ShowsHoldBy, ListShowsHold, JoinsHold}
use Rattle.certificate_joiner.proofs.Wins.{WinsAll-later, WinsAll-one_more, WinsAll-entry, WinsAll-merged, reached_by_entry}
use Rattle.certificate_joiner.proofs.Holds.{HoldsAllBut-held, HoldsAllBut-entry, HoldsAllBut-merged}

-- ---- wins

module _ (old : WinList) (p : Board) (reason : Reason) (rank : ℕ) where
  abbrev step : Step
  step = record { position = p; reason = reason }

  -- a position that is reached already
  reached_adds : (answer : Board → Option Answer) (n : ℕ) (later : List Board) → IsReachedWithin old answer n p → WinsAll answer n later old → WinsAll answer (n + 1) (p ∷ later) old
  reached_adds answer n later here all = WinsAll-later answer n (n + 1) (p ∷ later) old (omega arith) (WinsAll-one_more answer n later old p here all)

  pub table_adds_win : reason ≡ Table → JoinsWin old step rank old
  table_adds_win is k answer n later sound high counts shows all =
      let table = subst (ShowsWinBy k old.side later p) is shows answer sound in
      let le = table.1.0 in
      reached_adds answer n later (table.0, (omega arith, inr table.1.1)) all

  pub there_adds_win : (e : WinEntry) → Contains old.entries (p, e) → JoinsWin old step rank old
  there_adds_win e there k answer n later sound high counts shows all = reached_adds answer n later (reached_by_entry answer n old p e all.ranks there) all

  pub repeats_adds_win : reason ≡ Repeats → JoinsWin old step rank old
  repeats_adds_win is k answer n later sound high counts shows all = absurd (subst (ShowsWinBy k old.side later p) is shows)

  pub entry_adds_win : (chosen : Option (List ℕ)) → reason ≡ Play chosen
      → JoinsWin old step rank (record { side = old.side; entries = old.entries ++ (p, record { rank = rank; chosen = chosen }) ∷ [] })
  entry_adds_win chosen is k answer n later sound high counts shows all =
      let plays = subst (ShowsWinBy k old.side later p) is shows in
      let same : suc n ≡ rank = omega arith in
      subst (λ m. WinsAll answer (n + 1) (p ∷ later) (record { side = old.side; entries = old.entries ++ (p, record { rank = m; chosen = chosen }) ∷ [] })) same
      (WinsAll-later answer (suc n) (n + 1) (p ∷ later) (record { side = old.side; entries = old.entries ++ (p, record { rank = suc n; chosen = chosen }) ∷ [] }) (omega arith)
      (WinsAll-entry answer n later old p chosen all plays.lawful plays.move plays.leads))

  module _ (from : WinList) (distinct : HasDistinctPositions from.entries) where
    merged_by : (k : ℕ) → ListShowsWin k old.side p from → (answer : Board → Option Answer) (n : ℕ) (later : List Board) → IsSoundTable draughts k answer
        → MOST_FOUND_RANK ≤ n → WinsAll answer n later old → WinsAll answer (n + 1) (p ∷ later) (merged_win_list old from)
    merged_by k shows answer n later sound high all =
        WinsAll-later answer n (n + 1) (p ∷ later) (merged_win_list old from) (omega arith)
        (WinsAll-merged answer n later old from p (sym shows.side) distinct all (shows.good answer sound)
        (All-weaker (λ row. row.1.rank ≤ MOST_FOUND_RANK) (λ row. row.1.rank ≤ n) (λ row le. omega arith) from.entries shows.ranks)
        (let root = shows.here answer sound in let le = root.1.0 in (root.0, (omega arith, root.1.1))))

    pub part_adds_win_by : ((k : ℕ) (later : List Board) → ShowsWinBy k old.side later p reason → ListShowsWin k old.side p from) → JoinsWin old step rank (merged_win_list old from)
    part_adds_win_by by k answer n later sound high counts shows all = merged_by k (by k later shows) answer n later sound high all

  pub part_adds_win : (shown : Bor Part) → reason ≡ Shown shown → IsDistinctPart shown.now → JoinsWin old step rank (with_win old shown.now)
  part_adds_win shown is = by shown.now (λ k later. subst (ShowsWinBy k old.side later p) is)
    where
      by : (one : Part) → ((k : ℕ) (later : List Board) → ShowsWinBy k old.side later p reason → PartShowsWin k old.side p one) → IsDistinctPart one → JoinsWin old step rank (with_win old one)
      by (part.Win from) gives distinct = part_adds_win_by from distinct gives
      by (part.Hold from) gives _ = λ k answer n later sound high counts shows all. absurd (gives k later shows)

  pub one_more_adds_win : (chosen : Option (List ℕ)) (new : WinList) → reason ≡ Play chosen → new.side ≡ old.side
      → HasOneMore old.entries (p, record { rank = rank; chosen = chosen }) new.entries → JoinsWin old step rank new
  one_more_adds_win chosen new is side (inl (there, same)) =
      let e : old ≡ new = λ i. record { side = sym side i; entries = sym same i } in
      subst (JoinsWin old step rank) e (there_adds_win there.0 there.1)
  one_more_adds_win chosen new is side (inr more) =
      let e : record { side = old.side; entries = old.entries ++ (p, record { rank = rank; chosen = chosen }) ∷ [] } ≡ new = λ i. record { side = sym side i; entries = sym more i } in
      subst (JoinsWin old step rank) e (entry_adds_win chosen is)

-- ---- holds

module _ (old : HoldList) (p : Board) (reason : Reason) where
  abbrev held_step : Step
  held_step = record { position = p; reason = reason }

  pub table_adds_hold : reason ≡ Table → JoinsHold old held_step old
  table_adds_hold is k answer waiting before later sound opened shows all =
      HoldsAllBut-held answer waiting before later old p opened (inl (inr (subst (ShowsHoldBy k old.side before later p) is shows answer sound))) all

  pub repeats_adds_hold : reason ≡ Repeats → JoinsHold old held_step old
  repeats_adds_hold is k answer waiting before later sound opened shows all =
      HoldsAllBut-held answer waiting before later old p opened (inr (subst (ShowsHoldBy k old.side before later p) is shows)) all

  pub there_adds_hold : (chosen : Option (List ℕ)) → Contains old.entries (p, chosen) → JoinsHold old held_step old
  there_adds_hold chosen there k answer waiting before later sound opened shows all =
      HoldsAllBut-held answer waiting before later old p opened (inl (inl (chosen, there))) all

  pub entry_adds_hold : (chosen : Option (List ℕ)) → reason ≡ Play chosen
      → JoinsHold old held_step (record { side = old.side; entries = old.entries ++ (p, chosen) ∷ [] })
  entry_adds_hold chosen is k answer waiting before later sound opened shows all =
      let plays = subst (ShowsHoldBy k old.side before later p) is shows in
      HoldsAllBut-entry answer waiting before later old p opened chosen plays.lawful plays.move
      (All-weaker (Contains later) (λ q. Contains later q ⊎ Contains waiting q) (λ q there. inl there) (due_positions p chosen) plays.leads) all

  pub part_adds_hold : (from : HoldList) → ((k : ℕ) (before later : List Board) → ShowsHoldBy k old.side before later p reason → ListShowsHold k old.side p from)
      → JoinsHold old held_step (merged_hold_list old from)
  part_adds_hold from by k answer waiting before later sound opened shows all =
      let given = by k before later shows in
      HoldsAllBut-merged answer old from (sym given.side) waiting before later p opened all (given.good answer sound) (given.here answer sound)

  pub one_more_adds_hold : (chosen : Option (List ℕ)) (new : HoldList) → reason ≡ Play chosen → new.side ≡ old.side
      → HasOneMore old.entries (p, chosen) new.entries → JoinsHold old held_step new
  one_more_adds_hold chosen new is side (inl (there, same)) =
      let e : old ≡ new = λ i. record { side = sym side i; entries = sym same i } in
      subst (JoinsHold old held_step) e (there_adds_hold there.0 there.1)
  one_more_adds_hold chosen new is side (inr more) =
      let e : record { side = old.side; entries = old.entries ++ (p, chosen) ∷ [] } ≡ new = λ i. record { side = sym side i; entries = sym more i } in
      subst (JoinsHold old held_step) e (entry_adds_hold chosen is)

  pub shown_adds_hold : (shown : Bor Part) → reason ≡ Shown shown → JoinsHold old held_step (merged_hold_list old (as_hold_list shown.now))
  shown_adds_hold shown is = part_adds_hold (as_hold_list shown.now) (λ k before later. subst (ShowsHoldBy k old.side before later p) is)

-- ---- two facts of a call that was Ok

pub both_on_ok : {T E P Q R : Type 0} (r : Result T E) → (P → Q → R) → OnOk r P → OnOk r Q → OnOk r R
both_on_ok (Ok v) f p q = f p q
both_on_ok (Err e) f p q = tt
