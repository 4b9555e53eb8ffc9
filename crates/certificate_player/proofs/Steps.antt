-- Where a good part goes on: behind its side's move, and behind each reply.
use Rattle.std.proofs.Common.{◌≡◌, ◌<◌, ◌≤◌, ◌⊎◌, inl, inr, ℕ, suc, List, [], ◌∷◌, Option, Some, None, refl, sym, ◌∙◌, ap, subst, arith}
use Rattle.std.specs.Prelude.{All, Contains, IfSome, IsSome, ◌↔◌}
use Rattle.std.proofs.lemmas.List.Elements.{All-contains, All-head}
use Rattle.draughts_board.specs.declared.pieces.Side.{Side}
use Rattle.draughts_board.specs.Board.{Board, IsLawful, other}
use Rattle.draughts_board.specs.Rules.{IsLegal, after}
use Rattle.draughts_board.specs.Play.{successors_of}
use Rattle.draughts_board.specs.Game.{Holds, Wins, WinsIn}
use Rattle.draughts_board.specs.Draughts.{draughts}
use Rattle.draughts_board.proofs.Truth.{not_both_sides, other-other, Wins-holds}
use Rattle.draughts_board.proofs.Successors.{draughts_takes_turns, path-to_successor}
use Rattle.strategy_certificate.specs.declared.certificates.Part.{Part}
use Rattle.strategy_certificate.specs.declared.certificates.Part.TheVariants.{Win, Hold}
use Rattle.strategy_certificate.specs.declared.oracle.Answer.{Answer}
use Rattle.strategy_certificate.specs.declared.oracle.Answer.TheVariants as answers
use Rattle.strategy_certificate.specs.Certificates.{HasDueMove, HasGoodEntries, HasRank, HasRoot, IsGoodHoldEntry, IsGoodWinEntry, IsHeld, IsReached, IsReachedBelow, due_positions}
use Rattle.strategy_certificate.specs.Parts.{HasEntry, HoldList, WinList}
use Rattle.strategy_certificate.specs.Tables.{IsSoundTable, TableHolds, TableWins}
use Rattle.strategy_certificate.proofs.PartLemmas.{IsHeld-holds, IsReached-wins}
use Rattle.certificate_player.specs.Choices.{GoesOnAt, HasRankBelow, IsChosen, IsEntryMove, IsFirstRank, IsNextRank, IsShown, IsTableMove}
use Rattle.certificate_player.specs.Plays.{Follows, RankFalls}
use Rattle.certificate_player.specs.Sides.{side_of}

-- ---- due moves

-- where the side moves a move is chosen, and it is legal
own_move : (s : Side) (p : Board) (chosen : Option (List ℕ)) → HasDueMove s p chosen → p.to_move ≡ s → (path : List ℕ) × (chosen ≡ Some path)
own_move s p (Some path) due mine = (path, refl)
own_move s p None theirs mine = absurd (not_both_sides s p.to_move mine theirs)

-- where the other side moves each successor is due
reply_due : (s : Side) (p : Board) (chosen : Option (List ℕ)) → HasDueMove s p chosen → p.to_move ≡ other s → due_positions p chosen ≡ successors_of p
reply_due s p (Some path) due theirs = absurd (not_both_sides s p.to_move due.0 theirs)
reply_due s p None due theirs = refl

-- ---- turns

turned_mine : (s : Side) (p q : Board) → Contains (successors_of p) q → p.to_move ≡ other s → q.to_move ≡ s
turned_mine s p q next theirs = draughts_takes_turns.alternates p q next ∙ (ap other theirs ∙ other-other s)

turned_theirs : (s : Side) (p q : Board) → Contains (successors_of p) q → p.to_move ≡ s → q.to_move ≡ other s
turned_theirs s p q next mine = draughts_takes_turns.alternates p q next ∙ ap other mine

-- one rank is shown
shown_once : (answer : Board → Option Answer) (s : Side) (m n : ℕ) (q : Board) → TableWins draughts answer s m q → TableWins draughts answer s n q → m ≡ n
shown_once answer s m n q (inl a) (inl b) = (let x = a.1 in let y = b.1 in cc)
shown_once answer s m n q (inl a) (inr b) = (let x = a.1 in let y = b.1 in cc)
shown_once answer s m n q (inr a) (inl b) = (let x = a.1 in let y = b.1 in cc)
shown_once answer s m n q (inr a) (inr b) = (let x = a.1 in let y = b.1 in cc)

lower : (list : WinList) (answer : Board → Option Answer) (k r : ℕ) (q : Board) → k ≤ r → IsReachedBelow list answer k q → IsReachedBelow list answer r q
lower list answer k r q le (m, (lt, reached)) = (m, (omega arith, reached))

module _ (k : ℕ) (answer : Board → Option Answer) (sound : IsSoundTable draughts k answer) where
  -- ---- what the table shows behind a move

  answered_next : (p q : Board) (a : Answer) → answer p ≡ Some a → Contains (successors_of p) q → IsSome (answer q)
  answered_next p q a is next =
      let covered = (sound.answered p).0 (subst IsSome (sym is) refl) in
      let fall = draughts_takes_turns.pieces_fall p q covered.0 next in
      (sound.answered q).1 (draughts_takes_turns.stays_position p q covered.0 next, omega arith)

  lost_reply : (s : Side) (r : ℕ) (p q : Board) → answer p ≡ Some (answers.Loss r) → p.to_move ≡ other s → Contains (successors_of p) q
      → (m : ℕ) × ((m < r) × TableWins draughts answer s m q)
  lost_reply s r p q lost theirs next =
      let won = (sound.right p (answers.Loss r) lost).0 q next in
      (won.0, (won.1.1, inl (turned_mine s p q next theirs, won.1.0)))

  drawn_by : (s : Side) (p q : Board) → answer p ≡ Some answers.Draw → q.to_move ≡ s → Contains (successors_of p) q
      → (o : Option Answer) → answer q ≡ o → IsSome o → TableHolds draughts answer s q
  drawn_by s p q drawn mine next None is some = cc
  drawn_by s p q drawn mine next (Some (answers.Win m)) is some = inl (m, inl (mine, is))
  drawn_by s p q drawn mine next (Some (answers.Loss m)) is some = absurd ((sound.right p answers.Draw drawn).1 q next m is)
  drawn_by s p q drawn mine next (Some answers.Draw) is some = inr is

  held_reply : (s : Side) (p q : Board) → TableHolds draughts answer s p → p.to_move ≡ other s → Contains (successors_of p) q → TableHolds draughts answer s q
  held_reply s p q (inl (r, inl won)) theirs next = absurd (not_both_sides s p.to_move won.0 theirs)
  held_reply s p q (inl (r, inr lost)) theirs next = (let found = lost_reply s r p q lost.1 theirs next in inl (found.0, found.1.1))
  held_reply s p q (inr drawn) theirs next =
      drawn_by s p q drawn (turned_mine s p q next theirs) next (answer q) refl (answered_next p q answers.Draw drawn next)

  -- a won position has a move to a lost one
  won_move : (s : Side) (r : ℕ) (p : Board) → IsLawful p → answer p ≡ Some (answers.Win r) → p.to_move ≡ s
      → (path : List ℕ) × (IsLegal p path × ((m : ℕ) × ((m < r) × TableWins draughts answer s m (after p path))))
  won_move s r p lawful won mine =
      let right = sound.right p (answers.Win r) won in
      let found = right.1.1.0 in
      let by = path-to_successor p found.0 lawful found.1.0 in
      let lost : TableWins draughts answer s right.0 found.0 = inr (turned_theirs s p found.0 found.1.0 mine, found.1.1) in
      let least : right.0 < r = omega (arith, right.1.0) in
      (by.0, (by.1.0, (right.0, (least, subst (TableWins draughts answer s right.0) (sym by.1.1) lost))))

  held_move : (s : Side) (p : Board) → IsLawful p → TableHolds draughts answer s p → p.to_move ≡ s
      → (path : List ℕ) × (IsLegal p path × TableHolds draughts answer s (after p path))
  held_move s p lawful (inl (r, inl won)) mine = (let found = won_move s r p lawful won.1 mine in (found.0, (found.1.0, inl (found.1.1.0, found.1.1.1.1))))
  held_move s p lawful (inl (r, inr lost)) mine = absurd (not_both_sides s p.to_move mine lost.0)
  held_move s p lawful (inr drawn) mine =
      let found = (sound.right p answers.Draw drawn).0 in
      let by = path-to_successor p found.0 lawful found.1.0 in
      let holds : TableHolds draughts answer s found.0 = inr found.1.1 in
      (by.0, (by.1.0, subst (TableHolds draughts answer s) (sym by.1.1) holds))

  -- ---- behind a reply

  pub reply_goes_on : (part : Part) (rank : Option ℕ) (p q : Board) → HasGoodEntries part answer → Follows answer p rank part
      → p.to_move ≡ other (side_of part) → Contains (successors_of p) q → GoesOnAt answer q rank part
  reply_goes_on (Win list) (Some r) p q good (inl (e, (there, is))) theirs next =
      let entry = All-contains (λ row. IsGoodWinEntry list answer row.0 row.1) list.entries (p, e) good there in
      let due = reply_due list.side p e.chosen entry.move theirs in
      let all = subst (λ (qs : List Board). All (IsReachedBelow list answer e.rank) qs) due entry.below in
      subst (λ (n : ℕ). IsReachedBelow list answer n q) is (All-contains (IsReachedBelow list answer e.rank) (successors_of p) q all next)
  reply_goes_on (Win list) (Some r) p q good (inr (inl won)) theirs next = absurd (not_both_sides list.side p.to_move won.0 theirs)
  reply_goes_on (Win list) (Some r) p q good (inr (inr lost)) theirs next =
      let found = lost_reply list.side r p q lost.1 theirs next in
      (found.0, (found.1.0, inr found.1.1))
  reply_goes_on (Win list) None p q good follows theirs next = absurd follows
  reply_goes_on (Hold list) (Some r) p q good follows theirs next = absurd follows
  reply_goes_on (Hold list) None p q good (inl (chosen, there)) theirs next =
      let entry = All-contains (λ row. IsGoodHoldEntry list answer row.0 row.1) list.entries (p, chosen) good there in
      let due = reply_due list.side p chosen entry.move theirs in
      All-contains (IsHeld list answer) (successors_of p) q (subst (λ (qs : List Board). All (IsHeld list answer) qs) due entry.held) next
  reply_goes_on (Hold list) None p q good (inr holds) theirs next = inr (held_reply list.side p q holds theirs next)

  -- ---- behind the side's own move

  entry_goes_on : (part : Part) (rank : Option ℕ) (p : Board) (path : List ℕ) → HasGoodEntries part answer → IsEntryMove p rank part path
      → IsLegal p path × GoesOnAt answer (after p path) rank part
  entry_goes_on (Win list) (Some r) p path good (e, (there, (le, is))) =
      let entry = All-contains (λ row. IsGoodWinEntry list answer row.0 row.1) list.entries (p, e) good there in
      let due = subst (HasDueMove list.side p) is entry.move in
      let below = subst (λ (o : Option (List ℕ)). All (IsReachedBelow list answer e.rank) (due_positions p o)) is entry.below in
      (due.1, lower list answer e.rank r (after p path) le (All-head (IsReachedBelow list answer e.rank) (after p path) [] below))
  entry_goes_on (Win list) None p path good by = absurd by
  entry_goes_on (Hold list) (Some r) p path good by = absurd by
  entry_goes_on (Hold list) None p path good there =
      let entry = All-contains (λ row. IsGoodHoldEntry list answer row.0 row.1) list.entries (p, Some path) good there in
      (entry.move.1, All-head (IsHeld list answer) (after p path) [] entry.held)

  shown_goes_on : (part : Part) (rank : Option ℕ) (q : Board) → IsShown answer q rank part → GoesOnAt answer q rank part
  shown_goes_on (Win list) (Some r) q (m, (lt, shows)) = (m, (lt, inr shows))
  shown_goes_on (Win list) None q shown = absurd shown
  shown_goes_on (Hold list) (Some r) q shown = absurd shown
  shown_goes_on (Hold list) None q shown = inr shown

  -- the chosen move is legal, and the part goes on behind it
  pub chosen_goes_on : (part : Part) (rank : Option ℕ) (p : Board) (path : List ℕ) → HasGoodEntries part answer → IsChosen answer p rank part path
      → IsLegal p path × GoesOnAt answer (after p path) rank part
  chosen_goes_on part rank p path good (inl by) = entry_goes_on part rank p path good by
  chosen_goes_on part rank p path good (inr (none, by)) = (by.0, shown_goes_on part rank (after p path) by.1)

  -- where no entry may be followed there is a move by the table
  pub table_move_there : (part : Part) (rank : Option ℕ) (p : Board) → IsLawful p → HasGoodEntries part answer → Follows answer p rank part
      → p.to_move ≡ side_of part → ((path : List ℕ) → IsEntryMove p rank part path → ⊥) → (path : List ℕ) × IsTableMove answer p rank part path
  table_move_there (Win list) (Some r) p lawful good (inl (e, (there, is))) mine none =
      let entry = All-contains (λ row. IsGoodWinEntry list answer row.0 row.1) list.entries (p, e) good there in
      let own = own_move list.side p e.chosen entry.move mine in
      absurd (none own.0 (e, (there, (omega (arith, is), own.1))))
  table_move_there (Win list) (Some r) p lawful good (inr (inl won)) mine none = (let found = won_move list.side r p lawful won.1 mine in (found.0, (found.1.0, found.1.1)))
  table_move_there (Win list) (Some r) p lawful good (inr (inr lost)) mine none = absurd (not_both_sides list.side p.to_move mine lost.0)
  table_move_there (Win list) None p lawful good follows mine none = absurd follows
  table_move_there (Hold list) (Some r) p lawful good follows mine none = absurd follows
  table_move_there (Hold list) None p lawful good (inl (chosen, there)) mine none =
      let entry = All-contains (λ row. IsGoodHoldEntry list answer row.0 row.1) list.entries (p, chosen) good there in
      let own = own_move list.side p chosen entry.move mine in
      absurd (none own.0 (subst (λ (o : Option (List ℕ)). Contains list.entries (p, o)) own.1 there))
  table_move_there (Hold list) None p lawful good (inr holds) mine none = held_move list.side p lawful holds mine

  -- ---- what the side has there

  pub goes_on_holds : (part : Part) (rank : Option ℕ) (q : Board) → HasGoodEntries part answer → GoesOnAt answer q rank part → Holds draughts (side_of part) q
  goes_on_holds (Win list) (Some r) q good (m, (lt, reached)) = Wins-holds draughts list.side q (m, IsReached-wins k answer sound list good m q reached)
  goes_on_holds (Win list) None q good on = absurd on
  goes_on_holds (Hold list) (Some r) q good on = absurd on
  goes_on_holds (Hold list) None q good held = IsHeld-holds k answer sound list good q held

  pub follows_in_rank : (part : Part) (rank : Option ℕ) (q : Board) → HasGoodEntries part answer → Follows answer q rank part → IfSome rank (λ m. WinsIn draughts (side_of part) m q)
  follows_in_rank (Win list) (Some m) q good reached = IsReached-wins k answer sound list good m q reached
  follows_in_rank (Win list) None q good follows = absurd follows
  follows_in_rank (Hold list) (Some m) q good follows = absurd follows
  follows_in_rank (Hold list) None q good follows = tt

-- ---- ranks

-- a look for an entry below the bound, and else in the table, finds a rank where the part goes on
pub rank_there : (answer : Board → Option Answer) (list : WinList) (r : ℕ) (q : Board) (found : Option ℕ)
    → ((m : ℕ) → (found ≡ Some m) ↔ (HasRankBelow list r q m ⊎ (((n : ℕ) → HasRankBelow list r q n → ⊥) × TableWins draughts answer list.side m q)))
    → IsReachedBelow list answer r q → IsNextRank answer q (Some r) (Win list) found
rank_there answer list r q (Some m) is on = (is m).0 refl
rank_there answer list r q None is (n, (lt, inl has)) = (let e = (is n).1 (inl (has, lt)) in cc)
rank_there answer list r q None is (n, (lt, inr shows)) =
    let none : (j : ℕ) → HasRankBelow list r q j → ⊥ = λ j h. (let e = (is j).1 (inl h) in cc) in
    let e = (is n).1 (inr (none, shows)) in
    cc

pub first_follows : (answer : Board → Option Answer) (part : Part) (p : Board) (rank : Option ℕ) → HasRoot part answer p → IsFirstRank answer p part rank → Follows answer p rank part
first_follows answer (Win list) p (Some m) root (inl has) = inl has
first_follows answer (Win list) p (Some m) root (inr shown) = inr shown.1
first_follows answer (Win list) p None root first = absurd first
first_follows answer (Hold list) p (Some m) root first = absurd first
first_follows answer (Hold list) p None root first = root

pub next_follows : (answer : Board → Option Answer) (part : Part) (q : Board) (before now : Option ℕ) → GoesOnAt answer q before part → IsNextRank answer q before part now → Follows answer q now part
next_follows answer (Win list) q (Some r) (Some m) on (inl has) = inl has.0
next_follows answer (Win list) q (Some r) (Some m) on (inr shown) = inr shown.1
next_follows answer (Win list) q (Some r) None on next = absurd next
next_follows answer (Win list) q None now on next = absurd on
next_follows answer (Hold list) q (Some r) now on next = absurd on
next_follows answer (Hold list) q None (Some m) on next = absurd next
next_follows answer (Hold list) q None None on next = on

next_below : (answer : Board → Option Answer) (list : WinList) (r m : ℕ) (q : Board) → IsReachedBelow list answer r q → IsNextRank answer q (Some r) (Win list) (Some m) → m < r
next_below answer list r m q on (inl has) = has.1
next_below answer list r m q (n, (lt, inl has)) (inr (none, shown)) = absurd (none n (has, lt))
next_below answer list r m q (n, (lt, inr shows)) (inr (none, shown)) = subst (λ j. j < r) (shown_once answer list.side n m q shows shown) lt

pub next_falls : (answer : Board → Option Answer) (part : Part) (q : Board) (before now : Option ℕ) → GoesOnAt answer q before part → IsNextRank answer q before part now → RankFalls before now
next_falls answer (Win list) q (Some r) (Some m) on next = next_below answer list r m q on next
next_falls answer (Win list) q (Some r) None on next = absurd next
next_falls answer (Win list) q None now on next = absurd on
next_falls answer (Hold list) q (Some r) now on next = absurd on
next_falls answer (Hold list) q None (Some m) on next = absurd next
next_falls answer (Hold list) q None None on next = tt

-- a rank falls exactly if one is kept
pub falls_some : (before now : Option ℕ) → RankFalls before now → IsSome now ↔ IsSome before
falls_some (Some r) (Some m) falls = (λ _. refl, λ _. refl)
falls_some (Some r) None falls = absurd falls
falls_some None (Some m) falls = absurd falls
falls_some None None falls = (λ h. h, λ h. h)
