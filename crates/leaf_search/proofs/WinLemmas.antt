-- How a winning part grows, and when looking ahead shows no win.
use Rattle.std.proofs.Common.{◌≡◌, ℕ, suc, ◌≤◌, ◌<◌, ◌+◌, ◌^◌, inl, inr, List, ◌∷◌, [], ◌++◌, length, Option, Some, None, refl, sym, ap, ◌∙◌, subst, arith, append-nil, append_assoc, length-append, true, false}
use Rattle.std.specs.Prelude.{All, Contains, is_some, IsSome, take}
use Rattle.std.proofs.Math.Seq.{take-append_seam}
use Rattle.std.proofs.lemmas.List.Elements.{All-nil, All-cons, All-append, All-weaker, All-contains, Contains-append_left, Contains-append_right}
use Rattle.draughts_board.specs.declared.pieces.Side.{Side}
use Rattle.draughts_board.specs.Board.{Board, IsLawful, other}
use Rattle.draughts_board.specs.Rules.{IsLegal, after}
use Rattle.draughts_board.specs.Play.{successors_of}
use Rattle.draughts_board.specs.Game.{CanForce, by_move, by_every_reply, Wins, ShowsWin, is_at_sight}
use Rattle.draughts_board.specs.Draughts.{draughts}
use Rattle.draughts_board.proofs.Members.{Contains-head}
use Rattle.draughts_board.proofs.Truth.{not_both_sides, one_side, other-other, Wins-holds, ShowsWin-wins}
use Rattle.draughts_board.proofs.Successors.{path-to_successor, successor-of_path, draughts_takes_turns}
use Rattle.strategy_certificate.specs.declared.oracle.Answer.{Answer}
use Rattle.strategy_certificate.specs.declared.entries.WinEntry.{WinEntry}
use Rattle.strategy_certificate.specs.declared.oracle.Answer.TheVariants.{Win, Loss, Draw}
use Rattle.strategy_certificate.specs.Tables.{IsSoundTable, TableWins, TableHolds}
use Rattle.strategy_certificate.proofs.Tables.{TableHolds-holds}
use Rattle.leaf_search.proofs.FailLemmas.{blocked_lost, moving}
use Rattle.certificate_checker.proofs.SightLemmas.{unanswered_at_sight}
use Rattle.strategy_certificate.specs.Parts.{WinList}
use Rattle.strategy_certificate.specs.Certificates.{HasDueMove, due_positions, IsReached, IsReachedBelow, IsGoodWinEntry}
use Rattle.leaf_search.specs.Wins.{WinFails, IsLowFor, IsSteady, KeepsWins, Grows, Finds}

abbrev Row : Type 0
Row = Board × WinEntry

-- ---- growth

pub KeepsWins-refl : (part : WinList) → KeepsWins part part
KeepsWins-refl part = record { side = refl; added = []; entries = sym (append-nil part.entries) }

pub KeepsWins-trans : (a b c : WinList) → KeepsWins a b → KeepsWins b c → KeepsWins a c
KeepsWins-trans a b c ab bc = record {
  side = bc.side ∙ ab.side;
  added = ab.added ++ bc.added;
  entries = bc.entries ∙ (ap (λ es. es ++ bc.added) ab.entries ∙ append_assoc a.entries ab.added bc.added);
}

pub longer : (old new : WinList) → KeepsWins old new → length old.entries ≤ length new.entries
longer old new keeps = let e = ap length keeps.entries ∙ length-append old.entries keeps.added in omega (arith, e)

module _ (answer : Board → Option Answer) where
  pub IsReached-more : (old new : WinList) → KeepsWins old new → (r : ℕ) (q : Board) → IsReached old answer r q → IsReached new answer r q
  IsReached-more old new keeps r q (inl entry) =
      inl (entry.0, (subst (λ es. Contains es (q, entry.0)) (sym keeps.entries) (Contains-append_left old.entries keeps.added (q, entry.0) entry.1.0), entry.1.1))
  IsReached-more old new keeps r q (inr table) = inr (subst (λ s. TableWins draughts answer s r q) (sym keeps.side) table)

  pub below_more : (old new : WinList) → KeepsWins old new → (r : ℕ) (q : Board) → IsReachedBelow old answer r q → IsReachedBelow new answer r q
  below_more old new keeps r q (m, (lt, reached)) = (m, (lt, IsReached-more old new keeps m q reached))

  -- with a bound that is no lower
  pub below_up : (part : WinList) (r s : ℕ) → r ≤ s → (q : Board) → IsReachedBelow part answer r q → IsReachedBelow part answer s q
  below_up part r s le q (m, (below, reached)) = (m, (omega arith, reached))

  abbrev pub IsGoodRow : WinList → Row → Type 0
  IsGoodRow part row = IsGoodWinEntry part answer row.0 row.1

  good_more : (old new : WinList) → KeepsWins old new → (row : Row) → IsGoodRow old row → IsGoodRow new row
  good_more old new keeps row good = record {
    lawful = good.lawful;
    move = subst (λ s. HasDueMove s row.0 row.1.chosen) (sym keeps.side) good.move;
    below = All-weaker (IsReachedBelow old answer row.1.rank) (IsReachedBelow new answer row.1.rank) (below_more old new keeps row.1.rank) (due_positions row.0 row.1.chosen) good.below;
  }

  pub Grows-refl : (part : WinList) → IsSteady answer part → Grows answer part part
  Grows-refl part steady = record { keeps = KeepsWins-refl part; steady = steady }

  pub Grows-trans : (a b c : WinList) → Grows answer a b → Grows answer b c → Grows answer a c
  Grows-trans a b c ab bc = record { keeps = KeepsWins-trans a b c ab.keeps bc.keeps; steady = bc.steady }

  -- what an entry reaches, and how low
  pub entered_before : (part : WinList) → IsSteady answer part → (p : Board) (e : WinEntry) → Contains part.entries (p, e)
      → IsReached part answer e.rank p × IsLowFor (length part.entries) e.rank
  entered_before part steady p e there =
      (inl (e, (there, refl)), All-contains (λ (row : Row). IsLowFor (length part.entries) row.1.rank) part.entries (p, e) steady.low there)

  pub Finds-entry : (part : WinList) → IsSteady answer part → (p : Board) (e : WinEntry) → Contains part.entries (p, e) → Finds answer part part p e.rank
  Finds-entry part steady p e there =
      let known = entered_before part steady p e there in
      record { grows = Grows-refl part steady; reached = known.0; low = known.1 }

  -- a new entry at the end
  pub Finds-new : (old new : WinList) (p : Board) (e : WinEntry) → new ≡ record old { entries = old.entries ++ (p, e) ∷ [] }
      → IsSteady answer old → length old.entries < 2 ^ 32 → IsLawful p → HasDueMove old.side p e.chosen
      → All (IsReachedBelow old answer e.rank) (due_positions p e.chosen) → e.rank ≤ 2 ^ 32 + length old.entries → Finds answer old new p e.rank
  Finds-new old new p e is steady room lawful move below low =
      let keeps : KeepsWins old new = record { side = ap (λ (w : WinList). w.side) is; added = (p, e) ∷ []; entries = ap (λ (w : WinList). w.entries) is } in
      let size : length new.entries ≡ length old.entries + 1 = ap length keeps.entries ∙ length-append old.entries ((p, e) ∷ []) in
      let here : IsGoodRow new (p, e) = record {
        lawful = lawful;
        move = subst (λ s. HasDueMove s p e.chosen) (sym keeps.side) move;
        below = All-weaker (IsReachedBelow old answer e.rank) (IsReachedBelow new answer e.rank) (below_more old new keeps e.rank) (due_positions p e.chosen) below;
      } in
      let good : All (IsGoodRow new) (old.entries ++ (p, e) ∷ []) =
      All-append (IsGoodRow new) old.entries ((p, e) ∷ [])
      (All-weaker (IsGoodRow old) (IsGoodRow new) (good_more old new keeps) old.entries steady.good)
      (All-cons (IsGoodRow new) (p, e) [] here (All-nil (IsGoodRow new))) in
      let lows : All (λ (row : Row). IsLowFor (length new.entries) row.1.rank) (old.entries ++ (p, e) ∷ []) =
      All-append (λ (row : Row). IsLowFor (length new.entries) row.1.rank) old.entries ((p, e) ∷ [])
      (All-weaker (λ (row : Row). IsLowFor (length old.entries) row.1.rank) (λ (row : Row). IsLowFor (length new.entries) row.1.rank) (λ row lower. omega (arith, size, lower)) old.entries steady.low)
      (All-cons (λ (row : Row). IsLowFor (length new.entries) row.1.rank) (p, e) [] (omega (arith, size, low)) (All-nil (λ (row : Row). IsLowFor (length new.entries) row.1.rank))) in
      record {
        grows = record {
          keeps = keeps;
          steady = record {
            good = subst (All (IsGoodRow new)) (sym keeps.entries) good;
            short = omega (arith, size, room);
            low = subst (All (λ (row : Row). IsLowFor (length new.entries) row.1.rank)) (sym keeps.entries) lows;
          };
        };
        reached = inl (e, (subst (λ es. Contains es (p, e)) (sym keeps.entries) (Contains-append_right old.entries ((p, e) ∷ []) (p, e) (Contains-head (p, e) [])), refl));
        low = omega (arith, size, low);
      }

  -- an entry whose due positions were reached by a part that grew
  pub Finds-after : (old mid new : WinList) (p : Board) (rank : ℕ) → Grows answer old mid → Finds answer mid new p rank → Finds answer old new p rank
  Finds-after old mid new p rank grows finds = record { grows = Grows-trans old mid new grows finds.grows; reached = finds.reached; low = finds.low }

with_entries : Side → List Row → WinList
with_entries s es = record { side = s; entries = es }

-- what was added is taken back
pub cut_back : (old mid new : WinList) (count : ℕ) → KeepsWins old mid → count ≡ length old.entries → new ≡ record mid { entries = take count mid.entries } → new ≡ old
unfolding with_entries
cut_back old mid new count keeps is cut =
    let entries : take count mid.entries ≡ old.entries = rw (is, keeps.entries) (take-append_seam old.entries keeps.added) in
    cut ∙ (λ i. with_entries (keeps.side i) (entries i))

-- ---- when no win shows

pub is_none : (o : Option ℕ) → ((x : ℕ) → o ≡ Some x → ⊥) → o ≡ None
is_none None not_some = refl
is_none (Some x) not_some = absurd (not_some x refl)

-- an answer that shows no win of the side shows that the other side holds
other_holds : (answer : Board → Option Answer) (s : Side) (p : Board) (a : Answer) → answer p ≡ Some a → ((r : ℕ) → TableWins draughts answer s r p → ⊥)
    → TableHolds draughts answer (other s) p
other_holds answer s p (Win r) is none = elim (one_side s p.to_move) [
  | inl mine ↦ absurd (none r (inl (mine, is)))
  | inr theirs ↦ inl (r, inl (theirs, is))
]
other_holds answer s p (Loss r) is none = elim (one_side s p.to_move) [
  | inl mine ↦ inl (r, inr (mine ∙ sym (other-other s), is))
  | inr theirs ↦ absurd (none r (inr (theirs, is)))
]
other_holds answer s p Draw is none = inr is

module _ (k : ℕ) (answer : Board → Option Answer) (sound : IsSoundTable draughts k answer) (s : Side) (p : Board) where
  pub answered_fails : IsSome (answer p) → ((r : ℕ) → TableWins draughts answer s r p → ⊥) → (d : ℕ) → WinFails k s d p
  answered_fails some none d shows = by (answer p) refl some
    where
      by : (o : Option Answer) → answer p ≡ o → IsSome o → ⊥
      by (Some a) is _ =
          TableHolds-holds draughts draughts_takes_turns k answer sound (other s) p (other_holds answer s p a is none)
          (subst (λ t. Wins draughts t p) (sym (other-other s)) (ShowsWin-wins draughts k s d p shows))
      by None is some = cc

  module _ (lawful : IsLawful p) (unanswered : is_some (answer p) ≡ false) where
    blocked : p.to_move ≡ s → is_at_sight draughts k p ≡ true → Wins draughts s p → ⊥
    blocked mine sight wins = blocked_lost k answer sound s p lawful unanswered mine sight (Wins-holds draughts s p wins)

    pub fails_at_zero : p.to_move ≡ s → WinFails k s 0 p
    fails_at_zero mine shows = blocked mine shows.0 shows.1

    by_moves : (d : ℕ) → p.to_move ≡ s → ((m : List ℕ) → IsLegal p m → WinFails k s d (after p m)) → CanForce draughts s (ShowsWin draughts k s d) p → ⊥
    by_moves d mine fails (by_move q _ next shows) =
        let m = path-to_successor p q lawful next in
        fails m.0 m.1.0 (subst (ShowsWin draughts k s d) (sym m.1.1) shows)
    by_moves d mine fails (by_every_reply theirs _) = not_both_sides s p.to_move mine theirs

    pub fails_by_moves : (d : ℕ) → p.to_move ≡ s → ((m : List ℕ) → IsLegal p m → WinFails k s d (after p m)) → WinFails k s (suc d) p
    fails_by_moves d mine fails (inl shows) = blocked mine shows.0 shows.1
    fails_by_moves d mine fails (inr shows) = by_moves d mine fails shows.1

    by_reply : (d : ℕ) → p.to_move ≡ other s → (q : Board) → Contains (successors_of p) q → WinFails k s d q → CanForce draughts s (ShowsWin draughts k s d) p → ⊥
    by_reply d theirs q next fails (by_move _ mine _ _) = not_both_sides s p.to_move mine theirs
    by_reply d theirs q next fails (by_every_reply _ every) = fails (every q next)

    pub fails_by_reply : (d : ℕ) → p.to_move ≡ other s → (m : List ℕ) → IsLegal p m → WinFails k s d (after p m) → WinFails k s (suc d) p
    fails_by_reply d theirs m legal fails (inl shows) = moving p m lawful legal (unanswered_at_sight k answer sound p lawful unanswered shows.0)
    fails_by_reply d theirs m legal fails (inr shows) = by_reply d theirs (after p m) (successor-of_path p m lawful legal) fails shows.1
