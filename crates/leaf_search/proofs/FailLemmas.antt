-- When looking ahead shows no hold.
use Rattle.std.proofs.Common.{◌≡◌, ◌⊎◌, inl, inr, ℕ, zero, suc, true, false, List, [], ◌∷◌, ◌++◌, Option, None, Some, refl, sym, ◌∙◌, ap, subst}
use Rattle.std.specs.Prelude.{All, Contains, IsSome, is_some}
use Rattle.std.proofs.lemmas.List.Elements.{All-nil, All-cons, All-weaker, All-contains, All-contains_itself, Contains-append_cases, Contains-append_right}
use Rattle.draughts_board.specs.declared.pieces.Side.{Side}
use Rattle.draughts_board.specs.Board.{Board, IsLawful, other}
use Rattle.draughts_board.specs.Rules.{IsLegal, AreLegalPaths, after}
use Rattle.draughts_board.specs.Play.{successors_of}
use Rattle.draughts_board.specs.Game.{CanForce, by_move, by_every_reply, Holds, ShowsHold, is_at_sight}
use Rattle.draughts_board.specs.Draughts.{draughts}
use Rattle.draughts_board.proofs.Members.{Contains-head, Contains-nil, only_one}
use Rattle.draughts_board.proofs.Truth.{not_both_sides, one_side, other-other}
use Rattle.draughts_board.proofs.Successors.{path-to_successor, successor-of_path, lost_without_move, draughts_takes_turns}
use Rattle.strategy_certificate.specs.declared.oracle.Answer.{Answer}
use Rattle.strategy_certificate.specs.declared.oracle.Answer.TheVariants.{Win, Loss, Draw}
use Rattle.strategy_certificate.specs.Tables.{IsSoundTable, TableWins, TableHolds}
use Rattle.strategy_certificate.specs.Parts.{HoldList, HasEntry}
use Rattle.strategy_certificate.specs.Certificates.{IsHeld}
use Rattle.strategy_certificate.proofs.Tables.{TableWins-wins}
use Rattle.certificate_checker.proofs.SightLemmas.{unanswered_at_sight}
use Rattle.leaf_search.specs.Lines.{HoldFails, MoveFails, KeepsEntries}
use Rattle.leaf_search.proofs.LineLemmas.{HasEntry-more}

-- what is not shown with more entries is not shown with fewer
pub HoldFails-fewer : (k d : ℕ) (old new : HoldList) (q : Board) → KeepsEntries old new → HoldFails k d new q → HoldFails k d old q
HoldFails-fewer k d old new q keeps fails path all shows =
    fails path (All-weaker (HasEntry old.entries) (HasEntry new.entries) (HasEntry-more old new keeps) path all)
    (subst (λ s. ShowsHold draughts k s d path q) (sym keeps.side) shows)

-- the entry is there behind those of before
here : (old new : HoldList) (p : Board) (chosen : Option (List ℕ)) → new.entries ≡ old.entries ++ (p, chosen) ∷ [] → HasEntry new.entries p
here old new p chosen entries =
    (chosen, subst (λ es. Contains es (p, chosen)) (sym entries) (Contains-append_right old.entries ((p, chosen) ∷ []) (p, chosen) (Contains-head (p, chosen) [])))

-- the position after a move from p is not shown where p has just got its entry
pub move_fails : (k d : ℕ) (part mid : HoldList) (p : Board) (m : List ℕ) (chosen : Option (List ℕ)) → mid.side ≡ part.side → mid.entries ≡ part.entries ++ (p, chosen) ∷ []
    → HoldFails k d mid (after p m) → MoveFails k d part p m
move_fails k d part mid p m chosen side entries fails path all shows =
    fails (p ∷ path)
    (All-cons (HasEntry mid.entries) p path (here part mid p chosen entries)
    (All-weaker (HasEntry part.entries) (HasEntry mid.entries) (HasEntry-more part mid (record { side = side; added = (p, chosen) ∷ []; entries = entries })) path all))
    (subst (λ s. ShowsHold draughts k s d (p ∷ path) (after p m)) (sym side) shows)

-- what fails at once fails also where the position before it has just got its entry
pub still_fails : (k : ℕ) (part mid : HoldList) (p : Board) (m : List ℕ) (chosen : Option (List ℕ)) → mid.side ≡ part.side → mid.entries ≡ part.entries ++ (p, chosen) ∷ []
    → HoldFails k 0 part (after p m) → HoldFails k 0 mid (after p m)
still_fails k part mid p m chosen side entries fails path all (inr sight) =
    fails [] (All-nil (HasEntry part.entries)) (inr (sight.0, subst (λ s. Holds draughts s (after p m)) side sight.1))
still_fails k part mid p m chosen side entries fails path all (inl on) =
    let entry : HasEntry mid.entries (after p m) = All-contains (HasEntry mid.entries) path (after p m) all on in
    elim (Contains-append_cases part.entries ((p, chosen) ∷ []) (after p m, entry.0) (subst (λ es. Contains es (after p m, entry.0)) entries entry.1)) [
      | inl before ↦ fails (after p m ∷ []) (All-cons (HasEntry part.entries) (after p m) [] (entry.0, before) (All-nil (HasEntry part.entries))) (inl (Contains-head (after p m) []))
      | inr itself ↦ not_both_sides p.to_move p.to_move refl (ap (λ (row : Board × Option (List ℕ)). row.0.to_move) (only_one (p, chosen) (after p m, entry.0) itself))
    ]

-- ---- at sight

-- a position with an answer that is no hold of the side is lost for it
lost_by : (answer : Board → Option Answer) (s : Side) (p : Board) (a : Answer) → answer p ≡ Some a → (TableHolds draughts answer s p → ⊥)
    → (r : ℕ) × TableWins draughts answer (other s) r p
lost_by answer s p (Win r) is none = elim (one_side s p.to_move) [
  | inl mine ↦ absurd (none (inl (r, inl (mine, is))))
  | inr theirs ↦ (r, inl (theirs, is))
]
lost_by answer s p (Loss r) is none = elim (one_side s p.to_move) [
  | inl mine ↦ (r, inr (mine ∙ sym (other-other s), is))
  | inr theirs ↦ absurd (none (inl (r, inr (theirs, is))))
]
lost_by answer s p Draw is none = absurd (none (inr is))

module _ (k : ℕ) (answer : Board → Option Answer) (sound : IsSoundTable draughts k answer) (s : Side) (p : Board) where
  -- an answered position that the table does not show to be held is lost
  pub answered_lost : IsSome (answer p) → (TableHolds draughts answer s p → ⊥) → Holds draughts s p → ⊥
  answered_lost some none holds = by (answer p) refl some
    where
      by : (o : Option Answer) → answer p ≡ o → IsSome o → ⊥
      by (Some a) is _ =
          let lost = lost_by answer s p a is none in
          holds (lost.0, TableWins-wins draughts draughts_takes_turns k answer sound (other s) lost.0 p lost.1)
      by None is some = cc

  -- where nobody can move the side to move has lost
  pub blocked_lost : IsLawful p → is_some (answer p) ≡ false → p.to_move ≡ s → is_at_sight draughts k p ≡ true → Holds draughts s p → ⊥
  blocked_lost lawful none mine sight holds = holds (0, (mine ∙ sym (other-other s), unanswered_at_sight k answer sound p lawful none sight))

  pub moving_unseen : IsLawful p → is_some (answer p) ≡ false → (successors_of p ≡ [] → ⊥) → is_at_sight draughts k p ≡ true → Holds draughts s p → ⊥
  moving_unseen lawful none moves sight holds = moves (unanswered_at_sight k answer sound p lawful none sight)

-- ---- the replies, by the moves that make them

pub All-successors : (P : Board → Type 0) (p : Board) (moves : List (List ℕ)) → IsLawful p → AreLegalPaths p moves → All (λ m. P (after p m)) moves → All P (successors_of p)
All-successors P p moves lawful rules all =
    All-weaker (Contains (successors_of p)) P
    (λ q next. let m = path-to_successor p q lawful next in
    subst P m.1.1 (All-contains (λ m. P (after p m)) moves m.0 all (rules.complete m.0 m.1.0)))
    (successors_of p) (All-contains_itself (successors_of p))

pub All-legal : (p : Board) (moves : List (List ℕ)) → AreLegalPaths p moves → All (IsLegal p) moves
All-legal p moves rules = All-weaker (Contains moves) (IsLegal p) rules.sound moves (All-contains_itself moves)

-- a legal move leads to a successor, and where none is legal there is no successor
pub moving : (p : Board) (m : List ℕ) → IsLawful p → IsLegal p m → successors_of p ≡ [] → ⊥
moving p m lawful legal none = Contains-nil (after p m) (subst (λ qs. Contains qs (after p m)) none (successor-of_path p m lawful legal))

pub blocked : (p : Board) → IsLawful p → ((m : List ℕ) → IsLegal p m → ⊥) → successors_of p ≡ []
blocked p lawful none = ((lost_without_move (other p.to_move) p lawful).1 (sym (other-other p.to_move), none)).1

-- ---- the position is not held at once

module _ (k : ℕ) (answer : Board → Option Answer) (part : HoldList) (p : Board) (none : IsHeld part answer p → ⊥)
    (unseen : is_at_sight draughts k p ≡ true → Holds draughts part.side p → ⊥) where
  fails_at_once : (path : List Board) → All (HasEntry part.entries) path → Contains path p ⊎ ((is_at_sight draughts k p ≡ true) × Holds draughts part.side p) → ⊥
  fails_at_once path all (inl on) = none (inl (All-contains (HasEntry part.entries) path p all on))
  fails_at_once path all (inr sight) = unseen sight.0 sight.1

  pub fails_at_zero : HoldFails k 0 part p
  fails_at_zero path all shows = fails_at_once path all shows

  pub fails_at_sight : is_at_sight draughts k p ≡ true → (d : ℕ) → HoldFails k d part p
  fails_at_sight sight zero path all shows = fails_at_once path all shows
  fails_at_sight sight (suc d) path all (inl shows) = fails_at_once path all shows
  fails_at_sight sight (suc d) path all (inr shows) = let e = shows.0 in cc

  -- each legal move fails
  by_moves : (d : ℕ) → IsLawful p → p.to_move ≡ part.side → ((m : List ℕ) → IsLegal p m → MoveFails k d part p m)
      → (path : List Board) → All (HasEntry part.entries) path → CanForce draughts part.side (ShowsHold draughts k part.side d (p ∷ path)) p → ⊥
  by_moves d lawful mine fails path all (by_move q _ next shows) =
      let m = path-to_successor p q lawful next in
      fails m.0 m.1.0 path all (subst (ShowsHold draughts k part.side d (p ∷ path)) (sym m.1.1) shows)
  by_moves d lawful mine fails path all (by_every_reply theirs _) = not_both_sides part.side p.to_move mine theirs

  pub fails_by_moves : (d : ℕ) → IsLawful p → p.to_move ≡ part.side → ((m : List ℕ) → IsLegal p m → MoveFails k d part p m) → HoldFails k (suc d) part p
  fails_by_moves d lawful mine fails path all (inl shows) = fails_at_once path all shows
  fails_by_moves d lawful mine fails path all (inr shows) = by_moves d lawful mine fails path all shows.1

  -- some reply fails, where p has just got its entry
  by_reply : (d : ℕ) (mid : HoldList) (chosen : Option (List ℕ)) → mid.side ≡ part.side → mid.entries ≡ part.entries ++ (p, chosen) ∷ [] → p.to_move ≡ other part.side
      → (q : Board) → Contains (successors_of p) q → HoldFails k d mid q → (path : List Board) → All (HasEntry part.entries) path
      → CanForce draughts part.side (ShowsHold draughts k part.side d (p ∷ path)) p → ⊥
  by_reply d mid chosen side entries theirs q next fails path all (by_move _ mine _ _) = not_both_sides part.side p.to_move mine theirs
  by_reply d mid chosen side entries theirs q next fails path all (by_every_reply _ every) =
      fails (p ∷ path)
      (All-cons (HasEntry mid.entries) p path (here part mid p chosen entries)
      (All-weaker (HasEntry part.entries) (HasEntry mid.entries) (HasEntry-more part mid (record { side = side; added = (p, chosen) ∷ []; entries = entries })) path all))
      (subst (λ s. ShowsHold draughts k s d (p ∷ path) q) (sym side) (every q next))

  pub fails_by_reply : (d : ℕ) (mid : HoldList) (chosen : Option (List ℕ)) → mid.side ≡ part.side → mid.entries ≡ part.entries ++ (p, chosen) ∷ [] → p.to_move ≡ other part.side
      → IsLawful p → (m : List ℕ) → IsLegal p m → HoldFails k d mid (after p m) → HoldFails k (suc d) part p
  fails_by_reply d mid chosen side entries theirs lawful m legal fails path all (inl shows) = fails_at_once path all shows
  fails_by_reply d mid chosen side entries theirs lawful m legal fails path all (inr shows) =
      by_reply d mid chosen side entries theirs (after p m) (successor-of_path p m lawful legal) fails path all shows.1
