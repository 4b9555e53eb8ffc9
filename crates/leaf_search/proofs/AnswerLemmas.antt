-- When certificates answer a search.
use Rattle.std.proofs.Common.{◌≡◌, ℕ, inl, inr, List, [], ◌∷◌, Option, Some, None, refl, sym, ap, ◌∙◌, subst, arith}
use Rattle.std.specs.Prelude.{Any}
use Rattle.std.proofs.lemmas.List.Elements.{All-nil, All-cons}
use Rattle.draughts_board.specs.declared.pieces.Side.{Side}
use Rattle.draughts_board.specs.Board.{Board, other}
use Rattle.draughts_board.specs.Game.{Wins, Holds, ShowsWin, ShowsHold}
use Rattle.draughts_board.specs.Draughts.{draughts}
use Rattle.draughts_board.proofs.Truth.{one_side, other-other, Wins-holds, ShowsWin-wins, ShowsHold-holds}
use Rattle.strategy_certificate.specs.declared.claims.Claim.TheVariants.{Win, Hold}
use Rattle.strategy_certificate.specs.declared.certificates.Certificate.{Certificate}
use Rattle.strategy_certificate.specs.Claims.{TellsWin, TellsHold, Settles}
use Rattle.certificate_checker.specs.Answers.{IsFinding, IsAnswer}
use Rattle.leaf_search.specs.Search.{Proves}

-- the head, or a later one
first : {P : Certificate → Type 0} (c : Certificate) (cs : List Certificate) → P c → Any P (c ∷ cs)
first c cs here = (0, c, omega arith, refl, here)

second : {P : Certificate → Type 0} (c d : Certificate) (cs : List Certificate) → P d → Any P (c ∷ d ∷ cs)
second c d cs here = (1, d, omega arith, refl, here)

module _ (k : ℕ) (goal : Side) (depth : ℕ) (p : Board) where
  -- a win answers alone: nothing else can show
  pub won_answers : (s : Side) (c : Certificate) → Settles goal (Win s) → Proves k p (Win s) c → IsAnswer k goal depth p (c ∷ [])
  won_answers s c settles proves = record {
    some = omega arith;
    few = omega arith;
    each = All-cons (IsFinding k p) c [] proves.finding (All-nil (IsFinding k p));
    settles = first {P = λ c. Settles goal c.claim} c [] (subst (Settles goal) (sym proves.claims) settles);
    wins = λ t shows. first {P = λ c. TellsWin t c.claim} c [] (subst (TellsWin t) (sym proves.claims) (winner t (ShowsWin-wins draughts k t depth p shows)));
    holds = λ t shows. first {P = λ c. TellsHold t c.claim} c [] (subst (TellsHold t) (sym proves.claims) (holder t (ShowsHold-holds draughts k t depth p shows)));
  }
    where
      winner : (t : Side) → Wins draughts t p → s ≡ t
      winner t wins = elim (one_side s t) [
        | inl same ↦ sym same
        | inr against ↦ absurd (Wins-holds draughts s p proves.holds (subst (λ u. Wins draughts u p) against wins))
      ]

      holder : (t : Side) → Holds draughts t p → s ≡ t
      holder t holds = elim (one_side s t) [
        | inl same ↦ sym same
        | inr against ↦ absurd (holds (subst (λ u. Wins draughts u p) (sym (other-other s) ∙ ap other (sym against)) proves.holds))
      ]

  module _ (no_win : (s : Side) → ShowsWin draughts k s depth p → ⊥) (c : Certificate) (proves : Proves k p (Hold (other goal)) c) where
    -- the other side's hold answers, where the goal's does not show
    pub held_answers : (ShowsHold draughts k goal depth [] p → ⊥) → IsAnswer k goal depth p (c ∷ [])
    held_answers no_hold = record {
      some = omega arith;
      few = omega arith;
      each = All-cons (IsFinding k p) c [] proves.finding (All-nil (IsFinding k p));
      settles = first {P = λ c. Settles goal c.claim} c [] (inr (inr proves.claims));
      wins = λ t shows. absurd (no_win t shows);
      holds = λ t shows. first {P = λ c. TellsHold t c.claim} c [] (subst (TellsHold t) (sym proves.claims) (holder t shows));
    }
      where
        holder : (t : Side) → ShowsHold draughts k t depth [] p → other goal ≡ t
        holder t shows = elim (one_side goal t) [
          | inl same ↦ absurd (no_hold (subst (λ u. ShowsHold draughts k u depth [] p) same shows))
          | inr against ↦ sym against
        ]

    -- both holds answer
    pub drawn_answers : (d : Certificate) → Proves k p (Hold goal) d → IsAnswer k goal depth p (c ∷ d ∷ [])
    drawn_answers d also = record {
      some = omega arith;
      few = omega arith;
      each = All-cons (IsFinding k p) c (d ∷ []) proves.finding (All-cons (IsFinding k p) d [] also.finding (All-nil (IsFinding k p)));
      settles = first {P = λ c. Settles goal c.claim} c (d ∷ []) (inr (inr proves.claims));
      wins = λ t shows. absurd (no_win t shows);
      holds = λ t shows. elim (one_side goal t) [
        | inl same ↦ second {P = λ c. TellsHold t c.claim} c d [] (subst (TellsHold t) (sym also.claims) (sym same))
        | inr against ↦ first {P = λ c. TellsHold t c.claim} c (d ∷ []) (subst (TellsHold t) (sym proves.claims) (sym against))
      ];
    }

-- neither side's win shows
pub no_winner : (k : ℕ) (goal : Side) (depth : ℕ) (p : Board) → (ShowsWin draughts k goal depth p → ⊥) → (ShowsWin draughts k (other goal) depth p → ⊥)
    → (s : Side) → ShowsWin draughts k s depth p → ⊥
no_winner k goal depth p mine theirs s shows = elim (one_side goal s) [
  | inl same ↦ mine (subst (λ t. ShowsWin draughts k t depth p) same shows)
  | inr against ↦ theirs (subst (λ t. ShowsWin draughts k t depth p) against shows)
]

-- neither side's win shows where both hold
pub no_winner-held : (k : ℕ) (goal : Side) (depth : ℕ) (p : Board) → Holds draughts (other goal) p → Holds draughts goal p
    → (s : Side) → ShowsWin draughts k s depth p → ⊥
no_winner-held k goal depth p theirs mine s shows =
    let wins = ShowsWin-wins draughts k s depth p shows in
    elim (one_side goal s) [
      | inl same ↦ theirs (subst (λ t. Wins draughts t p) (sym (other-other goal)) (subst (λ t. Wins draughts t p) same wins))
      | inr against ↦ mine (subst (λ t. Wins draughts t p) against wins)
    ]

-- each win settles the goal
pub win_settles : (goal s : Side) → Settles goal (Win s)
win_settles goal s = elim (one_side goal s) [
  | inl same ↦ inl (ap Win same)
  | inr against ↦ inr (inl (ap Win against))
]

pub not_found : (o : Option Certificate) → ((x : Certificate) → o ≡ Some x → ⊥) → o ≡ None
not_found None not_some = refl
not_found (Some x) not_some = absurd (not_some x refl)
