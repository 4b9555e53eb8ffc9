-- Facts of a position: when they are true, what is known together, and what certificates tell.
use Rattle.std.proofs.Common.{◌≡◌, ◌⊎◌, inl, inr, true, false, ◌||◌, List, [], ◌∷◌, refl, sym, ap, subst}
use Rattle.std.specs.Prelude.{Contains, All, IsTrue}
use Rattle.std.proofs.lemmas.Bool.{or_cases, or_left, or_right, false≢true}
use Rattle.std.proofs.lemmas.List.Elements.{All-head, All-tail}
use Rattle.draughts_board.specs.declared.pieces.Side.{Side}
use Rattle.draughts_board.specs.declared.pieces.Side.TheVariants.{Black, White}
use Rattle.draughts_board.specs.Board.{Board, other}
use Rattle.draughts_board.specs.Game.{Wins, Holds}
use Rattle.draughts_board.specs.Draughts.{draughts}
use Rattle.draughts_board.proofs.Members.{bool_cases, Contains-head, Contains-tail}
use Rattle.draughts_board.proofs.Truth.{other-other, Wins-holds}
use Rattle.proof_numbers.specs.declared.facts.Facts.{Facts}
use Rattle.proof_numbers.specs.Facts.{known}
use Rattle.proof_numbers.specs.Known.{Known, knows_win, knows_hold, joined, nothing_known, IsConsistent}
use Rattle.strategy_certificate.specs.Certificates.{IsGood, IsTrueOf}
use Rattle.strategy_certificate.specs.Claims.{TellsWin, TellsHold}
use Rattle.strategy_certificate.specs.declared.claims.Claim.{Claim}
use Rattle.strategy_certificate.specs.declared.claims.Claim.TheVariants.{Win, Hold, Draw}
use Rattle.strategy_certificate.specs.declared.certificates.Certificate.{Certificate}
use Rattle.strategy_certificate.proofs.PartLemmas.{good_certificates_are_true}
use Rattle.certificate_checker.specs.Told.{facts_claimed, facts_shown}

-- all that is known is true of the position
pub record AreTrueFacts (p : Board) (facts : Known) : Type 0 where
  pub wins : (s : Side) → IsTrue (knows_win s facts) → Wins draughts s p
  pub holds : (s : Side) → IsTrue (knows_hold s facts) → Holds draughts s p

pub consistent : (facts : Facts) → IsConsistent (known facts)
consistent facts = record { black = facts.black; white = facts.white }

-- ---- what is known together

wins_joined : (s : Side) (a b : Known) → knows_win s (joined a b) ≡ (knows_win s a || knows_win s b)
wins_joined Black a b = refl
wins_joined White a b = refl

holds_joined : (s : Side) (a b : Known) → knows_hold s (joined a b) ≡ (knows_hold s a || knows_hold s b)
holds_joined Black a b = refl
holds_joined White a b = refl

win_tells_hold : (facts : Known) → IsConsistent facts → (s : Side) → IsTrue (knows_win s facts) → IsTrue (knows_hold s facts)
win_tells_hold facts c Black h = (c.black h).0
win_tells_hold facts c White h = (c.white h).0

pub win_of_either : (s : Side) (a b : Known) → IsTrue (knows_win s (joined a b)) → IsTrue (knows_win s a) ⊎ IsTrue (knows_win s b)
win_of_either s a b h = or_cases (knows_win s a) (knows_win s b) (subst IsTrue (wins_joined s a b) h)

pub hold_of_either : (s : Side) (a b : Known) → IsTrue (knows_hold s (joined a b)) → IsTrue (knows_hold s a) ⊎ IsTrue (knows_hold s b)
hold_of_either s a b h = or_cases (knows_hold s a) (knows_hold s b) (subst IsTrue (holds_joined s a b) h)

pub win_left : (s : Side) (a b : Known) → IsTrue (knows_win s a) → IsTrue (knows_win s (joined a b))
win_left s a b h = subst IsTrue (sym (wins_joined s a b)) (or_left (knows_win s a) (knows_win s b) h)

pub win_right : (s : Side) (a b : Known) → IsTrue (knows_win s b) → IsTrue (knows_win s (joined a b))
win_right s a b h = subst IsTrue (sym (wins_joined s a b)) (or_right (knows_win s a) (knows_win s b) h)

pub hold_left : (s : Side) (a b : Known) → IsTrue (knows_hold s a) → IsTrue (knows_hold s (joined a b))
hold_left s a b h = subst IsTrue (sym (holds_joined s a b)) (or_left (knows_hold s a) (knows_hold s b) h)

pub hold_right : (s : Side) (a b : Known) → IsTrue (knows_hold s b) → IsTrue (knows_hold s (joined a b))
hold_right s a b h = subst IsTrue (sym (holds_joined s a b)) (or_right (knows_hold s a) (knows_hold s b) h)

module _ (p : Board) (a b : Known) (right : AreTrueFacts p a) (also : AreTrueFacts p b) where
  pub joined_true : AreTrueFacts p (joined a b)
  joined_true = record {
    wins = λ s h. elim (win_of_either s a b h) [ inl x ↦ right.wins s x | inr y ↦ also.wins s y ];
    holds = λ s h. elim (hold_of_either s a b h) [ inl x ↦ right.holds s x | inr y ↦ also.holds s y ];
  }

  -- facts that are true of one position do not contradict each other
  module _ (one : IsConsistent a) (two : IsConsistent b) where
    tells_hold : (s : Side) → IsTrue (knows_win s (joined a b)) → IsTrue (knows_hold s (joined a b))
    tells_hold s h = elim (win_of_either s a b h) [
      | inl x ↦ hold_left s a b (win_tells_hold a one s x)
      | inr y ↦ hold_right s a b (win_tells_hold b two s y)
    ]

    excludes : (s : Side) → IsTrue (knows_win s (joined a b)) → knows_hold (other s) (joined a b) ≡ false
    excludes s h = elim (bool_cases (knows_hold (other s) (joined a b))) [
      | inl t ↦ absurd (joined_true.holds (other s) t (subst (λ u. Wins draughts u p) (sym (other-other s)) (joined_true.wins s h)))
      | inr f ↦ f
    ]

    pub joined_consistent : IsConsistent (joined a b)
    joined_consistent = record {
      black = λ h. (tells_hold Black h, excludes Black h);
      white = λ h. (tells_hold White h, excludes White h);
    }

-- ---- what a claim tells

pub claim_consistent : (c : Claim) → IsConsistent (facts_claimed c)
claim_consistent (Win Black) = record { black = λ h. (refl, refl); white = λ h. absurd (false≢true h) }
claim_consistent (Win White) = record { black = λ h. absurd (false≢true h); white = λ h. (refl, refl) }
claim_consistent (Hold Black) = record { black = λ h. absurd (false≢true h); white = λ h. absurd (false≢true h) }
claim_consistent (Hold White) = record { black = λ h. absurd (false≢true h); white = λ h. absurd (false≢true h) }
claim_consistent Draw = record { black = λ h. absurd (false≢true h); white = λ h. absurd (false≢true h) }

pub claim_true : (p : Board) (c : Claim) → IsTrueOf c p → AreTrueFacts p (facts_claimed c)
claim_true p (Win Black) t = record { wins = wins; holds = holds }
  where
    wins : (s : Side) → IsTrue (knows_win s (facts_claimed (Win Black))) → Wins draughts s p
    wins Black h = t
    wins White h = absurd (false≢true h)

    holds : (s : Side) → IsTrue (knows_hold s (facts_claimed (Win Black))) → Holds draughts s p
    holds Black h = Wins-holds draughts Black p t
    holds White h = absurd (false≢true h)
claim_true p (Win White) t = record { wins = wins; holds = holds }
  where
    wins : (s : Side) → IsTrue (knows_win s (facts_claimed (Win White))) → Wins draughts s p
    wins Black h = absurd (false≢true h)
    wins White h = t

    holds : (s : Side) → IsTrue (knows_hold s (facts_claimed (Win White))) → Holds draughts s p
    holds Black h = absurd (false≢true h)
    holds White h = Wins-holds draughts White p t
claim_true p (Hold Black) t = record { wins = wins; holds = holds }
  where
    wins : (s : Side) → IsTrue (knows_win s (facts_claimed (Hold Black))) → Wins draughts s p
    wins Black h = absurd (false≢true h)
    wins White h = absurd (false≢true h)

    holds : (s : Side) → IsTrue (knows_hold s (facts_claimed (Hold Black))) → Holds draughts s p
    holds Black h = t
    holds White h = absurd (false≢true h)
claim_true p (Hold White) t = record { wins = wins; holds = holds }
  where
    wins : (s : Side) → IsTrue (knows_win s (facts_claimed (Hold White))) → Wins draughts s p
    wins Black h = absurd (false≢true h)
    wins White h = absurd (false≢true h)

    holds : (s : Side) → IsTrue (knows_hold s (facts_claimed (Hold White))) → Holds draughts s p
    holds Black h = absurd (false≢true h)
    holds White h = t
claim_true p Draw t = record { wins = wins; holds = holds }
  where
    wins : (s : Side) → IsTrue (knows_win s (facts_claimed Draw)) → Wins draughts s p
    wins Black h = absurd (false≢true h)
    wins White h = absurd (false≢true h)

    holds : (s : Side) → IsTrue (knows_hold s (facts_claimed Draw)) → Holds draughts s p
    holds Black h = t.0
    holds White h = t.1

pub claim_tells_win : (s : Side) (c : Claim) → knows_win s (facts_claimed c) ≡ true → TellsWin s c
claim_tells_win Black (Win Black) h = refl
claim_tells_win White (Win White) h = refl
claim_tells_win Black (Win White) h = absurd (false≢true h)
claim_tells_win White (Win Black) h = absurd (false≢true h)
claim_tells_win Black (Hold Black) h = absurd (false≢true h)
claim_tells_win Black (Hold White) h = absurd (false≢true h)
claim_tells_win White (Hold Black) h = absurd (false≢true h)
claim_tells_win White (Hold White) h = absurd (false≢true h)
claim_tells_win Black Draw h = absurd (false≢true h)
claim_tells_win White Draw h = absurd (false≢true h)

pub claim_tells_hold : (s : Side) (c : Claim) → knows_hold s (facts_claimed c) ≡ true → TellsHold s c
claim_tells_hold Black (Win Black) h = refl
claim_tells_hold White (Win White) h = refl
claim_tells_hold Black (Win White) h = absurd (false≢true h)
claim_tells_hold White (Win Black) h = absurd (false≢true h)
claim_tells_hold Black (Hold Black) h = refl
claim_tells_hold White (Hold White) h = refl
claim_tells_hold Black (Hold White) h = absurd (false≢true h)
claim_tells_hold White (Hold Black) h = absurd (false≢true h)
claim_tells_hold Black Draw h = tt
claim_tells_hold White Draw h = tt

pub claim_told_win : (s : Side) (c : Claim) → TellsWin s c → knows_win s (facts_claimed c) ≡ true
claim_told_win Black (Win t) h = ap (λ u. knows_win Black (facts_claimed (Win u))) h
claim_told_win White (Win t) h = ap (λ u. knows_win White (facts_claimed (Win u))) h
claim_told_win s (Hold t) h = absurd h
claim_told_win s Draw h = absurd h

pub claim_told_hold : (s : Side) (c : Claim) → TellsHold s c → knows_hold s (facts_claimed c) ≡ true
claim_told_hold Black (Win t) h = ap (λ u. knows_hold Black (facts_claimed (Win u))) h
claim_told_hold White (Win t) h = ap (λ u. knows_hold White (facts_claimed (Win u))) h
claim_told_hold Black (Hold t) h = ap (λ u. knows_hold Black (facts_claimed (Hold u))) h
claim_told_hold White (Hold t) h = ap (λ u. knows_hold White (facts_claimed (Hold u))) h
claim_told_hold Black Draw h = refl
claim_told_hold White Draw h = refl

-- ---- what certificates tell

nothing_true : (p : Board) → AreTrueFacts p nothing_known
nothing_true p = record { wins = wins; holds = holds }
  where
    wins : (s : Side) → IsTrue (knows_win s nothing_known) → Wins draughts s p
    wins Black h = absurd (false≢true h)
    wins White h = absurd (false≢true h)

    holds : (s : Side) → IsTrue (knows_hold s nothing_known) → Holds draughts s p
    holds Black h = absurd (false≢true h)
    holds White h = absurd (false≢true h)

nothing_consistent : IsConsistent nothing_known
nothing_consistent = record { black = λ h. absurd (false≢true h); white = λ h. absurd (false≢true h) }

pub shown_true : (p : Board) (shown : List Certificate) → All (λ c. c.position ≡ p) shown → All IsGood shown → AreTrueFacts p (facts_shown shown)
shown_true p [] about good = nothing_true p
shown_true p (c ∷ shown) about good =
    joined_true p (facts_claimed c.claim) (facts_shown shown)
    (claim_true p c.claim (subst (IsTrueOf c.claim) (All-head (λ (d : Certificate). d.position ≡ p) c shown about) (good_certificates_are_true c (All-head IsGood c shown good))))
    (shown_true p shown (All-tail (λ (d : Certificate). d.position ≡ p) c shown about) (All-tail IsGood c shown good))

pub shown_consistent : (p : Board) (shown : List Certificate) → All (λ c. c.position ≡ p) shown → All IsGood shown → IsConsistent (facts_shown shown)
shown_consistent p [] about good = nothing_consistent
shown_consistent p (c ∷ shown) about good =
    joined_consistent p (facts_claimed c.claim) (facts_shown shown)
    (claim_true p c.claim (subst (IsTrueOf c.claim) (All-head (λ (d : Certificate). d.position ≡ p) c shown about) (good_certificates_are_true c (All-head IsGood c shown good))))
    (shown_true p shown (All-tail (λ (d : Certificate). d.position ≡ p) c shown about) (All-tail IsGood c shown good))
    (claim_consistent c.claim)
    (shown_consistent p shown (All-tail (λ (d : Certificate). d.position ≡ p) c shown about) (All-tail IsGood c shown good))

pub no_win_of_nothing : (s : Side) → knows_win s nothing_known ≡ true → ⊥
no_win_of_nothing Black h = false≢true h
no_win_of_nothing White h = false≢true h

pub no_hold_of_nothing : (s : Side) → knows_hold s nothing_known ≡ true → ⊥
no_hold_of_nothing Black h = false≢true h
no_hold_of_nothing White h = false≢true h

pub shown_win : (s : Side) (shown : List Certificate) → knows_win s (facts_shown shown) ≡ true → (c : Certificate) × (Contains shown c × TellsWin s c.claim)
shown_win s [] h = absurd (no_win_of_nothing s h)
shown_win s (c ∷ shown) h = elim (win_of_either s (facts_claimed c.claim) (facts_shown shown) h) [
  | inl x ↦ (c, (Contains-head c shown, claim_tells_win s c.claim x))
  | inr y ↦ (let rest = shown_win s shown y in (rest.0, (Contains-tail c rest.0 shown rest.1.0, rest.1.1)))
]

pub shown_hold : (s : Side) (shown : List Certificate) → knows_hold s (facts_shown shown) ≡ true → (c : Certificate) × (Contains shown c × TellsHold s c.claim)
shown_hold s [] h = absurd (no_hold_of_nothing s h)
shown_hold s (c ∷ shown) h = elim (hold_of_either s (facts_claimed c.claim) (facts_shown shown) h) [
  | inl x ↦ (c, (Contains-head c shown, claim_tells_hold s c.claim x))
  | inr y ↦ (let rest = shown_hold s shown y in (rest.0, (Contains-tail c rest.0 shown rest.1.0, rest.1.1)))
]
