-- What is certified is true, so it does not contradict what certificates show.
use Rattle.std.proofs.Common.{◌≡◌, ◌⊎◌, inl, inr, ℕ, Bool, true, false, ◌||◌, List, [], Option, Some, None, refl, sym, ◌∙◌, ap, subst}
use Rattle.std.specs.Prelude.{Contains, All, IfSome, IsTrue}
use Rattle.std.proofs.lemmas.Bool.{or_cases, or_left, or_right}
use Rattle.std.proofs.lemmas.List.Elements.{All-contains}
use Rattle.draughts_board.specs.Board.{Board, other}
use Rattle.draughts_board.specs.Draughts.{draughts}
use Rattle.draughts_board.specs.Game.{Wins, Holds, ShowsWin, ShowsHold}
use Rattle.draughts_board.specs.declared.pieces.Side.{Side}
use Rattle.draughts_board.specs.declared.pieces.Side.TheVariants.{Black, White}
use Rattle.draughts_board.proofs.Members.{bool_cases}
use Rattle.draughts_board.proofs.Truth.{other-other, ShowsWin-wins, ShowsHold-holds}
use Rattle.strategy_certificate.specs.declared.certificates.Certificate.{Certificate}
use Rattle.strategy_certificate.specs.Certificates.{IsTrueOf}
use Rattle.strategy_certificate.specs.Claims.{TellsWin, TellsHold}
use Rattle.strategy_certificate.proofs.ClaimLemmas.{told_win, told_hold}
use Rattle.strategy_certificate.proofs.PartLemmas.{good_certificates_are_true}
use Rattle.proof_numbers.specs.Known.{Known, knows_win, knows_hold, joined, IsConsistent}
use Rattle.proof_tree.specs.Forest.{Node, node_at}
use Rattle.proof_tree.specs.Sound.{IsSoundNode}
use Rattle.proof_tree.proofs.EachNode.{EachNode-at}
use Rattle.certificate_joiner.specs.Shelf.{Put, certificates_of}
use Rattle.certificate_joiner.specs.Certified.{IsShelved, IsCertified}
use Rattle.certificate_joiner.specs.Growth.{AreShownBy, ShownFactsAgree}

-- ---- what is known of a position, now and anew

module _ (k : ℕ) (p : Board) where
  true_of : (shown : List Certificate) → All (IsShelved k p) shown → (c : Certificate) → Contains shown c → IsTrueOf c.claim p
  true_of shown shelved c there =
      let here = All-contains (IsShelved k p) shown c shelved there in
      subst (IsTrueOf c.claim) here.position (good_certificates_are_true c here.good)

  module _ (a b : Known) (shown batch : List Certificate) (shelved : All (IsShelved k p) shown)
      (wins : (s : Side) → knows_win s a ≡ true → ShowsWin draughts k s 0 p ⊎ ((c : Certificate) × (Contains shown c × TellsWin s c.claim)))
      (holds : (s : Side) → knows_hold s a ≡ true → ShowsHold draughts k s 0 [] p ⊎ ((c : Certificate) × (Contains shown c × TellsHold s c.claim)))
      (new : AreShownBy k p b batch) (one : IsConsistent a) (two : IsConsistent b) where
    win_joined : (s : Side) → knows_win s (joined a b) ≡ (knows_win s a || knows_win s b)
    win_joined Black = refl
    win_joined White = refl

    hold_joined : (s : Side) → knows_hold s (joined a b) ≡ (knows_hold s a || knows_hold s b)
    hold_joined Black = refl
    hold_joined White = refl

    wins_truly : (s : Side) → knows_win s (joined a b) ≡ true → Wins draughts s p
    wins_truly s t = elim (or_cases (knows_win s a) (knows_win s b) (sym (win_joined s) ∙ t)) [
      | inl old ↦ elim (wins s old) [
        | inl sight ↦ ShowsWin-wins draughts k s 0 p sight
        | inr found ↦ told_win p s found.0.claim found.1.1 (true_of shown shelved found.0 found.1.0)
      ]
      | inr late ↦ (let found = new.wins s late in told_win p s found.0.claim found.1.1 (true_of batch new.shelved found.0 found.1.0))
    ]

    holds_truly : (s : Side) → knows_hold s (joined a b) ≡ true → Holds draughts s p
    holds_truly s t = elim (or_cases (knows_hold s a) (knows_hold s b) (sym (hold_joined s) ∙ t)) [
      | inl old ↦ elim (holds s old) [
        | inl sight ↦ ShowsHold-holds draughts k s 0 p sight
        | inr found ↦ told_hold p s found.0.claim found.1.1 (true_of shown shelved found.0 found.1.0)
      ]
      | inr late ↦ (let found = new.holds s late in told_hold p s found.0.claim found.1.1 (true_of batch new.shelved found.0 found.1.0))
    ]

    tells_hold : (facts : Known) → IsConsistent facts → (s : Side) → knows_win s facts ≡ true → knows_hold s facts ≡ true
    tells_hold facts c Black t = (c.black t).0
    tells_hold facts c White t = (c.white t).0

    holds_too : (s : Side) → knows_win s (joined a b) ≡ true → knows_hold s (joined a b) ≡ true
    holds_too s t = hold_joined s ∙ elim (or_cases (knows_win s a) (knows_win s b) (sym (win_joined s) ∙ t)) [
      | inl old ↦ or_left (knows_hold s a) (knows_hold s b) (tells_hold a one s old)
      | inr late ↦ or_right (knows_hold s a) (knows_hold s b) (tells_hold b two s late)
    ]

    other_does_not : (s : Side) → knows_win s (joined a b) ≡ true → knows_hold (other s) (joined a b) ≡ false
    other_does_not s t = elim (bool_cases (knows_hold (other s) (joined a b))) [
      | inl held ↦ absurd (holds_truly (other s) held (subst (λ u. Wins draughts u p) (sym (other-other s)) (wins_truly s t)))
      | inr not ↦ not
    ]

    pub agree : IsConsistent (joined a b)
    agree = record {
      black = λ t. (holds_too Black t, other_does_not Black t);
      white = λ t. (holds_too White t, other_does_not White t);
    }

pub shown_facts_agree : ShownFactsAgree
shown_facts_agree k puts roots n facts batch sound certified two = by (node_at n roots) refl
  where
    by : (o : Option Node) → node_at n roots ≡ o → IfSome o (λ x. AreShownBy k x.own.position facts batch → IsConsistent (joined x.own.facts facts))
    by None is = tt
    by (Some x) is = λ new.
        let one = (EachNode-at IsSoundNode n [] roots x sound.each is).1 in
        let old = (EachNode-at (λ above. IsCertified k puts) n [] roots x certified is).1 in
        agree k x.own.position x.own.facts facts (certificates_of x.own.number puts) batch old.shelved old.wins old.holds new one.consistent two
