-- What is certified is true, and certificates do not contradict it.
use Rattle.std.proofs.Common.{◌≡◌, ℕ, inl, inr, List, subst}
use Rattle.std.specs.Prelude.{Contains, All}
use Rattle.std.proofs.lemmas.List.Elements.{All-contains}
use Rattle.draughts_board.specs.Board.{Board}
use Rattle.draughts_board.specs.Draughts.{draughts}
use Rattle.draughts_board.proofs.Truth.{ShowsWin-wins, ShowsHold-holds}
use Rattle.proof_numbers.specs.Known.{joined, IsConsistent}
use Rattle.strategy_certificate.specs.Certificates.{IsGood, IsTrueOf}
use Rattle.strategy_certificate.specs.declared.certificates.Certificate.{Certificate}
use Rattle.strategy_certificate.proofs.ClaimLemmas.{told_win, told_hold}
use Rattle.strategy_certificate.proofs.PartLemmas.{good_certificates_are_true}
use Rattle.certificate_checker.specs.Told.{facts_shown}
use Rattle.certificate_checker.proofs.FactLemmas.{AreTrueFacts, joined_consistent, shown_true, shown_consistent}
use Rattle.certificate_joiner.specs.Certified.{IsShelved, IsCertified}
use Rattle.certificate_joiner.specs.Shelf.{Put, certificates_of}
use Rattle.proof_tree.specs.Forest.{Node}

right_of : (k : ℕ) (p : Board) (shown : List Certificate) (c : Certificate) → All (IsShelved k p) shown → Contains shown c → IsTrueOf c.claim p
right_of k p shown c shelved there =
    let at = All-contains (IsShelved k p) shown c shelved there in
    subst (IsTrueOf c.claim) at.position (good_certificates_are_true c at.good)

pub certified_true : (k : ℕ) (puts : List Put) (x : Node) → IsCertified k puts x → AreTrueFacts x.own.position x.own.facts
certified_true k puts x certified = record {
  wins = λ s h. elim (certified.wins s h) [
    | inl sight ↦ ShowsWin-wins draughts k s 0 x.own.position sight
    | inr by ↦ told_win x.own.position s by.0.claim by.1.1 (right_of k x.own.position (certificates_of x.own.number puts) by.0 certified.shelved by.1.0)
  ];
  holds = λ s h. elim (certified.holds s h) [
    | inl sight ↦ ShowsHold-holds draughts k s 0 x.own.position sight
    | inr by ↦ told_hold x.own.position s by.0.claim by.1.1 (right_of k x.own.position (certificates_of x.own.number puts) by.0 certified.shelved by.1.0)
  ];
}

pub shelved_about : (k : ℕ) (p : Board) (shown : List Certificate) → All (IsShelved k p) shown → All (λ c. c.position ≡ p) shown
shelved_about k p shown all = λ i d l. (all i d l).position

shelved_good : (k : ℕ) (p : Board) (shown : List Certificate) → All (IsShelved k p) shown → All IsGood shown
shelved_good k p shown all = λ i d l. (all i d l).good

-- what is shown of a certified node agrees with what it knows
pub shown_agrees : (k : ℕ) (puts : List Put) (x : Node) (shown : List Certificate) → IsCertified k puts x → IsConsistent x.own.facts → All (IsShelved k x.own.position) shown
    → IsConsistent (joined x.own.facts (facts_shown shown))
shown_agrees k puts x shown certified consistent shelved =
    joined_consistent x.own.position x.own.facts (facts_shown shown) (certified_true k puts x certified)
    (shown_true x.own.position shown (shelved_about k x.own.position shown shelved) (shelved_good k x.own.position shown shelved)) consistent
    (shown_consistent x.own.position shown (shelved_about k x.own.position shown shelved) (shelved_good k x.own.position shown shelved))
