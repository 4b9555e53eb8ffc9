-- What certificates tell together, from the last to the first.
use Rattle.std.proofs.Common.{◌≡◌, ℕ, suc, ◌-◌, ◌<◌, ◌≤◌, List, ◌∷◌, length, get_or, drop, sym, ◌∙◌, subst, arith, All}
use Rattle.std.proofs.Math.Seq.{drop-cons}
use Rattle.std.proofs.lemmas.List.Elements.{All-cons, All-drop}
use Rattle.draughts_board.specs.Board.{Board}
use Rattle.proof_numbers.specs.Known.{joined, IsConsistent}
use Rattle.strategy_certificate.specs.declared.certificates.Certificate.{Certificate}
use Rattle.strategy_certificate.specs.Certificates.{IsGood, IsTrueOf}
use Rattle.certificate_checker.specs.Told.{facts_claimed, facts_shown}
use Rattle.certificate_checker.proofs.FactLemmas.{joined_consistent, claim_true, claim_consistent, shown_true, shown_consistent}

module _ (p : Board) (proofs : List Certificate) (at : ℕ) (c : Certificate) (about : All (λ (d : Certificate). d.position ≡ p) proofs) (above : 0 < at) (within : at ≤ length proofs) (stands : c ≡ get_or proofs (at - 1) c) where
  pub from_place : drop (at - 1) proofs ≡ c ∷ drop at proofs
  from_place =
      let low : at - 1 < length proofs = omega (arith, above, within) in
      let next : suc (at - 1) ≡ at = omega (arith, above) in
      drop-cons proofs (at - 1) c low ∙ (λ i. sym stands i ∷ drop (next i) proofs)

  here : c.position ≡ p
  here = subst (λ (d : Certificate). d.position ≡ p) (sym stands) (about (at - 1) c (omega (arith, above, within)))

  pub told_fits : All IsGood (drop at proofs) → IsTrueOf c.claim c.position → IsConsistent (joined (facts_claimed c.claim) (facts_shown (drop at proofs)))
  told_fits good right =
      joined_consistent p (facts_claimed c.claim) (facts_shown (drop at proofs)) (claim_true p c.claim (subst (IsTrueOf c.claim) here right))
      (shown_true p (drop at proofs) (All-drop (λ (d : Certificate). d.position ≡ p) at proofs about) good) (claim_consistent c.claim)
      (shown_consistent p (drop at proofs) (All-drop (λ (d : Certificate). d.position ≡ p) at proofs about) good)

  pub good_from : All IsGood (drop at proofs) → IsGood c → All IsGood (drop (at - 1) proofs)
  good_from good right = subst (All IsGood) (sym from_place) (All-cons IsGood c (drop at proofs) right good)
