use Rattle.std.proofs.Common.{◌≡◌, All, [], drop, length, ap, sym, ◌∙◌, subst, arith}
use Rattle.std.proofs.Math.Seq.{drop-length}
use Rattle.std.proofs.lemmas.List.Elements.{All-nil}
use Rattle.proof_numbers.specs.Known.{Known, joined, IsConsistent}
use Rattle.strategy_certificate.specs.declared.certificates.Certificate.{Certificate}
use Rattle.strategy_certificate.specs.Certificates.{IsGood}
use Rattle.proof_numbers.specs.Facts.{known}
use Rattle.certificate_checker.specs.Told.{facts_claimed, facts_shown}
use Rattle.certificate_checker.proofs.ToldLemmas.{from_place, told_fits, good_from}
use Rattle.certificate_checker.proofs.claimed.told_by_all.Goals as goal

pub loop-at-init : goal.loop-at-init
loop-at-init c =
    let none : drop (length c.args.proofs.now) c.args.proofs.now ≡ [] = drop-length c.args.proofs.now in
    record {
      inside = omega arith;
      told = c.none-facts.ensures ∙ ap facts_shown (sym none);
      good = subst (All IsGood) (sym none) (All-nil IsGood);
    }

pub joined-facts-requires : goal.joined-facts-requires
joined-facts-requires c =
    let told = c.told.ensures ∙ ap (λ (x : Certificate). facts_claimed x.claim) c.certificate.ensures.value in
    subst (λ (k : Known). IsConsistent (joined k (known c.loop-at.facts))) (sym told)
    (subst (λ k. IsConsistent (joined (facts_claimed c.index-proofs-at.result.claim) k)) (sym c.loop-at.invariant.told)
    (told_fits c.requires.0 c.args.proofs.now c.loop-at.at c.index-proofs-at.result c.requires.1 c.loop-at-test.true c.loop-at.invariant.inside c.index-proofs-at.is c.loop-at.invariant.good c.certificate.ensures.claim))

pub loop-at-preserved : goal.loop-at-preserved
loop-at-preserved c =
    let told = c.told.ensures ∙ ap (λ (x : Certificate). facts_claimed x.claim) c.certificate.ensures.value in
    let here = from_place c.requires.0 c.args.proofs.now c.loop-at.at c.index-proofs-at.result c.requires.1 c.loop-at-test.true c.loop-at.invariant.inside c.index-proofs-at.is in
    record {
      inside = (let h = c.loop-at.invariant.inside in omega (arith, h));
      told = c.joined-facts.ensures ∙ ((λ i. joined (told i) (c.loop-at.invariant.told i)) ∙ ap facts_shown (sym here));
      good = good_from c.requires.0 c.args.proofs.now c.loop-at.at c.index-proofs-at.result c.requires.1 c.loop-at-test.true c.loop-at.invariant.inside c.index-proofs-at.is c.loop-at.invariant.good c.certificate.ensures.good;
    }

pub returns : goal.returns
returns c =
    let zero : c.loop-at.at ≡ 0 = (let h = c.loop-at-test.false in omega (arith, h)) in
    record {
      told = c.loop-at.invariant.told ∙ ap (λ n. facts_shown (drop n c.args.proofs.now)) zero;
      good = subst (λ n. All IsGood (drop n c.args.proofs.now)) zero c.loop-at.invariant.good;
    }
