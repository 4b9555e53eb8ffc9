use Rattle.std.proofs.Common.{rules, ◌≡◌, List, [], ◌∷◌, ◌++◌, length, ap, sym, ◌∙◌, subst, append_assoc, append-nil, refl, arith}
use Rattle.strategy_certificate.specs.declared.certificates.Part.{Part}
use Rattle.strategy_certificate.specs.declared.certificates.Certificate.{Certificate}
use Rattle.journal_lessons.specs.Lessons.{AreRecordedParts}
use Rattle.journal_lessons.proofs.RecordedLemmas.{recorded_more}
use Rattle.journal_lessons.proofs.recorded.recorded_as.Goals as goal

pub loop-part-init : goal.loop-part-init
loop-part-init c = ([], (sym (c.into_iter-part-iterator.ensures.into_iter_gives.0 ∙ c.into_vec-part-items.ensures), search rules))

pub loop-part-preserved : goal.loop-part-preserved
loop-part-preserved c =
    let k = c.args.c.pieces in
    let p = c.args.c.position in
    let done : List Part = c.loop-part.invariant.0 in
    let before : List Certificate = c.loop-part.shown.items in
    let left : List Part = c.next.new.self.rest.items in
    let step : c.loop-part.part-iterator.rest.items ≡ c.in-Some.part ∷ left = search rules in
    let one = c.in_ok-certificate.certificate in
    let made = recorded_more k p done before c.in-Some.part c.in_ok-kept.kept c.loop-part.invariant.1.1 c.in_ok-kept.ensures in
    let more : c.push.new.self.items ≡ before ++ one ∷ [] = c.in_ok-push.ensures.items in (
      done ++ c.in-Some.part ∷ [],
      (
        c.loop-part.invariant.1.0 ∙ (ap (λ (xs : List Part). done ++ xs) step ∙ sym (append_assoc done (c.in-Some.part ∷ []) left)),
        subst (AreRecordedParts k p (done ++ c.in-Some.part ∷ [])) (sym (more ∙ ap (λ (x : Certificate). before ++ x ∷ []) c.in_ok-certificate.ensures)) made,
      ),
    )

nil_of : (xs : List Part) → length xs ≡ 0 → xs ≡ []
nil_of [] h = refl
nil_of (x ∷ xs) h = absurd (omega (arith, h))

pub returns : goal.returns
returns c =
    let done : List Part = c.loop-part.invariant.0 in
    let long : length c.loop-part.part-iterator.rest.items ≡ 0 = search (rules, c.in-None.ensures.steps) in
    let none = nil_of c.loop-part.part-iterator.rest.items long in
    let all : c.args.c.parts ≡ done = c.loop-part.invariant.1.0 ∙ (ap (λ (xs : List Part). done ++ xs) none ∙ append-nil done) in
    subst (λ (ps : List Part). AreRecordedParts c.args.c.pieces c.args.c.position ps c.from_vec.result) (sym all)
    (subst (AreRecordedParts c.args.c.pieces c.args.c.position done) (sym c.from_vec.ensures) c.loop-part.invariant.1.1)
