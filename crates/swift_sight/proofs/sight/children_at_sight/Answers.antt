use Rattle.std.proofs.Common.{◌≡◌, ◌++◌, [], ◌∷◌, map, take, ap, ◌∙◌, sym, subst, arith}
use Rattle.std.specs.Prelude.{All}
use Rattle.std.proofs.lemmas.List.{take_more, map-append}
use Rattle.std.proofs.lemmas.List.Elements.{All-append, All-cons, All-nil}
use Rattle.proof_numbers.specs.Facts.{known}
use Rattle.proof_numbers.specs.Sight.{AreFactsAtSight}
use Rattle.proof_numbers.specs.declared.leaves.Child.{Child}
use Rattle.certificate_checker.specs.Sight.{IsAtSight}
use Rattle.swift_sight.proofs.sight.children_at_sight.Goals as goal

pub loop-q-preserved : goal.loop-q-preserved
loop-q-preserved g c =
    let k = g.O.Oracle.piece_limit c.args.oracle.now in
    let q = c.q-item.result in
    let child = c.in_ok-child.child in
    let items = c.in_ok-push.ensures.items in
    let next = c.deref-q-items.result.now in
    let before = c.loop-q.children.items in
    let at : child.position ≡ q = c.in_ok-child.ensures.position in
    let here : IsAtSight k child = subst (λ p. AreFactsAtSight k p (known child.facts)) (sym at) c.in_ok-child.ensures.facts in
    record {
      positions = ap (map (λ (child : Child). child.position)) items ∙ (map-append (λ (child : Child). child.position) before (child ∷ [])
          ∙ (ap (λ ps. ps ++ child.position ∷ []) c.loop-q.invariant.positions ∙ (ap (λ x. take c.loop-q.q-index next ++ x ∷ []) (at ∙ c.q-item.is) ∙ sym (take_more next c.loop-q.q-index q (omega arith)))));
      facts = subst (All (IsAtSight k)) (sym items) (All-append (IsAtSight k) before (child ∷ []) c.loop-q.invariant.facts (All-cons (IsAtSight k) child [] here (All-nil (IsAtSight k))));
    }
