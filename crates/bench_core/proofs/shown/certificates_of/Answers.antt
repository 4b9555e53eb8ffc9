use Rattle.std.proofs.Common.{rules, ◌≡◌, refl, length, arith, List, [], ◌∷◌, ◌++◌, ap, sym, ◌∙◌, append_assoc, append-nil}
use Rattle.strategy_certificate.specs.declared.certificates.Certificate.{Certificate}
use Rattle.bench_core.proofs.shown.certificates_of.Goals as goal

pub loop-proved-init : goal.loop-proved-init
loop-proved-init c =
    ap (λ (xs : List Certificate). xs ++ c.into_iter-proved-iterator.result.rest.items) c.in_ok-list.ensures.items
    ∙ (c.into_iter-proved-iterator.ensures.into_iter_gives.0 ∙ c.into_vec-proved-items.ensures)

pub loop-proved-preserved : goal.loop-proved-preserved
loop-proved-preserved c =
    let step : c.loop-proved.proved-iterator.rest.items ≡ c.in-Some.proved ∷ c.next.new.self.rest.items = search rules in
    ap (λ (xs : List Certificate). xs ++ c.next.new.self.rest.items) (c.in_ok-push.ensures.items ∙ ap (λ (x : Certificate). c.loop-proved.list.items ++ x ∷ []) c.into_certificate.ensures.value)
    ∙ (append_assoc c.loop-proved.list.items (c.in-Some.proved ∷ []) c.next.new.self.rest.items
    ∙ (ap (λ (xs : List Certificate). c.loop-proved.list.items ++ xs) (sym step) ∙ c.loop-proved.invariant))

nil_of : (xs : List Certificate) → length xs ≡ 0 → xs ≡ []
nil_of [] h = refl
nil_of (x ∷ xs) h = absurd (omega (arith, h))

pub returns : goal.returns
returns c =
    let long : length c.loop-proved.proved-iterator.rest.items ≡ 0 = search (rules, c.in-None.ensures.steps) in
    let none = nil_of c.loop-proved.proved-iterator.rest.items long in
    c.from_vec.ensures ∙ (sym (append-nil c.loop-proved.list.items) ∙ (ap (λ (xs : List Certificate). c.loop-proved.list.items ++ xs) (sym none) ∙ c.loop-proved.invariant))
