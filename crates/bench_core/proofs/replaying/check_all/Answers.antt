use Rattle.std.proofs.Common.{rules, ◌≡◌, List, [], ◌∷◌, ◌++◌, ap, sym, ◌∙◌, subst, append_assoc}
use Rattle.std.specs.Prelude.{All}
use Rattle.std.proofs.lemmas.List.Elements.{All-push}
use Rattle.strategy_certificate.specs.declared.certificates.Certificate.{Certificate}
use Rattle.certificate_joiner.specs.Certified.{IsShelved}
use Rattle.bench_core.proofs.replaying.check_all.Goals as goal

pub loop-c-preserved : goal.loop-c-preserved
loop-c-preserved g c =
    let k = g.O.Oracle.piece_limit c.args.oracle.now in
    let so_far = c.loop-c.proofs.items in
    let left = c.next.new.self.rest.items in
    let step : c.loop-c.c-iterator.rest.items ≡ c.in-Some.c ∷ left = search rules in
    let more : c.push.new.self.items ≡ so_far ++ c.in-Some.c ∷ [] = c.in_default.ensures.items ∙ ap (λ (x : Certificate). so_far ++ x ∷ []) c.in_ok-proved.ensures.ok.0 in
    record {
      seen = ap (λ (xs : List Certificate). xs ++ left) more
          ∙ (append_assoc so_far (c.in-Some.c ∷ []) left ∙ (ap (λ (xs : List Certificate). so_far ++ xs) (sym step) ∙ c.loop-c.invariant.seen));
      shelved = subst (All (IsShelved k c.args.p.now)) (sym more) (All-push (IsShelved k c.args.p.now) so_far c.in-Some.c c.loop-c.invariant.shelved c.in_ok-proved.ensures.ok.1);
    }
