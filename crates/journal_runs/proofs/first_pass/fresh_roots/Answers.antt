use Rattle.std.proofs.Common.{◌≡◌, ◌+◌, ◌-◌, ◌<◌, ◌∙◌, ap, length, subst, sym, arith}
use Rattle.std.specs.Prelude.{IfSome, not, slice_get}
use Rattle.proof_tree.specs.Forest.{nodes}
use Rattle.journal_runs.proofs.FreshLemmas.{none_unsettled, not_fresh, one_unsettled}
use Rattle.journal_runs.proofs.first_pass.fresh_roots.Goals as goal

pub loop-place-preserved-then-is_some : goal.loop-place-preserved-then-is_some
loop-place-preserved-then-is_some c =
    let roots = c.args.tree.now.forest in
    let i = c.loop-place.place in
    let within : i < length (nodes roots) = omega (arith, c.loop-place-test.true, c.roots-place-end.ensures.value) in
    let few = c.loop-place.invariant.few in
    record {
      few = omega (arith, few);
      all = λ each. c.loop-place.invariant.all each ∙ sym (none_unsettled roots i within c.settled.result c.settled.ensures.value (sym c.is_some.ensures ∙ c.if-is_some.true));
    }

pub loop-place-preserved : goal.loop-place-preserved
loop-place-preserved c =
    let roots = c.args.tree.now.forest in
    let i = c.loop-place.place in
    let within : i < length (nodes roots) = omega (arith, c.loop-place-test.true, c.roots-place-end.ensures.value) in
    let few = c.loop-place.invariant.few in
    record {
      few = omega (arith, few);
      all = λ each. ap (λ n. n + 1) (c.loop-place.invariant.all each) ∙ sym (one_unsettled roots i within c.settled.result c.settled.ensures.value (sym c.is_some.ensures ∙ c.if-is_some.false));
    }

pub returns-then-is_none : goal.returns-then-is_none
returns-then-is_none c =
    let roots = c.args.tree.now.forest in
    let i = c.loop-place.place in
    let within : i < length (nodes roots) = omega (arith, c.loop-place-test.true, c.roots-place-end.ensures.value) in
    let number = subst (λ n. IfSome (slice_get (nodes roots) (i + 1 - 1)) (λ x. n ≡ x.own.number)) (sym c.number.ensures) c.root_node.ensures in
    λ each. absurd (not_fresh roots i within c.settled.result c.number.result c.leaf.result c.roots-place-end.ensures.valid.sound c.settled.ensures.value (sym c.is_some.ensures ∙ c.if-is_some.false) number c.leaf.ensures.there.1 (c.is_none.ensures ∙ ap not c.if-is_none.true) each)
