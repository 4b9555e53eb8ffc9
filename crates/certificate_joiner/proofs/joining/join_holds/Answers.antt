use Rattle.std.proofs.Common.{◌≡◌, ◌+◌, ◌-◌, ◌<◌, ◌∙◌, sym, ap, subst, arith, length, get_or}
use Rattle.std.proofs.lemmas.List.Elements.{All-get_or}
use Rattle.certificate_joiner.specs.declared.steps.Aim.TheVariants.{Hold}
use Rattle.certificate_joiner.specs.Steps.{IsUsable}
use Rattle.certificate_joiner.specs.Strategy.{named, IsNamed}
use Rattle.certificate_joiner.proofs.LoopLemmas.{HoldsFrom, holds_none, holds_one_more, due_path}
use Rattle.certificate_joiner.proofs.joining.join_holds.Goals as goal

pub loop-left-init : goal.loop-left-init
loop-left-init c =
    let new = c.in_ok-part.ensures in
    record {
      within = omega arith;
      side = ap (λ part. part.side) new;
      holds = holds_none c.args.pieces (named c.args.tree.now.forest) c.args.strategy.now c.in_ok-part.part (ap (λ part. part.entries) new);
    }

pub step_at-requires : goal.step_at-requires
step_at-requires c =
    let ns = c.args.strategy.now in
    let i = c.loop-left.left - 1 in
    let within : i < length ns = omega arith in
    let n = c.index-strategy-left.result in
    let is : n ≡ get_or ns i n = c.index-strategy-left.is in
    let roots = c.args.tree.now.forest in
    record {
      few = c.requires.pieces;
      there = subst (IsNamed roots) (sym is) (All-get_or (IsNamed roots) ns i n within c.requires.strategy.there);
      sound = c.requires.sound;
      due = due_path c.args.pieces c.args.shelf.now.puts Hold c.args.side (named roots) (IsNamed roots) ns c.requires.strategy i n within is;
    }

pub add_hold-requires : goal.add_hold-requires
add_hold-requires c = subst (λ s. IsUsable s c.in-Ok.step.reason) (sym c.loop-left.invariant.side) c.in-Ok.ensures.usable

pub loop-left-preserved : goal.loop-left-preserved
loop-left-preserved c =
    let ns = c.args.strategy.now in
    let i = c.loop-left.left - 1 in
    let within : i < length ns = omega arith in
    let n = c.index-strategy-left.result in
    let is : n ≡ get_or ns i n = c.index-strategy-left.is in
    let next : c.loop-left.left ≡ i + 1 = omega arith in
    let roots = c.args.tree.now.forest in
    let old = subst (λ m. HoldsFrom c.args.pieces (named roots) ns m c.loop-left.part) next c.loop-left.invariant.holds in
    record {
      within = omega arith;
      side = c.in_ok-add_hold-in-Ok.ensures.side ∙ c.loop-left.invariant.side;
      holds = holds_one_more c.args.pieces c.args.shelf.now.puts c.args.side (named roots) (IsNamed roots) ns
          i n within is c.in-Ok.step c.requires.strategy c.in-Ok.ensures c.loop-left.part c.add_hold.new.part c.loop-left.invariant.side c.in_ok-add_hold-in-Ok.ensures.holds old;
    }

pub returns : goal.returns
returns c =
    let ns = c.args.strategy.now in
    let roots = c.args.tree.now.forest in
    let none : c.loop-left.left ≡ 0 = omega arith in
    record {
      side = c.loop-left.invariant.side;
      holds = subst (λ n. HoldsFrom c.args.pieces (named roots) ns n c.loop-left.part) none c.loop-left.invariant.holds;
    }
