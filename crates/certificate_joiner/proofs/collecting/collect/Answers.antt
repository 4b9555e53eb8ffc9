use Rattle.std.proofs.Common.{◌≡◌, ◌<◌, ◌∙◌, ◌∷◌, ◌++◌, [], sym, ap, subst, length, arith}
use Rattle.std.proofs.lemmas.List.Elements.{All-get_or}
use Rattle.certificate_joiner.specs.Strategy.{named, IsNamed, Collected}
use Rattle.certificate_joiner.proofs.Collected.{collected_root, collected_more, lighter_more}
use Rattle.certificate_joiner.proofs.collecting.collect.Goals as goal

pub loop-i-init : goal.loop-i-init
loop-i-init c =
    let roots = c.args.tree.now.forest in
    let one : c.push.new.self.items ≡ c.args.root ∷ [] = c.in_ok-push.ensures.items ∙ ap (λ l. l ++ c.args.root ∷ []) c.new-strategy.ensures.items in
    subst (λ l. Collected c.args.quest.aim c.args.quest.side (named roots) (IsNamed roots) c.args.root l 0) (sym one)
    (collected_root c.args.quest.aim c.args.quest.side (named roots) (IsNamed roots) c.args.root c.requires.there)

pub add_due-requires : goal.add_due-requires
add_due-requires c =
    let roots = c.args.tree.now.forest in
    let count = c.loop-i.strategy.ok.0 in
    let within : c.loop-i.i < length c.loop-i.strategy.items = omega arith in
    record {
      there = subst (IsNamed roots) (sym c.index-n.ensures) (All-get_or (IsNamed roots) c.loop-i.strategy.items c.loop-i.i c.index-n.result.now within c.loop-i.invariant.there);
      sound = c.requires.sound;
    }

pub loop-i-preserved : goal.loop-i-preserved
loop-i-preserved c =
    let roots = c.args.tree.now.forest in
    let count = c.loop-i.strategy.ok.0 in
    let within : c.loop-i.i < length c.loop-i.strategy.items = omega arith in
    collected_more c.args.quest.aim c.args.quest.side (named roots) (IsNamed roots) c.args.root c.loop-i.strategy.items c.loop-i.i c.loop-i.invariant c.index-n.result.now within c.index-n.ensures
    c.add_due.new.to.items c.in_ok-add_due.ensures

pub loop-i-smaller : goal.loop-i-smaller
loop-i-smaller c =
    let roots = c.args.tree.now.forest in
    let count = c.loop-i.strategy.ok.0 in
    let within : c.loop-i.i < length c.loop-i.strategy.items = omega arith in
    lighter_more c.args.quest.aim c.args.quest.side (named roots) (IsNamed roots) c.args.root c.loop-i.strategy.items c.loop-i.i c.loop-i.invariant c.index-n.result.now within c.index-n.ensures
    c.add_due.new.to.items c.in_ok-add_due.ensures

pub returns : goal.returns
returns c =
    let roots = c.args.tree.now.forest in
    let count = c.loop-i.strategy.ok.0 in
    let le = c.loop-i.invariant.within in
    let all : c.loop-i.i ≡ length c.loop-i.strategy.items = omega arith in
    subst (Collected c.args.quest.aim c.args.quest.side (named roots) (IsNamed roots) c.args.root c.loop-i.strategy.items) all c.loop-i.invariant
