use Rattle.std.proofs.Common.{List, ℕ, sym, subst}
use Rattle.std.proofs.lemmas.List.{take_all}
use Rattle.certificate_lines.specs.Steps.{AddsVariations}
use Rattle.certificate_lines.specs.Variations.{others}
use Rattle.certificate_lines.proofs.VariationLemmas.{adds_more, adds_none}
use Rattle.certificate_lines.proofs.variations.push_among.Goals as goal

pub loop-m-init : goal.loop-m-init
loop-m-init g c = adds_none (g.O.Oracle.answer_at c.args.oracle.now) c.args.part.now c.args.fork.now c.args.varied c.args.variations.now.items

pub push_other-requires-clause-legal : goal.push_other-requires-clause-legal
push_other-requires-clause-legal g c = c.requires.legal c.m-item.result (c.loop-m.m-index, c.loop-m-test.true, sym c.m-item.is)

pub loop-m-preserved : goal.loop-m-preserved
loop-m-preserved g c =
    adds_more (g.O.Oracle.answer_at c.args.oracle.now) c.args.part.now c.args.fork.now c.args.varied c.args.moves.now c.args.path.now c.loop-m.m-index c.m-item.result c.args.variations.now.items
    c.loop-m.variations.items c.push_other.new.variations.items c.loop-m-test.true c.m-item.is c.loop-m.invariant c.in_ok-push_other.ensures

pub returns : goal.returns
returns g c =
    subst (λ (ms : List (List ℕ)). AddsVariations (g.O.Oracle.answer_at c.args.oracle.now) c.args.part.now c.args.fork.now c.args.varied (others ms c.args.path.now) c.args.variations.now.items c.loop-m.variations.items)
    (take_all c.loop-m.m-index c.args.moves.now c.loop-m-test.false) c.loop-m.invariant
