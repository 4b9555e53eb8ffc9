use Rattle.certificate_lines.proofs.VariationLemmas.{adds_other, adds_same}
use Rattle.std.proofs.Common.{◌∙◌, sym}
use Rattle.certificate_lines.proofs.variations.push_other.Goals as goal

pub returns-then-eq : goal.returns-then-eq
returns-then-eq g c =
    adds_same (g.O.Oracle.answer_at c.args.oracle.now) c.args.part.now c.args.fork.now c.args.varied c.args.path.now c.args.m.now c.args.variations.now.items (sym c.eq.ensures ∙ c.if-eq.true)

pub returns : goal.returns
returns g c =
    adds_other (g.O.Oracle.answer_at c.args.oracle.now) c.args.part.now c.args.fork.now c.args.varied c.args.path.now c.args.m.now c.args.variations.now.items c.push.new.self.items c.in_ok-variation.variation
    (sym c.eq.ensures ∙ c.if-eq.false) c.in_ok-push.ensures.items c.in_ok-variation.ensures.varies c.in_ok-variation.ensures.behind c.in_ok-variation.ensures.first
