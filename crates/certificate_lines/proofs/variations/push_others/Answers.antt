use Rattle.std.proofs.Common.{◌∙◌, List, ℕ, subst}
use Rattle.std.specs.Prelude.{Contains, OnOk}
use Rattle.certificate_lines.specs.Steps.{AddsVariations}
use Rattle.certificate_lines.specs.Variations.{others}
use Rattle.certificate_lines.proofs.variations.push_others.Goals as goal

pub push_among-requires-clause-legal : goal.push_among-requires-clause-legal
push_among-requires-clause-legal g c m there = c.in_ok-moves.ensures.rules.sound m (subst (λ (paths : List (List ℕ)). Contains paths m) c.deref.ensures.value there)

pub returns : goal.returns
returns g c =
    subst (λ (ms : List (List ℕ)). OnOk c.push_among.result (AddsVariations (g.O.Oracle.answer_at c.args.oracle.now) c.args.part.now c.args.fork.now c.args.varied (others ms c.args.path.now) c.args.variations.now.items c.push_among.new.variations.items))
    (c.deref.ensures.value ∙ c.in_ok-moves.ensures.exact) c.push_among.ensures
