use Rattle.std.proofs.Common.{Bool, ◌∙◌, sym, subst}
use Rattle.std.specs.Prelude.{MatchBool}
use Rattle.strategy_certificate.specs.Parts.{HasEntry}
use Rattle.strategy_certificate.proofs.MergeLemmas.{is_new}
use Rattle.strategy_certificate.proofs.RowLemmas.{tells_new}
use Rattle.strategy_certificate.proofs.rows.add_new_row.Goals as goal

pub returns-clause-added : goal.returns-clause-added
returns-clause-added g c = c.in_ok-_i.ensures.new ∙ is_new c.args.rows.now.entries c.args.p

pub returns-clause-tells : goal.returns-clause-tells
returns-clause-tells g c =
    let rows = c.args.rows.now.entries in
    subst (λ (b : Bool). MatchBool b (¬ HasEntry rows c.args.p) (HasEntry rows c.args.p))
    (sym (c.in_ok-_i.ensures.new ∙ is_new rows c.args.p)) (tells_new rows c.args.p c.requires)
