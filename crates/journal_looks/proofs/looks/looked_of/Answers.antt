use Rattle.std.proofs.Common.{◌∙◌, sym}
use Rattle.std.specs.Prelude.{is_some}
use Rattle.std.proofs.lemmas.List.Folds.{list_all-map}
use Rattle.proof_tree.specs.Forest.{nodes}
use Rattle.opening_report.specs.declared.roots.Root.{Root}
use Rattle.opening_report.specs.Report.{forest_roots, root_of}
use Rattle.journal_looks.proofs.looks.looked_of.Goals as goal

pub returns-clause-values : goal.returns-clause-values
returns-clause-values c = record {
  roots = forest_roots c.args.bench.now.state.forest;
  few = c.in_ok-text.ensures.few;
  text_is = c.in_ok-text.ensures.text;
  values = c.in_ok-text.ensures.values;
  settled_is = c.is_settled-is_settled.ensures ∙ sym (list_all-map (λ (r : Root). is_some r.value) root_of (nodes c.args.bench.now.state.forest));
}
