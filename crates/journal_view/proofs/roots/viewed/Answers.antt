use Rattle.journal_view.proofs.roots.viewed.Goals as goal

pub returns-clause-values : goal.returns-clause-values
returns-clause-values c = record {
  roots = c.args.bench.now.state.forest;
  text_is = c.in_ok-text.ensures;
  values = c.in_ok-_report.ensures.values;
}
