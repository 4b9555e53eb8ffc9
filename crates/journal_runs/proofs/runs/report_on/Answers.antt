use Rattle.std.proofs.Common.{length, ◌≤◌, ◌∙◌, ap, sym, subst}
use Rattle.opening_report.specs.Report.{report_of, forest_roots, AreTrueRoots}
use Rattle.bench_core.specs.Cores.{Core}
use Rattle.journal_runs.proofs.AloneLemmas.{tables_there}
use Rattle.journal_runs.proofs.runs.report_on.Goals as goal

pub report_text-requires : goal.report_text-requires
report_text-requires g c = tables_there _ _ _ c.requires c.bench.ensures.stands ∙ sym (ap (λ (k : Core). k.state.settings.pieces) c.bench.ensures.core)

pub returns-clause-text : goal.returns-clause-text
returns-clause-text g c = c.in_ok-text.ensures.text ∙ ap (λ (k : Core). report_of (forest_roots k.state.forest)) c.bench.ensures.core

pub returns-clause-values : goal.returns-clause-values
returns-clause-values g c = subst (λ (k : Core). AreTrueRoots (forest_roots k.state.forest)) c.bench.ensures.core c.in_ok-text.ensures.values

pub returns-clause-few : goal.returns-clause-few
returns-clause-few g c = subst (λ (k : Core). length (forest_roots k.state.forest) ≤ 65536) c.bench.ensures.core c.in_ok-text.ensures.few
