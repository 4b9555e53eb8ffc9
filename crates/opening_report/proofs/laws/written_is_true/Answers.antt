use Rattle.opening_report.proofs.ReportLemmas.{report-is_true, report-says_roots, roots_stand_once, refusal_says_no_root, other_line_says_no_root, text_without_roots_says_none}
use Rattle.opening_report.proofs.laws.written_is_true.Goals as goal

pub returns : goal.returns
returns c = record {
  reports = report-is_true;
  says = report-says_roots;
  once = roots_stand_once;
  refusals = refusal_says_no_root;
  others = other_line_says_no_root;
  without = text_without_roots_says_none;
}
