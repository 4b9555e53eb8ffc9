-- What a run on a journal is refused for, as the program's own refusal.
use Rattle.opening_report.specs.Conversions.{of_journal}
use Rattle.opening_report.specs.declared.refusals.Refusal.{Refusal}
use Rattle.opening_report.specs.declared.refusals.Refusal.TheVariants as refusal
use Rattle.journal_runs.specs.declared.refusals.RunRefusal.{RunRefusal}
use Rattle.journal_runs.specs.declared.refusals.RunRefusal.TheVariants as run

abbrev pub of_run : RunRefusal → Refusal
of_run (run.Journal fault) = of_journal fault
of_run run.TooManyRoots = refusal.TooManyRoots
