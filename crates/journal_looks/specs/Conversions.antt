-- What a look at a journal is refused for, as the program's own refusal.
use Rattle.opening_report.specs.Conversions.{of_journal}
use Rattle.opening_report.specs.declared.refusals.Refusal.{Refusal}
use Rattle.opening_report.specs.declared.refusals.Refusal.TheVariants as refusal
use Rattle.journal_looks.specs.declared.refusals.LookRefusal.{LookRefusal}
use Rattle.journal_looks.specs.declared.refusals.LookRefusal.TheVariants as look

abbrev pub of_look : LookRefusal → Refusal
of_look (look.Journal fault) = of_journal fault
of_look (look.NoRoot n) = refusal.NoRoot n
of_look (look.UnsettledRoot n) = refusal.UnsettledRoot n
