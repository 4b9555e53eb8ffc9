-- What a certificate is not learnt for, as the program's own refusal.
use Rattle.opening_report.specs.Conversions.{of_journal}
use Rattle.opening_report.specs.declared.refusals.Refusal.{Refusal}
use Rattle.opening_report.specs.declared.refusals.Refusal.TheVariants as refusal
use Rattle.journal_lessons.specs.declared.refusals.LearnRefusal.{LearnRefusal}
use Rattle.journal_lessons.specs.declared.refusals.LearnRefusal.TheVariants as lesson

abbrev pub of_lesson : LearnRefusal → Refusal
of_lesson (lesson.Journal fault) = of_journal fault
of_lesson (lesson.RootExpanded n) = refusal.RootExpanded n
of_lesson lesson.TooManyRoots = refusal.TooManyRoots
