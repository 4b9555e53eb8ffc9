use Rattle.journal_lessons.proofs.LessonLemmas.{lessons_are_lawful}
use Rattle.journal_lessons.proofs.CoverLemmas.{lessons_cover}
use Rattle.journal_lessons.proofs.laws.lessons_may_be_added.Goals as goal

pub returns : goal.returns
returns c = record { lawful = lessons_are_lawful; cover = lessons_cover }
