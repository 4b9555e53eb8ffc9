use Rattle.proved_book.proofs.AnswerLemmas.{answers_serve as serve, answers_are_true, one_answer}
use Rattle.proved_book.proofs.laws.answers_serve.Goals as goal

pub returns : goal.returns
returns c = record { serve = serve; truth = answers_are_true; one = one_answer }
