use Rattle.certificate_text.proofs.Exact.{texts_tell_apart, printed_is_not_refused, one_text_refusal}
use Rattle.certificate_text.proofs.laws.texts_are_exact.Goals as goal

pub returns-clause-apart : goal.returns-clause-apart
returns-clause-apart c = texts_tell_apart

pub returns-clause-not_refused : goal.returns-clause-not_refused
returns-clause-not_refused c = printed_is_not_refused

pub returns-clause-one : goal.returns-clause-one
returns-clause-one c = one_text_refusal
