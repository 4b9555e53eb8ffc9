use Rattle.page_text.proofs.PlainLemmas.{escaped-plain}
use Rattle.page_text.proofs.markup.push_text.Goals as goal

pub returns-in_err-push_byte-clause-plain : goal.returns-in_err-push_byte-clause-plain
returns-in_err-push_byte-clause-plain c = escaped-plain c.args.words.now

pub returns-clause-plain : goal.returns-clause-plain
returns-clause-plain c = escaped-plain c.args.words.now
