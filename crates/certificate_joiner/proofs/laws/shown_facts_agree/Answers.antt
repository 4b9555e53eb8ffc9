use Rattle.certificate_joiner.proofs.Agreeing.{shown_facts_agree}
use Rattle.certificate_joiner.proofs.laws.shown_facts_agree.Goals as goal

pub returns : goal.returns
returns c = shown_facts_agree
