use Rattle.bench_commands.proofs.VerifyingLemmas.{verified_says}
use Rattle.bench_commands.proofs.commands.verify.verify.Goals as goal

pub returns-clause-says : goal.returns-clause-says
returns-clause-says c =
    let proved = c.in_ok-proved.proved in
    verified_says proved.position proved.claim c.settled.result.text.items c.in_ok-verified_text.ensures.line
    (rw c.settled.ensures.text c.in_ok-verified_text.ensures.text)
