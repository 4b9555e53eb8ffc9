use Rattle.disk_journal.proofs.LooksLemmas.{reads_stays}
use Rattle.bench_commands.proofs.CertificateLemmas.{certified_says}
use Rattle.bench_commands.proofs.LookingLemmas.{look_accepts, look_answers, memory_accepts, no_error}
use Rattle.bench_commands.proofs.CauseLemmas.{uncertified_is_caused}
use Rattle.bench_commands.proofs.commands.certify.certify.Goals as goal

pub returns-in-Ok-clause-says : goal.returns-in-Ok-clause-says
returns-in-Ok-clause-says g c = certified_says _ c.certificate_text.result (λ output. output.text.items) c.certificate_text.ensures.text

pub returns-in-Ok-clause-asked : goal.returns-in-Ok-clause-asked
returns-in-Ok-clause-asked g c asked = memory_accepts c.certificate_text.result c.certificate_text.ensures.refused

pub returns-in-Ok-clause-leaves : goal.returns-in-Ok-clause-leaves
returns-in-Ok-clause-leaves g c = reads_stays g.D.Disk g.met.D.Disk.now_counts _ _ _ c.in-Ok.ensures.reads

pub returns-in-Ok-clause-looked : goal.returns-in-Ok-clause-looked
returns-in-Ok-clause-looked g c honest cause stands = absurd (no_error c.in-Ok.certificate cause (c.in-Ok.ensures.causes honest cause stands))

pub returns-in-Err-clause-asked : goal.returns-in-Err-clause-asked
returns-in-Err-clause-asked g c asked = look_accepts c.in-Err.refusal c.from.result c.from.ensures (c.in-Err.ensures.accepted asked.0 asked.1)

pub returns-in-Err-clause-leaves : goal.returns-in-Err-clause-leaves
returns-in-Err-clause-leaves g c = reads_stays g.D.Disk g.met.D.Disk.now_counts _ _ _ c.in-Err.ensures.reads

pub returns-in-Err-clause-looked : goal.returns-in-Err-clause-looked
returns-in-Err-clause-looked g c honest cause stands = look_answers _ _ c.in-Err.refusal cause c.from.result c.from.ensures (c.in-Err.ensures.causes honest cause stands)

pub returns-in-Err-clause-refused : goal.returns-in-Err-clause-refused
returns-in-Err-clause-refused g c =
    uncertified_is_caused g.D.Disk _ c.args.root c.args.disk c.certify.new.disk c.in-Err.refusal c.from.result c.from.ensures c.in-Err.ensures.reads.cause c.in-Err.ensures.refused
