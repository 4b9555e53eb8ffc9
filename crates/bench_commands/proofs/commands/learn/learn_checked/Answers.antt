use Rattle.std.proofs.Common.{ap}
use Rattle.strategy_certificate.specs.declared.certificates.Certificate.{Certificate}
use Rattle.bench_commands.proofs.LearningLemmas.{fault_causes, fault_refused, line_causes, line_learnt, line_refused, line_says}
use Rattle.bench_commands.proofs.commands.learn.learn_checked.Goals as goal

pub returns-in-Ok-clause-does : goal.returns-in-Ok-clause-does
returns-in-Ok-clause-does g c =
    let p = c.certificate-c.result.now in
    line_learnt g.D.Disk c.args.proved c.args.disk c.learn-disk.result.0 c.learn-disk.result.1 c.in-Ok.root c.in-Ok.is p.position p.claim
    (ap (λ (q : Certificate). q.position) c.certificate-c.ensures.value) (ap (λ (q : Certificate). q.claim) c.certificate-c.ensures.value)
    c.learnt_line.result c.learnt_line.ensures.text c.learn-disk.ensures.does

pub returns-in-Ok-clause-says : goal.returns-in-Ok-clause-says
returns-in-Ok-clause-says g c =
    let p = c.certificate-c.result.now in
    line_says c.in-Ok.root p.position p.claim c.learnt_line.result c.learnt_line.ensures.text c.learnt_line.ensures.line

pub returns-in-Ok-clause-refused : goal.returns-in-Ok-clause-refused
returns-in-Ok-clause-refused g c = line_refused g.D.Disk c.args.proved c.args.disk c.learn-disk.result.0 c.learn-disk.result.1 c.learnt_line.result c.learnt_line.ensures.refused

pub returns-in-Ok-clause-causes : goal.returns-in-Ok-clause-causes
returns-in-Ok-clause-causes g c =
    let p = c.certificate-c.result.now in
    line_causes g.D.Disk c.args.proved c.args.disk c.learn-disk.result.0 c.learn-disk.result.1 c.in-Ok.root c.in-Ok.is p.position p.claim
    (ap (λ (q : Certificate). q.position) c.certificate-c.ensures.value) (ap (λ (q : Certificate). q.claim) c.certificate-c.ensures.value)
    c.learnt_line.result c.learnt_line.ensures.refused c.learn-disk.ensures.causes

pub returns-in-Err-clause-refused : goal.returns-in-Err-clause-refused
returns-in-Err-clause-refused g c =
    fault_refused g.D.Disk c.args.proved c.args.disk c.learn-disk.result.0 c.learn-disk.result.1 c.in-Err.refusal c.in-Err.is c.from.result c.from.ensures c.learn-disk.ensures.fault c.learn-disk.ensures.refused

pub returns-in-Err-clause-causes : goal.returns-in-Err-clause-causes
returns-in-Err-clause-causes g c =
    fault_causes g.D.Disk c.args.proved c.args.disk c.learn-disk.result.0 c.learn-disk.result.1 c.in-Err.refusal c.in-Err.is c.from.result c.from.ensures _ c.learn-disk.ensures.causes
