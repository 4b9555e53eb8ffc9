use Rattle.worker_gate.proofs.SearchingLemmas.{leased_asks}
use Rattle.journal_runs.proofs.FirstLeases.{leased_next, next_refused}
use Rattle.journal_runs.proofs.first_pass.lease_root.Goals as goal

pub returns-in-Ok-clause-lease : goal.returns-in-Ok-clause-lease
returns-in-Ok-clause-lease g c =
    leased_asks c.args.session.now.line _ c.args.session.now.core.state 1 c.in-Ok.lease c.lease.ensures.grows c.in-Ok.ensures.turn c.in-Ok.ensures.answer c.in-Ok.ensures.sight

pub returns-in-Ok-clause-next : goal.returns-in-Ok-clause-next
returns-in-Ok-clause-next g c = λ leased rest h. leased_next c.args.session.now.core c.lease.new.self.core leased rest 1 c.in-Ok.lease h c.in-Ok.ensures.answer c.in-Ok.ensures.appends.enters.1

pub returns-in-Err-Done-clause-next : goal.returns-in-Err-Done-clause-next
returns-in-Err-Done-clause-next g c = λ leased rest h. next_refused c.args.session.now c.lease.new.self 1 rest leased _ _ c.in-Err-Done.field-0-is tt c.in-Err-Done.ensures.unchanged c.in-Err-Done.ensures.refused h

pub returns-in-Err-Spent-clause-next : goal.returns-in-Err-Spent-clause-next
returns-in-Err-Spent-clause-next g c = λ leased rest h. next_refused c.args.session.now c.lease.new.self 1 rest leased _ _ c.in-Err-Spent.field-0-is tt c.in-Err-Spent.ensures.unchanged c.in-Err-Spent.ensures.refused h

pub returns-in-Err-NoLeaf-clause-next : goal.returns-in-Err-NoLeaf-clause-next
returns-in-Err-NoLeaf-clause-next g c = λ leased rest h. next_refused c.args.session.now c.lease.new.self 1 rest leased _ _ c.in-Err-NoLeaf.field-0-is tt c.in-Err-NoLeaf.ensures.unchanged c.in-Err-NoLeaf.ensures.refused h
