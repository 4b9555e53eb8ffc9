use Rattle.bench_commands.proofs.LearningLemmas.{checked_accepted, checked_answers, checked_leaves, checked_refused, checked_taught, checked_unused, unchecked_accepted, unchecked_refused, unchecked_taught}
use Rattle.bench_commands.proofs.commands.learn.learn.Goals as goal

pub returns-in-Ok-clause-leaves : goal.returns-in-Ok-clause-leaves
returns-in-Ok-clause-leaves g c =
    checked_leaves g.D.Disk c.args.text.now c.in-Ok.proved c.in-Ok.ensures.spelled c.learn_checked.ensures.good c.args.disk c.learn_checked.result.0 c.learn_checked.ensures.leaves

pub returns-in-Ok-clause-answers : goal.returns-in-Ok-clause-answers
returns-in-Ok-clause-answers g c =
    checked_answers g.D.Disk c.args.text.now c.in-Ok.proved c.in-Ok.ensures.spelled c.learn_checked.ensures.good c.args.disk c.learn_checked.result.0 c.learn_checked.ensures.right c.learn_checked.result.1
    c.learn_checked.ensures.does c.learn_checked.ensures.settled

pub returns-in-Ok-clause-refused : goal.returns-in-Ok-clause-refused
returns-in-Ok-clause-refused g c =
    checked_refused g.D.Disk c.args.text.now c.in-Ok.proved c.in-Ok.ensures.spelled c.learn_checked.ensures.good c.args.disk c.learn_checked.result.0 c.learn_checked.result.1 c.learn_checked.ensures.refused

pub returns-in-Ok-clause-accepted : goal.returns-in-Ok-clause-accepted
returns-in-Ok-clause-accepted g c =
    checked_accepted g.D.Disk c.args.text.now c.in-Ok.proved c.in-Ok.ensures.spelled c.learn_checked.ensures.good c.args.disk c.learn_checked.result.0 c.learn_checked.result.1 c.learn_checked.ensures.refused

pub returns-in-Ok-clause-taught : goal.returns-in-Ok-clause-taught
returns-in-Ok-clause-taught g c =
    checked_taught g.D.Disk c.args.text.now c.in-Ok.proved c.in-Ok.ensures.spelled c.learn_checked.ensures.good c.args.disk c.learn_checked.result.0 c.learn_checked.result.1 c.learn_checked.ensures.causes

pub returns-in-Ok-clause-unused : goal.returns-in-Ok-clause-unused
returns-in-Ok-clause-unused g c =
    checked_unused g.D.Disk c.args.text.now c.in-Ok.proved c.in-Ok.ensures.spelled c.learn_checked.ensures.good c.args.disk c.learn_checked.result.0 c.learn_checked.result.1 c.learn_checked.ensures.refused

pub returns-in-Err-clause-refused : goal.returns-in-Err-clause-refused
returns-in-Err-clause-refused g c = unchecked_refused g.D.Disk c.args.text.now c.args.disk c.in-Err.refusal c.in-Err.ensures.refused

pub returns-in-Err-clause-accepted : goal.returns-in-Err-clause-accepted
returns-in-Err-clause-accepted g c = unchecked_accepted g.D.Disk c.args.text.now c.args.disk c.in-Err.refusal c.in-Err.ensures.accepted

pub returns-in-Err-clause-taught : goal.returns-in-Err-clause-taught
returns-in-Err-clause-taught g c = unchecked_taught g.D.Disk c.args.text.now c.args.disk c.in-Err.refusal _ c.in-Err.ensures.accepted
