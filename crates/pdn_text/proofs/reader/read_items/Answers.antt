use Rattle.std.proofs.Common.{arith}
use Rattle.std.proofs.lemmas.Result.{err_from_is_err_and}
use Rattle.pdn_text.specs.Gathering.{progress}
use Rattle.pdn_text.proofs.Reached.{reached_beginning, reached_run, reached_skip, reached_sign, reads_all, refused_here, refused_many}
use Rattle.pdn_text.proofs.reader.read_items.Goals as goal

pub loop-at-init : goal.loop-at-init
loop-at-init c =
    reached_run c.args.text.now c.beginning-first.result c.behind_skipped-at.result (progress c.new-gathered.result) c.behind_skipped-at.ensures.value
    (rw c.beginning-first.ensures.value (reached_beginning c.args.text.now (progress c.new-gathered.result) c.new-gathered.ensures (rw (← c.beginning-first.ensures.value) c.beginning-first.ensures.inside)))

pub returns-in_err-end-clause-refused : goal.returns-in_err-end-clause-refused
returns-in_err-end-clause-refused c =
    let p = err_from_is_err_and c.from_residual.result c.from_residual.ensures.1 in
    let here = refused_here c.args.text.now c.loop-at.at (progress c.loop-at.gathered) c.in_err-end.field-0.0 c.loop-at.invariant c.loop-at-test.true c.in_err-end.ensures.exact.fault in
    rw (p.1, p.2) here

pub take-requires : goal.take-requires
take-requires c = c.loop-at.invariant.few

pub returns-in_err-take-in-Some-clause-refused : goal.returns-in_err-take-in-Some-clause-refused
returns-in_err-take-in-Some-clause-refused c =
    let p = err_from_is_err_and c.from_residual-in_err-take-in-Some.result c.from_residual-in_err-take-in-Some.ensures.1 in
    let here = refused_many c.args.text.now c.loop-at.at (progress c.loop-at.gathered) c.in_ok-end.field-0 c.in-Some.sign c.in_err-take-in-Some.field-0.0 c.loop-at.invariant c.in_ok-end.ensures.exact.good c.in-Some.is c.in_err-take-in-Some.ensures.err in
    rw (p.1, p.2) here

pub loop-at-preserved-in_ok-take-in-Some : goal.loop-at-preserved-in_ok-take-in-Some
loop-at-preserved-in_ok-take-in-Some c =
    reached_run c.args.text.now c.in_ok-end.field-0.end c.behind_skipped-next.result (progress c.take.new.self) c.behind_skipped-next.ensures.value (
    reached_sign c.args.text.now c.loop-at.at (progress c.loop-at.gathered) (progress c.take.new.self) c.in_ok-end.field-0 c.in-Some.sign c.loop-at.invariant c.in_ok-end.ensures.exact.good c.in-Some.is
    c.in_ok-take-in-Some.ensures.ok c.in_ok-take-in-Some.ensures.few c.in_ok-end.ensures.inside)

pub loop-at-preserved : goal.loop-at-preserved
loop-at-preserved c =
    reached_run c.args.text.now c.in_ok-end.field-0.end c.behind_skipped-next.result (progress c.loop-at.gathered) c.behind_skipped-next.ensures.value
    (reached_skip c.args.text.now c.loop-at.at (progress c.loop-at.gathered) c.in_ok-end.field-0 c.loop-at.invariant c.in_ok-end.ensures.exact.good c.in-None.is c.in_ok-end.ensures.inside)

pub returns-clause-games : goal.returns-clause-games
returns-clause-games c =
    reads_all c.args.text.now c.loop-at.at (progress c.loop-at.gathered) c.in_ok-finish.field-0.items c.loop-at.invariant (omega arith) c.in_ok-finish.ensures
