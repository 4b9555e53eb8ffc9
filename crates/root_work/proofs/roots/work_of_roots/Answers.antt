use Rattle.std.proofs.Common.{rules, ◌≡◌, ◌<◌, ◌∙◌, length, subst, arith}
use Rattle.proof_tree.specs.Forest.{Forest, nodes}
use Rattle.record_reading.proofs.Readings.{as_many_records}
use Rattle.root_work.specs.Work.{work_in}
use Rattle.root_work.proofs.Sums.{works_more}
use Rattle.root_work.proofs.roots.work_of_roots.Goals as goal

pub work_of_root-requires-clause-few : goal.work_of_root-requires-clause-few
work_of_root-requires-clause-few c =
    let many = as_many_records c.args.pieces c.args.bench.now.records c.args.payloads.now c.requires in
    let bound : length c.args.payloads.now < 18446744073709551616 = search rules in
    omega (arith, many, bound)

pub loop-place-preserved : goal.loop-place-preserved
loop-place-preserved c =
    let roots = c.args.bench.now.state.forest in
    let many = subst (λ (f : Forest). c.roots-place-end.result ≡ length (nodes f)) c.tree.ensures.forest c.roots-place-end.ensures.value in
    let within : c.loop-place.place < length (nodes roots) = omega (arith, c.loop-place-test.true, many) in
    c.in_ok-push.ensures.items ∙ works_more (work_in c.args.bench.now.records) roots c.loop-place.work.items c.loop-place.place c.in_ok-spent.spent within c.loop-place.invariant c.in_ok-spent.ensures
