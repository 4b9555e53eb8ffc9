use Rattle.bench_commands.proofs.RootLemmas.{first_places_added}
use Rattle.bench_commands.proofs.commands.solve.distinct_positions.Goals as goal

pub loop-opening-preserved : goal.loop-opening-preserved
loop-opening-preserved c =
    first_places_added c.loop-opening.positions c.add.new.self c.args.openings.now c.loop-opening.opening-index c.opening-item.result
    c.loop-opening-test.true c.opening-item.is c.loop-opening.invariant c.in_ok-add.ensures.ok
