use Rattle.std.proofs.Common.{rules, subst}
use Rattle.std.specs.Prelude.{IsTrue}
use Rattle.proof_tree.specs.Forest.{Forest}
use Rattle.proof_tree.specs.Sound.{root_positions}
use Rattle.bench_core.specs.Growing.{MayBegin}
use Rattle.bench_core.proofs.ReplayLemmas.{begin_replayed}
use Rattle.bench_core.proofs.replaying.replay_begin.Goals as goal

pub returns-clause-ok : goal.returns-clause-ok
returns-clause-ok g c =
    let yes : IsTrue c.may_begin.result = search rules in
    let may = subst (λ (f : Forest). MayBegin c.args.p (root_positions f)) c.tree.ensures.forest (c.may_begin.ensures.0 yes) in
    begin_replayed c.args.grown.now c.reserve.new.self c.begin.new.self c.reserve.ensures.forest c.reserve.ensures.records
    (g.O.Oracle.piece_limit c.args.oracle.now) c.args.p c.in_ok-root.root may c.in_ok-root.ensures.position c.in_ok-root.ensures.facts c.begin.ensures.forest c.begin.ensures.records
