use Rattle.std.proofs.Common.{List, ℕ, ◌≤◌, ◌+◌, ◌++◌, length, arith}
use Rattle.std.proofs.lemmas.Grind.{common_steps}
use Rattle.std.specs.Io.KnownBytes.{Consumes}
use Rattle.bench_edges.proofs.KnownBytes.{Consumes-append, OnErr-always}
use Rattle.bench_edges.proofs.source.read_to_limit.Goals as goal

pub returns-in_err-read_more-clause-front : goal.returns-in_err-read_more-clause-front
returns-in_err-read_more-clause-front g c =
    let lost = c.in_err-read_more.ensures.lost in
    let front : (front : List ℕ) × (length front ≤ c.args.limit + 1) × Consumes (g.S.Source.left c.args.source.now) (g.S.Source.left c.read_more.new.source) front =
    (c.loop-bytes.bytes.items ++ lost.0, grind (arith, common_steps), Consumes-append _ _ _ _ _ c.loop-bytes.invariant.read lost.2) in
    OnErr-always _ _ front
