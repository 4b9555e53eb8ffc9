use Rattle.std.proofs.Common.{◌≡◌, ◌≤◌, ◌+◌, ◌-◌, vec_len, length}
use Rattle.std.specs.Io.KnownBytes.{Consumes}
use Rattle.bench_edges.proofs.source.read_to_limit.Given as goal

abbrev pub invariant-loop-bytes : goal.invariant-loop-bytes
invariant-loop-bytes g l = record {
  within : length l.bytes.items ≤ l.limit + 1;
  read : Consumes (g.S.Source.left l.initial.source) (g.S.Source.left l.source) l.bytes.items;
  count : g.S.Source.faults l.source ≡ g.S.Source.faults l.initial.source;
}

abbrev pub decreases-loop-bytes : goal.decreases-loop-bytes
decreases-loop-bytes g l = l.limit + 1 - vec_len l.bytes
