use Rattle.std.proofs.Common.{◌≡◌, ◌<◌, [], ℕ, get_or, length, take}
use Rattle.bench_records.specs.Texts.{named_in}
use Rattle.proof_tree.specs.Forest.{size}
use Rattle.root_work.specs.Work.{work_on}
use Rattle.root_work.proofs.nodes.work_of_nodes.Given as goal

abbrev pub invariant-loop-i : goal.invariant-loop-i
invariant-loop-i l =
    (l.known ≡ named_in [] (take l.i l.bench.records))
    × ((length l.counts.items ≡ size l.bench.state.forest)
    × ((n : ℕ) → n < length l.counts.items → get_or l.counts.items n 0 ≡ work_on (take l.i l.bench.records) n))
