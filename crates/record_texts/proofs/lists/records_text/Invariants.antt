use Rattle.std.proofs.Common.{◌≡◌, ◌≤◌, ◌+◌, ◌++◌, [], drop, take}
use Rattle.bench_records.specs.Texts.{named_in}
use Rattle.record_texts.specs.Lists.{record_lines}
use Rattle.record_texts.proofs.lists.records_text.Given as goal

abbrev pub invariant-loop-i : goal.invariant-loop-i
invariant-loop-i l =
    (l.known ≡ named_in [] (take l.i l.bench.records))
    × ((l.begun ≤ l.i)
    × (l.text.items ++ record_lines l.json l.bench.state.forest (l.i + 1) l.begun (drop l.i l.bench.records) ≡ record_lines l.json l.bench.state.forest 1 0 l.bench.records))
