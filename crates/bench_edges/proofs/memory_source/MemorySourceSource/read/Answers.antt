use Rattle.std.proofs.Common.{◌≡◌, drop, take, length, ◌-◌, ap, arith}
use Rattle.std.proofs.lemmas.Grind.{common_steps}
use Rattle.bench_edges.specs.MemorySource.{Supply}
use Rattle.bench_edges.proofs.KnownBytes.{front-and-rest}
use Rattle.bench_edges.proofs.memory_source.MemorySourceSource.read.Goals as goal

pub returns-clause-moved : goal.returns-clause-moved
returns-clause-moved c =
    let bytes = c.self.inside.bytes.items in
    let at = c.self.inside.at in
    let count = c.min-count.result in
    let left : drop at bytes ≡ c.args.self.now.left = ap (λ (s : Supply). s.left) c.self.view_is in
    let copied : c.copy_from_slice.new.self ≡ take count (take (length bytes - at) (drop at bytes)) = grind (arith, common_steps) in
    front-and-rest bytes c.args.self.now.left c.copy_from_slice.new.self (drop count c.args.into.now) at count left copied (grind arith) (grind (arith, common_steps))
