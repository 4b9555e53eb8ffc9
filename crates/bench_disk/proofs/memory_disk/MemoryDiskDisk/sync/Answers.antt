use Rattle.std.specs.Prelude.{refl}
use Rattle.std.proofs.Common.{rules, ◌≡◌, ◌++◌, [], ◌∷◌}
use Rattle.bench_disk.specs.declared.call.Call.TheVariants.{Sync}
use Rattle.bench_disk.proofs.CallLemmas.{synced, not_synced}
use Rattle.bench_disk.proofs.memory_disk.MemoryDiskDisk.sync.Goals as goal

pub returns-then-is_err-clause-syncs : goal.returns-then-is_err-clause-syncs
returns-then-is_err-clause-syncs c = λ _. let e : c.push.new.self.items ≡ c.args.self.now.calls.items = search rules in not_synced _ _ refl e refl

pub returns-clause-syncs : goal.returns-clause-syncs
returns-clause-syncs c = λ _. let e : c.push.new.self.items ≡ c.args.self.now.calls.items ++ Sync ∷ [] = search rules in synced _ _ refl e refl
