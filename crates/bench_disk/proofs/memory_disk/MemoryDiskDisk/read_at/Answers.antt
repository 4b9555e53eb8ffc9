use Rattle.std.specs.Prelude.{refl}
use Rattle.std.proofs.Common.{rules, ◌≡◌, ◌++◌, [], ◌∷◌}
use Rattle.bench_disk.specs.declared.call.Call.TheVariants.{Look}
use Rattle.bench_disk.proofs.CallLemmas.{looked, not_looked}
use Rattle.bench_disk.proofs.memory_disk.MemoryDiskDisk.read_at.Goals as goal

pub returns-then-is_err-clause-looks : goal.returns-then-is_err-clause-looks
returns-then-is_err-clause-looks c = λ _. let e : c.push.new.self.items ≡ c.args.self.now.calls.items = search rules in not_looked _ _ refl e refl

pub returns-then-at-len-clause-looks : goal.returns-then-at-len-clause-looks
returns-then-at-len-clause-looks c = λ _. let e : c.push.new.self.items ≡ c.args.self.now.calls.items ++ Look ∷ [] = search rules in looked _ _ refl e refl

pub returns-clause-looks : goal.returns-clause-looks
returns-clause-looks c = λ _. let e : c.push.new.self.items ≡ c.args.self.now.calls.items ++ Look ∷ [] = search rules in looked _ _ refl e refl
