use Rattle.std.specs.Prelude.{refl}
use Rattle.memory_file.proofs.FileLemmas.{file_looked}
use Rattle.memory_file.proofs.held.MemoryFileFileHandle.read_at.Goals as goal

pub returns-then-at-len-clause-looks : goal.returns-then-at-len-clause-looks
returns-then-at-len-clause-looks c = λ _. file_looked _ _ refl refl refl (λ e. e) refl

pub returns-clause-looks : goal.returns-clause-looks
returns-clause-looks c = λ _. file_looked _ _ refl refl refl (λ e. e) refl
