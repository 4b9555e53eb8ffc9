use Rattle.std.specs.Prelude.{refl}
use Rattle.memory_file.proofs.FileLemmas.{file_looked}
use Rattle.memory_file.proofs.held.MemoryFileFileHandle.sync_folder.Goals as goal

pub returns-clause-looks : goal.returns-clause-looks
returns-clause-looks c = λ _. file_looked _ _ refl refl refl (λ e. refl) refl
