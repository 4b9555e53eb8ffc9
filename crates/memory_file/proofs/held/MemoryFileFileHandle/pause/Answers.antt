use Rattle.std.specs.Prelude.{refl}
use Rattle.memory_file.proofs.FileLemmas.{file_paused}
use Rattle.memory_file.proofs.held.MemoryFileFileHandle.pause.Goals as goal

pub returns : goal.returns
returns c = record { pauses = λ _. file_paused _ _ refl refl refl (λ e. e) refl }
