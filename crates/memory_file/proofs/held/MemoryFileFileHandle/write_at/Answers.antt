use Rattle.std.specs.Prelude.{refl}
use Rattle.std.proofs.Common.{rules, ◌∙◌, ◌≤◌, length}
use Rattle.memory_file.proofs.FileLemmas.{file_not_written, file_wrote}
use Rattle.memory_file.proofs.held.MemoryFileFileHandle.write_at.Goals as goal

pub returns-in-Ok-clause-writes : goal.returns-in-Ok-clause-writes
returns-in-Ok-clause-writes c = λ _.
    let kept = c.in-Ok.ensures.ok in
    let fits : length kept.0.items ≤ length c.args.from.now = search rules in
    file_wrote _ _ c.args.at kept.0 kept.0.items _ refl fits c.in-Ok.ensures.start kept.2 c.in-Ok.ensures.moment (λ e. c.in-Ok.ensures.entered ∙ e)

pub returns-in-Err-clause-writes : goal.returns-in-Err-clause-writes
returns-in-Err-clause-writes c = λ _.
    file_not_written _ _ c.in-Err.ensures.start c.in-Err.ensures.err.0 c.in-Err.ensures.err.1 (λ e. c.in-Err.ensures.entered ∙ e) c.in-Err.ensures.moment c.args.at _
