use Rattle.std.proofs.Common.{◌≡◌, drop}
use Rattle.std.specs.Prelude.{max}
use Rattle.page_text.specs.Roots.{most_work}
use Rattle.page_text.proofs.roots.most_work.Given as goal

abbrev pub invariant-loop-root : goal.invariant-loop-root
invariant-loop-root l = max l.most (most_work (drop l.root-index l.roots)) ≡ most_work l.roots
