use Rattle.std.proofs.Common.{◌≡◌, ◌++◌, ◌+◌, drop}
use Rattle.page_text.specs.Markup.{markup_text}
use Rattle.page_text.specs.Roots.{root_rows}
use Rattle.page_text.proofs.roots.push_rows.Given as goal

abbrev pub invariant-loop-i : goal.invariant-loop-i
invariant-loop-i l = l.text.items ++ markup_text (root_rows l.most (1 + l.i) (drop l.i l.roots)) ≡ l.initial.text.items ++ markup_text (root_rows l.most 1 l.roots)
