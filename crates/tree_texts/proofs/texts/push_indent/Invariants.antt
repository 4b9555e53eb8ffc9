use Rattle.std.proofs.Common.{◌≡◌, ◌++◌, ◌-◌}
use Rattle.tree_texts.specs.TreeTexts.{indent}
use Rattle.tree_texts.proofs.texts.push_indent.Given as goal

abbrev pub invariant-loop : goal.invariant-loop
invariant-loop l = l.text.items ++ indent (l.depth - l.counter) ≡ l.initial.text.items ++ indent l.depth
