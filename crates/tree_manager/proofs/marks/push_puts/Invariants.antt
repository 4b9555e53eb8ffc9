use Rattle.std.proofs.Common.{◌≡◌, ◌++◌, map, take}
use Rattle.tree_manager.specs.declared.marks.Mark.TheVariants.{Put}
use Rattle.tree_manager.proofs.marks.push_puts.Given as goal

abbrev pub invariant-loop : goal.invariant-loop
invariant-loop l = l.marks ≡ l.fn.marks ++ map (λ _. Put) (take l.index l.added)
