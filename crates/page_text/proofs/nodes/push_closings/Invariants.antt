use Rattle.std.proofs.Common.{◌≡◌, ◌++◌, ◌-◌}
use Rattle.page_text.specs.Nodes.{closings}
use Rattle.page_text.proofs.nodes.push_closings.Given as goal

abbrev pub invariant-loop : goal.invariant-loop
invariant-loop l = l.text.items ++ closings (l.count - l.counter) ≡ l.initial.text.items ++ closings l.count
