use Rattle.std.proofs.Common.{◌≡◌, false, take}
use Rattle.std.specs.Prelude.{All}
use Rattle.proof_tree.specs.Forest.{nodes}
use Rattle.certificate_joiner.specs.Strategy.{is_due, named}
use Rattle.certificate_joiner.proofs.collecting.due_child.Given as goal

abbrev pub invariant-loop-i : goal.invariant-loop-i
invariant-loop-i l = All (λ x. is_due l.quest.aim l.quest.side x ≡ false) (take l.i (nodes (named l.tree.forest l.n).children))
