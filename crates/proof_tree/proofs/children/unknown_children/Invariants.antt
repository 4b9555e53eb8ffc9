use Rattle.std.proofs.Common.{◌≡◌, map, take}
use Rattle.std.specs.Prelude.{All}
use Rattle.proof_numbers.specs.Facts.{known}
use Rattle.proof_numbers.specs.Known.{nothing_known}
use Rattle.proof_tree.proofs.children.unknown_children.Given as goal

abbrev pub invariant-loop-q : goal.invariant-loop-q
invariant-loop-q l = record {
  positions : map (λ child. child.position) l.children.items ≡ take l.q-index l.q-items;
  unknown : All (λ child. known child.facts ≡ nothing_known) l.children.items;
}
