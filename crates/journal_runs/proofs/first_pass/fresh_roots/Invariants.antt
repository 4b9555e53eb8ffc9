use Rattle.std.proofs.Common.{◌≡◌, ◌≤◌, take}
use Rattle.std.specs.Prelude.{count_by, is_some, not}
use Rattle.std.specs.List.{AllByRecursion as Each}
use Rattle.proof_tree.specs.Forest.{nodes, value_of}
use Rattle.journal_runs.specs.Ample.{IsSettledOrFresh}
use Rattle.journal_runs.proofs.first_pass.fresh_roots.Given as goal

abbrev pub invariant-loop-place : goal.invariant-loop-place
invariant-loop-place l = record {
  few : l.fresh ≤ l.place;
  all : Each IsSettledOrFresh (nodes l.tree.forest) → l.fresh ≡ count_by (λ root. not (is_some (value_of root))) (take l.place (nodes l.tree.forest));
}
