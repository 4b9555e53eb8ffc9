use Rattle.std.proofs.Common.{◌≡◌, map, take}
use Rattle.proof_tree.specs.Forest.{nodes}
use Rattle.root_work.specs.Work.{work_in}
use Rattle.root_work.proofs.roots.work_of_roots.Given as goal

abbrev pub invariant-loop-place : goal.invariant-loop-place
invariant-loop-place l = l.work.items ≡ take l.place (map (work_in l.bench.records) (nodes l.bench.state.forest))
