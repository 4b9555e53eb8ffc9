-- How much work was spent in the tree of a root.
use Rattle.std.specs.Prelude.{ℕ, ◌+◌, List, count_by}
use Rattle.proof_tree.specs.Forest.{Forest, no_node, node, Node}
use Rattle.tree_census.specs.Censuses.{tree_of}
use Rattle.bench_records.specs.declared.records.BenchRecord.{BenchRecord}
use Rattle.bench_core.specs.Records.{is_work_on}

-- what the nodes of these trees weigh together, each by its number
abbrev pub weight_of : (ℕ → ℕ) → Forest → ℕ
weight_of weight no_node = 0
weight_of weight (node own children others) =
    weight own.number + weight_of weight children + weight_of weight others

-- how many work records are of the node with this number
abbrev pub work_on : List BenchRecord → ℕ → ℕ
work_on records n = count_by (is_work_on n) records

-- how many are of nodes of a root's tree
abbrev pub work_in : List BenchRecord → Node → ℕ
work_in records root = weight_of (work_on records) (tree_of root)
