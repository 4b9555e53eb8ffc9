-- What applying one staged record needs of a tree and a table, and what it leaves of them. Nobody
-- has to believe it.
use Rattle.std.specs.Prelude.{◌≡◌, ◌≤◌, ◌<◌, ◌+◌, ℕ, true, [], ◌∷◌, ◌++◌, Contains, map, length, IfSome, IsSomeAnd}
use Rattle.draughts_board.specs.Play.{successors_of}
use Rattle.proof_numbers.specs.Facts.{known}
use Rattle.proof_numbers.specs.Known.{joined, IsConsistent}
use Rattle.proof_tree.specs.declared.rows.Mark.TheVariants.{Unexpanded}
use Rattle.proof_tree.specs.Forest.{Forest, nodes, node_at}
use Rattle.proof_tree.specs.Changes.{with_root, with_facts, with_children}
use Rattle.proof_tree.specs.Sound.{root_positions}
use Rattle.lease_table.specs.Rows.{LeaseRows, is_live, without}
use Rattle.bench_core.specs.declared.staged.Staged.{Staged}
use Rattle.bench_core.specs.declared.staged.Staged.TheVariants.{Begin, Solve, Expand}
use Rattle.bench_core.specs.Grown.{GrownState}
use Rattle.bench_core.specs.Benches.{record_staged, nodes_made}
use Rattle.proof_tree.specs.declared.tree.TheConstants.{MOST_ROOTS}

abbrev pub forest_after : Staged → Forest → Forest
forest_after (Begin child) roots = with_root child.position (known child.facts) roots
forest_after (Solve lease n p facts shown) roots = with_facts n (known facts) roots
forest_after (Expand lease n children) roots = with_children n children roots

abbrev pub leases_after : Staged → LeaseRows → LeaseRows
leases_after (Begin child) t = t
leases_after (Solve lease n p facts shown) t = record t { rows = without lease t.rows }
leases_after (Expand lease n children) t = record t { rows = without lease t.rows }

abbrev pub CanApply : GrownState → LeaseRows → ℕ → Staged → Type 0
CanApply grown t given (Begin child) =
    (¬ Contains (root_positions grown.forest) child.position)
    × ((length (nodes grown.forest) < MOST_ROOTS) × ((1 ≤ grown.nodes) × (1 ≤ grown.room)))
CanApply grown t given (Solve lease n p facts shown) =
    IsSomeAnd (node_at n grown.forest) (λ x. x.own.mark ≡ Unexpanded)
    × (IfSome (node_at n grown.forest) (λ x. IsConsistent (joined x.own.facts (known facts)))
    × ((1 ≤ grown.room) × (is_live t lease given ≡ true)))
CanApply grown t given (Expand lease n children) =
    IsSomeAnd (node_at n grown.forest) (λ x. x.own.mark ≡ Unexpanded)
    × (IfSome (node_at n grown.forest) (λ x.
    map (λ child. child.position) children ≡ successors_of x.own.position)
    × ((length children ≤ grown.nodes) × ((1 ≤ grown.room) × (is_live t lease given ≡ true))))

pub record HasApplied (item : Staged) (old new : GrownState) : Type 0 where
  pub forest : new.forest ≡ forest_after item old.forest
  pub added : new.records ≡ old.records ++ record_staged item ∷ []
  pub nodes : old.nodes ≤ new.nodes + nodes_made item
  pub room : old.room ≤ new.room + 1
