-- What adding a root, learning facts and expanding a node make of a forest.
use Rattle.std.specs.Prelude.{ℕ, suc, Bool, true, false, List, [], ◌∷◌, if◌then◌else◌, ◌==◌}
use Rattle.draughts_board.specs.Board.{Board, same_board}
use Rattle.proof_numbers.specs.declared.leaves.Child.{Child}
use Rattle.proof_numbers.specs.Known.{Known, joined}
use Rattle.proof_numbers.specs.Facts.{known}
use Rattle.proof_tree.specs.declared.rows.Mark.TheVariants.{Unexpanded, Expanded, Repeats}
use Rattle.proof_tree.specs.Forest.{Own, Forest, no_node, node, Node, forest, size}

-- the lists of nodes, one behind the other
abbrev pub appended : Forest → Forest → Forest
appended no_node more = more
appended (node own children others) more = node own children (appended others more)

-- with one root more, which gets the next number
abbrev pub with_root : Board → Known → Forest → Forest
with_root p facts roots =
    appended roots
    (node
    (record { number = size roots; position = p; facts = facts; mark = Unexpanded })
    no_node no_node)

-- each node's own changed so
abbrev pub changed : (Own → Own) → Forest → Forest
changed f no_node = no_node
changed f (node own children others) = node (f own) (changed f children) (changed f others)

-- node n knows these facts too
abbrev pub learn : ℕ → Known → Own → Own
learn n facts own = (if own.number == n then record own { facts = joined own.facts facts } else own)

-- with these facts added to those of node n
abbrev pub with_facts : ℕ → Known → Forest → Forest
with_facts n facts = changed (learn n facts)

-- the position stands in the list
abbrev pub stands_on : List Board → Board → Bool
stands_on [] p = false
stands_on (q ∷ path) p = (if same_board q p then true else stands_on path p)

-- New nodes below the path, numbered from `next` on. Such a node repeats where its position stands
-- on the path.
abbrev pub new_nodes : List Board → ℕ → List Child → List Node
new_nodes path next [] = []
new_nodes path next (child ∷ more) =
    record {
      own = record {
        number = next;
        position = child.position;
        facts = known child.facts;
        mark = (if stands_on path child.position then Repeats else Unexpanded);
      };
      children = no_node;
    }
    ∷ new_nodes path (suc next) more

-- node n is expanded
abbrev pub expand_own : ℕ → Own → Own
expand_own n own = (if own.number == n then record own { mark = Expanded } else own)

-- with these children at node n, numbered from `next` on, in a list of nodes below the path
abbrev pub expanded : ℕ → List Child → ℕ → List Board → Forest → Forest
expanded n children next path no_node = no_node
expanded n children next path (node own below others) =
    node (expand_own n own)
    (if own.number == n
    then forest (new_nodes (own.position ∷ path) next children)
    else expanded n children next (own.position ∷ path) below)
    (expanded n children next path others)

-- with these children at node n, which get the next numbers in order
abbrev pub with_children : ℕ → List Child → Forest → Forest
with_children n children roots = expanded n children (size roots) [] roots
