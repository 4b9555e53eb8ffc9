-- Laws over the definitions.
use Rattle.std.specs.Prelude.{◌≡◌, ◌↔◌, true, false, ◌&&◌, All, IsSome, None}
use Rattle.draughts_board.specs.declared.pieces.Side.TheVariants.{Black, White}
use Rattle.proof_numbers.specs.Numbers.{is_resolved}
use Rattle.proof_tree.specs.Forest.{Forest, Node, nodes, node_numbers, value_of}
use Rattle.proof_tree.specs.Picking.{pick}
use Rattle.proof_tree.specs.Sound.{IsSoundForest}

-- Where nothing is taken and there is still no leaf to work on, every root has its value.
abbrev pub UnsettledRootsAreOpen : Type 0
UnsettledRootsAreOpen =
    (roots : Forest) → pick (λ n. false) roots ≡ None
    → All (λ root. IsSome (value_of root)) (nodes roots)

-- it has a value exactly where it is resolved for both goals
abbrev pub IsSettledWhereResolved : Node → Type 0
IsSettledWhereResolved root =
    IsSome (value_of root)
    ↔ ((is_resolved (node_numbers Black root) && is_resolved (node_numbers White root)) ≡ true)

-- In every sound forest this holds of every root.
abbrev pub SettledRootsAreResolved : Type 0
SettledRootsAreResolved =
    (roots : Forest) → IsSoundForest roots → All IsSettledWhereResolved (nodes roots)
