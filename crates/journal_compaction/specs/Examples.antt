-- Worked examples, one a field: what stands for single records, behind records that made two forests of two roots.
use Rattle.std.specs.Prelude.{◌≡◌, ℕ, false, List, [], ◌∷◌, Some, None}
use Rattle.draughts_board.specs.Board.{Board}
use Rattle.draughts_board.specs.Examples.{man_to_block, men}
use Rattle.draughts_board.specs.Rules.{after}
use Rattle.draughts_board.specs.declared.pieces.Side.TheVariants.{White}
use Rattle.draughts_board.specs.declared.pieces.Value.TheVariants.{WhiteWins}
use Rattle.strategy_certificate.specs.declared.certificates.Certificate.{Certificate}
use Rattle.strategy_certificate.specs.declared.certificates.Part.TheVariants as part
use Rattle.strategy_certificate.specs.declared.claims.Claim.TheVariants.{Win}
use Rattle.strategy_certificate.specs.Examples.{win_in_one}
use Rattle.proof_numbers.specs.Known.{Known, nothing_known, win_known}
use Rattle.proof_tree.specs.declared.rows.Mark.{Mark}
use Rattle.proof_tree.specs.declared.rows.Mark.TheVariants.{Unexpanded, Expanded}
use Rattle.proof_tree.specs.Forest.{Own, Forest, no_node, node}
use Rattle.bench_records.specs.declared.records.BenchRecord.{BenchRecord}
use Rattle.bench_records.specs.declared.records.BenchRecord.TheVariants.{Begin, Solve, Expand}
use Rattle.journal_compaction.specs.Compactions.{StandsFor, StandsForBegin, end_in}
use Rattle.journal_compaction.specs.Places.{number_at}

abbrev pub own_of : ℕ → Board → Known → Mark → Own
own_of n p facts mark = record { number = n; position = p; facts = facts; mark = mark }

-- an unexpanded node before others
abbrev pub leaf : ℕ → Board → Known → Forest → Forest
leaf n p facts others = node (own_of n p facts Unexpanded) no_node others

-- W:W25:B10,17, of which nothing is known
abbrev pub open_root : Board
open_root = men White (25 ∷ []) (10 ∷ 17 ∷ [])

-- The old list began two roots and expanded both. Of the first, W:W16,23:B12, White wins at sight after 23-19.
abbrev pub below_first : Forest
below_first =
    leaf 1 (after man_to_block (16 ∷ 11 ∷ [])) nothing_known
    (leaf 2 (after man_to_block (23 ∷ 18 ∷ [])) nothing_known
    (leaf 3 (after man_to_block (23 ∷ 19 ∷ [])) (win_known White) no_node))

-- two unexpanded nodes, numbered from n on
abbrev pub below_second : ℕ → ℕ → Forest
below_second n m =
    leaf n (after open_root (25 ∷ 21 ∷ [])) nothing_known
    (leaf m (after open_root (25 ∷ 22 ∷ [])) nothing_known no_node)

abbrev pub old_forest : Forest
old_forest =
    node (own_of 0 man_to_block nothing_known Expanded) below_first
    (node (own_of 4 open_root nothing_known Expanded) (below_second 5 6) no_node)

-- in the new list the first root is solved in place of being expanded
abbrev pub new_forest : Forest
new_forest =
    leaf 0 man_to_block (win_known White)
    (node (own_of 1 open_root nothing_known Expanded) (below_second 2 3) no_node)

abbrev pub Stands : BenchRecord → List BenchRecord → Type 0
Stands r made = StandsFor 2 (end_in old_forest) old_forest new_forest r made

-- White's win in one
abbrev pub win_shown : Certificate
win_shown =
    record { position = man_to_block; claim = Win White; pieces = 2; parts = part.Win win_in_one ∷ [] }

pub record WorkedCompactions : Type 0 where
  -- Node 6 of the old forest is the second child of the second root, where the new one has node 3.
  pub old_place : number_at 1 (1 ∷ []) old_forest ≡ Some 6
  pub new_place : number_at 1 (1 ∷ []) new_forest ≡ Some 3
  -- The first root is settled by its last child, and the second one is not.
  pub first : end_in old_forest 0 ≡ Some WhiteWins
  pub second : end_in old_forest 1 ≡ None
  -- So a record of node 2 is left out, and one of node 6 becomes one of node 3.
  pub dropped : Stands (Expand 2) []
  pub renumbered : Stands (Expand 6) (Expand 3 ∷ [])
  -- It is wrong to copy the first, to leave out the second, or to keep its number.
  pub copied : ¬ Stands (Expand 2) (Expand 2 ∷ [])
  pub left_out : ¬ Stands (Expand 6) []
  pub same_number : ¬ Stands (Expand 6) (Expand 6 ∷ [])
  -- Behind the Begin of the root that is settled stands one Solve of it, and not none.
  pub solved : StandsForBegin (Some WhiteWins) false 0 man_to_block
      (Begin man_to_block ∷ Solve 0 man_to_block (win_shown ∷ []) ∷ [])
  pub unsolved : ¬ StandsForBegin (Some WhiteWins) false 0 man_to_block (Begin man_to_block ∷ [])
