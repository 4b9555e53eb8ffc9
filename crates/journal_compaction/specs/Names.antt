-- How the nodes of a longer list's forest stand to those of the shorter list's. Nobody has to believe it.
use Rattle.std.specs.Prelude.{◌≡◌, ◌<◌, ◌+◌, ◌⊎◌, ℕ, zero, suc, true, List, [], ◌∷◌, length, slice_get, Option, Some, None}
use Rattle.draughts_board.specs.Board.{Board}
use Rattle.draughts_board.specs.Draughts.{draughts}
use Rattle.draughts_board.specs.Game.{is_at_sight}
use Rattle.draughts_board.specs.declared.pieces.Value.{Value}
use Rattle.proof_numbers.specs.Known.{Known, value_known}
use Rattle.proof_numbers.specs.Sight.{AreFactsAtSight}
use Rattle.proof_tree.specs.declared.rows.Mark.TheVariants.{Unexpanded}
use Rattle.proof_tree.specs.Forest.{Own, Forest, no_node, node, size}

-- of each node of the old forest its number in the new one, or that it has none there
abbrev pub Names : Type 0
Names = List (Option ℕ)

abbrev pub IsNamed : Names → ℕ → ℕ → Type 0
IsNamed names n m = slice_get names n ≡ Some (Some m)

abbrev pub IsUnnamed : Names → ℕ → Type 0
IsUnnamed names n = slice_get names n ≡ Some None

-- all but the number is the same
pub record IsSame (a b : Own) : Type 0 where
  pub position : a.position ≡ b.position
  pub facts : a.facts ≡ b.facts
  pub mark : a.mark ≡ b.mark

-- the same nodes in the same places, by their names
abbrev pub AreAlike : Names → Forest → Forest → Type 0
AreAlike names no_node no_node = Unit {0}
AreAlike names no_node (node b under more) = ⊥
AreAlike names (node a below others) no_node = ⊥
AreAlike names (node a below others) (node b under more) =
    (IsNamed names a.number b.number × IsSame a b) × (AreAlike names below under × AreAlike names others more)

-- no node has a name
abbrev pub AreUnnamed : Names → Forest → Type 0
AreUnnamed names no_node = Unit {0}
AreUnnamed names (node a below others) =
    IsUnnamed names a.number × (AreUnnamed names below × AreUnnamed names others)

-- what a root knows that stands for a settled one: its value, or what is seen at sight
abbrev pub IsDecidedBy : ℕ → Value → Board → Known → Type 0
IsDecidedBy k v p facts =
    (facts ≡ value_known v) ⊎ ((is_at_sight draughts k p ≡ true) × AreFactsAtSight k p facts)

-- root b, an unexpanded one, stands for root a with the nodes below it, which have no names
pub record StandsForSettled (k : ℕ) (names : Names) (count : ℕ) (v : Value) (a : Own) (below : Forest) (b : Own)
    (under : Forest) : Type 0 where
  pub position : a.position ≡ b.position
  pub dropped : IsUnnamed names a.number
  pub dropped_below : AreUnnamed names below
  pub unexpanded : b.mark ≡ Unexpanded
  pub alone : under ≡ no_node
  pub decided : IsDecidedBy k v b.position b.facts
  pub low : b.number < count
  pub own : (n : ℕ) → ¬ IsNamed names n b.number

-- by the value that the root has in the end
abbrev pub IsRootAlike : ℕ → Names → ℕ → Option Value → Own → Forest → Own → Forest → Type 0
IsRootAlike k names count None a below b under =
    (IsNamed names a.number b.number × IsSame a b) × AreAlike names below under
IsRootAlike k names count (Some v) a below b under = StandsForSettled k names count v a below b under

abbrev pub AreRootsAlike : ℕ → Names → ℕ → (ℕ → Option Value) → Forest → Forest → Type 0
AreRootsAlike k names count ends no_node no_node = Unit {0}
AreRootsAlike k names count ends no_node (node b under more) = ⊥
AreRootsAlike k names count ends (node a below others) no_node = ⊥
AreRootsAlike k names count ends (node a below others) (node b under more) =
    IsRootAlike k names count (ends 0) a below b under
    × AreRootsAlike k names count (λ i. ends (suc i)) others more

-- What holds while a list is made shorter: each node of the old forest whose root is unsettled in the end has one name of its
-- own, and stands in the new forest as it does in the old one.
pub record AreInStep (k : ℕ) (ends : ℕ → Option Value) (names : Names) (old new : Forest) : Type 0 where
  pub roots : AreRootsAlike k names (size new) ends old new
  pub long : length names ≡ size old
  pub apart : (n o m : ℕ) → IsNamed names n m → IsNamed names o m → n ≡ o
  pub low : (n m : ℕ) → IsNamed names n m → m < size new

-- the second names are the first, and others for the nodes from `top` on: none, or those from `count` on
pub record AreExtended (names more : Names) (top count : ℕ) : Type 0 where
  pub keeps : (n : ℕ) (x : Option ℕ) → slice_get names n ≡ Some x → slice_get more n ≡ Some x
  pub fresh : (n m : ℕ) → IsNamed more n m → IsNamed names n m ⊎ ((j : ℕ) × ((n ≡ top + j) × (m ≡ count + j)))

-- names for a number of nodes: those from m on, or none
abbrev pub named_from : ℕ → ℕ → Names
named_from m zero = []
named_from m (suc c) = Some m ∷ named_from (suc m) c

abbrev pub unnamed_for : ℕ → Names
unnamed_for zero = []
unnamed_for (suc c) = None ∷ unnamed_for c
