-- How a look-up goes from node to node. Nobody has to believe it: that a look-up tells what stands there is proved.
use Rattle.std.specs.Prelude.{◌≡◌, ℕ, zero, suc, ◌+◌, ◌<◌, Bool, List, length, get_or, if◌then◌else◌}
use Rattle.draughts_board.specs.Board.{Board}
use Rattle.position_rows.specs.declared.tree.Node.{Node}
use Rattle.position_rows.specs.declared.tree.End.{End}
use Rattle.position_rows.specs.declared.tree.End.TheVariants.{At, Behind}
use Rattle.position_rows.specs.Rows.{IsRowAt}
use Rattle.position_rows.specs.Words.{digit, word_behind, word_of}

abbrev pub no_node : Node
no_node = record { number = 0; zero = 0; one = 0 }

abbrev pub node_at : List Node → ℕ → Node
node_at nodes i = get_or nodes i no_node

-- the node that a node names at a digit, 0 where it names none
abbrev pub named : Node → Bool → ℕ
named node d = if d then node.one else node.zero

-- the node, naming one more
abbrev pub with_link : Node → Bool → ℕ → Node
with_link node d k = if d then record node { one = k } else record node { zero = k }

-- from node i the digit leads to node k, a later one
pub record LinksTo (nodes : List Node) (i : ℕ) (d : Bool) (k : ℕ) : Type 0 where
  pub named : named (node_at nodes i) d ≡ k
  pub later : i < k
  pub inside : k < length nodes

-- by the first n digits of the word a look-up comes to node k
abbrev pub Reaches : List Node → ℕ → ℕ → ℕ → Type 0
Reaches nodes word zero k = k ≡ 0
Reaches nodes word (suc n) k =
    (i : ℕ) × Reaches nodes word n i × LinksTo nodes i (digit (word_behind word n)) k

-- the look-up of the position comes to a node with the number of row r
pub record IsBehind (nodes : List Node) (p : Board) (r : ℕ) : Type 0 where
  pub steps : ℕ
  pub node : ℕ
  pub reached : Reaches nodes (word_of p) steps node
  pub number : (node_at nodes node).number ≡ r + 1

-- the look-up of the position ends at node i, whose digit d names none
pub record IsEnd (nodes : List Node) (p : Board) (i : ℕ) (d : Bool) : Type 0 where
  pub steps : ℕ
  pub inside : i < length nodes
  pub reached : Reaches nodes (word_of p) steps i
  pub next : digit (word_behind (word_of p) steps) ≡ d
  pub none : (k : ℕ) → ¬ LinksTo nodes i d k

-- what a look-up tells
abbrev pub TellsBehind : {E : Type 0} → List (Board × E) → List Node → Board → End → Type 0
TellsBehind rows nodes p (At i) = IsRowAt rows i p
TellsBehind rows nodes p (Behind i d) =
    IsEnd nodes p i d × ((r : ℕ) → IsRowAt rows r p → ¬ IsBehind nodes p r)

-- a node with this number was added at the end and is named by node i at the digit; all else is as it was
pub record IsHung (old new : List Node) (i : ℕ) (d : Bool) (n : ℕ) : Type 0 where
  pub kept : (j : ℕ) (c : Bool) (k : ℕ) → LinksTo old j c k → LinksTo new j c k
  pub numbers : (k s : ℕ) → (node_at old k).number ≡ s + 1 → (node_at new k).number ≡ s + 1
  pub linked : LinksTo new i d (length old)
  pub number : (node_at new (length old)).number ≡ n

-- a look-up of the position has come to node i, with this word left, and no node before it has the number of its row
pub record IsOnTheWay {E : Type 0} (rows : List (Board × E)) (nodes : List Node) (p : Board) (i w : ℕ) : Type 0 where
  pub steps : ℕ
  pub inside : i < length nodes
  pub word : w ≡ word_behind (word_of p) steps
  pub reached : Reaches nodes (word_of p) steps i
  pub missed : (r n k : ℕ) → IsRowAt rows r p → n < steps → Reaches nodes (word_of p) n k
      → ¬ ((node_at nodes k).number ≡ r + 1)
