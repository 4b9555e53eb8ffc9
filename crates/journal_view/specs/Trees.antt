-- The tree of a root as it is shown, and why it is not.
use Rattle.std.specs.Prelude.{◌≡◌, ◌<◌, ◌⊎◌, ℕ, List, [], IsTrue, length, unwrap_or}
use Rattle.std.specs.Bool.{OnFalse}
use Rattle.std.specs.declared.alloc.AllocError.{AllocError}
use Rattle.disk_journal.specs.declared.refusal.JournalRefusal.TheVariants as journal
use Rattle.draughts_board.specs.Draughts.{draughts}
use Rattle.draughts_board.specs.Game.{Holds, Wins}
use Rattle.draughts_board.specs.declared.pieces.Side.{Side}
use Rattle.proof_numbers.specs.Known.{knows_hold, knows_win}
use Rattle.proof_tree.specs.Sound.{EachNode}
use Rattle.journal_looks.specs.Looks.{HasForest, HasNoRoot, IsNthRoot, IsUnread, says_nothing}
use Rattle.journal_looks.specs.declared.refusals.LookRefusal.{LookRefusal}
use Rattle.journal_looks.specs.declared.refusals.LookRefusal.TheVariants.{Journal, NoRoot, UnsettledRoot}
use Rattle.proof_tree.specs.Forest.{Forest, Node, nodes}
use Rattle.tree_texts.specs.Shown.{WritesTree}
use Rattle.view_words.specs.declared.requests.TheConstants.{MOST_PLIES}
use Rattle.view_words.specs.declared.requests.TreeRequest.{TreeRequest}
use Rattle.journal_view.specs.declared.trees.TheConstants.{DEFAULT_NODES}

-- what is known of a node is true: a side that is said to win wins, and one that is said to hold holds
abbrev pub HasTrueFacts : Node → Type 0
HasTrueFacts x =
    (side : Side) → (IsTrue (knows_win side x.own.facts) → Wins draughts side x.own.position)
    × (IsTrue (knows_hold side x.own.facts) → Holds draughts side x.own.position)

-- The text shows the tree of the root that is asked for, of this forest; what is known of each node is
-- true.
pub record ShowsRootTree (roots : Forest) (asked : TreeRequest) (text : List ℕ) : Type 0 where
  pub truths : EachNode (λ path. HasTrueFacts) [] roots
  pub root : Node
  pub there : IsNthRoot asked.root roots root
  pub writes : WritesTree roots root (unwrap_or asked.plies MOST_PLIES)
      (unwrap_or asked.nodes DEFAULT_NODES) asked.json text

-- .. whatever the disk tells
abbrev pub IsTrueTree : TreeRequest → List ℕ → Type 0
IsTrueTree asked text = (roots : Forest) × ShowsRootTree roots asked text

-- .. of the forest that the file reads as
pub record ShowsTreeOf (file : List ℕ) (asked : TreeRequest) (text : List ℕ) : Type 0 where
  pub pieces : ℕ
  pub roots : Forest
  pub has : HasForest pieces file roots
  pub shows : ShowsRootTree roots asked text

-- the file has an nth root
pub record HasRoot (file : List ℕ) (n : ℕ) : Type 0 where
  pub pieces : ℕ
  pub roots : Forest
  pub has : HasForest pieces file roots
  pub root : Node
  pub there : IsNthRoot n roots root

-- a cause for which a file shows no tree of its nth root
abbrev pub HasNoTree : List ℕ → ℕ → LookRefusal → Type 0
HasNoTree file n (Journal cause) = IsUnread file cause
HasNoTree file n (NoRoot m) = (m ≡ n) × HasNoRoot file n
HasNoTree file n (UnsettledRoot m) = ⊥

-- .. unless the refusal says nothing of the file
abbrev pub ExplainsNoTree : List ℕ → ℕ → LookRefusal → Type 0
ExplainsNoTree file n refusal = OnFalse (says_nothing refusal) (HasNoTree file n refusal)

-- why the tree of an nth root of a forest is not shown: there is none, or memory ran out
abbrev pub RefusesTree : Forest → ℕ → LookRefusal → Type 0
RefusesTree roots n (Journal refusal) = (error : AllocError) × (refusal ≡ journal.Memory error)
RefusesTree roots n (NoRoot m) = (m ≡ n) × ((n ≡ 0) ⊎ (length (nodes roots) < n))
RefusesTree roots n (UnsettledRoot m) = ⊥
