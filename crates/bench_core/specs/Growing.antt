-- Lawful records, and how a forest grows by them. Tables are of k pieces.
use Rattle.std.specs.Prelude.{◌≡◌, ◌<◌, ℕ, false, ◌&&◌, List, [], ◌∷◌, All, Contains, length, Some, IfSome}
use Rattle.draughts_board.specs.Board.{Board, IsLawful}
use Rattle.draughts_board.specs.Draughts.{draughts}
use Rattle.draughts_board.specs.Game.{is_at_sight}
use Rattle.draughts_board.specs.declared.pieces.Side.TheVariants.{Black, White}
use Rattle.strategy_certificate.specs.declared.certificates.Certificate.{Certificate}
use Rattle.proof_numbers.specs.declared.leaves.Child.{Child}
use Rattle.proof_numbers.specs.Facts.{known}
use Rattle.proof_numbers.specs.Known.{includes}
use Rattle.proof_numbers.specs.Numbers.{is_resolved}
use Rattle.proof_tree.specs.declared.rows.Mark.TheVariants.{Unexpanded}
use Rattle.proof_tree.specs.Forest.{Forest, no_node, Node, node_at, node_numbers}
use Rattle.proof_tree.specs.Changes.{with_root, with_facts, with_children}
use Rattle.proof_tree.specs.Sound.{root_positions}
use Rattle.certificate_checker.specs.Sight.{IsAtSight, AreChildren}
use Rattle.certificate_checker.specs.Told.{facts_shown}
use Rattle.certificate_joiner.specs.Certified.{IsShelved}
use Rattle.bench_records.specs.declared.records.BenchRecord.{BenchRecord}
use Rattle.bench_records.specs.declared.records.BenchRecord.TheVariants.{Begin, Solve, Expand}
use Rattle.proof_tree.specs.declared.tree.TheConstants.{MOST_ROOTS}

-- ---- lawful records

-- Node n is there and unexpanded, and this holds of it. A node that repeats is not unexpanded.
pub record IsLeafWith (P : Node → Type 0) (roots : Forest) (n : ℕ) : Type 0 where
  pub leaf : Node
  pub there : node_at n roots ≡ Some leaf
  pub unexpanded : leaf.own.mark ≡ Unexpanded
  pub holds : P leaf

-- Good certificates of the node's position, which tell a fact that the node lacks.
pub record MayBeSolved (k : ℕ) (p : Board) (shown : List Certificate) (leaf : Node) : Type 0 where
  pub position : leaf.own.position ≡ p
  pub shelved : All (IsShelved k p) shown
  pub gains : includes leaf.own.facts (facts_shown shown) ≡ false

-- Its position is not decided at sight, and for one side at least it is unresolved.
pub record MayBeExpanded (k : ℕ) (leaf : Node) : Type 0 where
  pub unseen : is_at_sight draughts k leaf.own.position ≡ false
  pub unresolved : (is_resolved (node_numbers Black leaf) && is_resolved (node_numbers White leaf))
      ≡ false

-- A position that no root has yet, where there is room for one more.
pub record MayBegin (p : Board) (roots : List Board) : Type 0 where
  pub lawful : IsLawful p
  pub absent : ¬ Contains roots p
  pub room : length roots < MOST_ROOTS

abbrev pub IsLawfulRecord : ℕ → Forest → BenchRecord → Type 0
IsLawfulRecord k roots (Begin p) = MayBegin p (root_positions roots)
IsLawfulRecord k roots (Solve n p shown) = IsLeafWith (MayBeSolved k p shown) roots n
IsLawfulRecord k roots (Expand n) = IsLeafWith (MayBeExpanded k) roots n

-- ---- growing

-- what the record makes of the forest: a root with its facts at sight; a node that learns what is
-- shown; a node whose children are its successors, each with its facts at sight
abbrev pub IsApplied : ℕ → Forest → BenchRecord → Forest → Type 0
IsApplied k old (Begin p) new =
    (root : Child) × ((root.position ≡ p) × (IsAtSight k root
    × (new ≡ with_root root.position (known root.facts) old)))
IsApplied k old (Solve n p shown) new = new ≡ with_facts n (facts_shown shown) old
IsApplied k old (Expand n) new =
    (children : List Child) × (IfSome (node_at n old) (λ x. AreChildren k x.own.position children)
    × (new ≡ with_children n children old))

-- the forest grows by a lawful record
pub record GrowsWith (k : ℕ) (old : Forest) (r : BenchRecord) (new : Forest) : Type 0 where
  pub lawful : IsLawfulRecord k old r
  pub applied : IsApplied k old r new

-- .. and by a list of records, each lawful when its turn comes
abbrev pub GrowsWithAll : ℕ → Forest → List BenchRecord → Forest → Type 0
GrowsWithAll k old [] new = new ≡ old
GrowsWithAll k old (r ∷ records) new =
    (next : Forest) × (GrowsWith k old r next × GrowsWithAll k next records new)

-- the forest of a list of records
abbrev pub IsForestOf : ℕ → List BenchRecord → Forest → Type 0
IsForestOf k records roots = GrowsWithAll k no_node records roots
