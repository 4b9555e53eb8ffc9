-- What keeps every fact of a forest certified while it grows.
use Rattle.std.specs.Prelude.{◌≡◌, ℕ, ◌≤◌, List, [], ◌∷◌, ◌++◌, All, Contains, true, IfSome, IsSome, IsSomeAnd}
use Rattle.draughts_board.specs.Board.{Board}
use Rattle.draughts_board.specs.declared.pieces.Side.{Side}
use Rattle.strategy_certificate.specs.declared.certificates.Certificate.{Certificate}
use Rattle.strategy_certificate.specs.Claims.{TellsWin, TellsHold}
use Rattle.proof_numbers.specs.declared.leaves.Child.{Child}
use Rattle.proof_numbers.specs.Facts.{known}
use Rattle.proof_numbers.specs.Known.{Known, knows_win, knows_hold, joined, IsConsistent}
use Rattle.proof_numbers.specs.Sight.{AreFactsAtSight}
use Rattle.proof_tree.specs.declared.rows.Mark.TheVariants.{Unexpanded}
use Rattle.proof_tree.specs.Changes.{with_root, with_children, with_facts}
use Rattle.proof_tree.specs.Forest.{Forest, node_at, size}
use Rattle.proof_tree.specs.Sound.{IsSoundForest}
use Rattle.certificate_joiner.specs.Shelf.{Put, certificates_of}
use Rattle.certificate_joiner.specs.Certified.{IsShelved}
use Rattle.certificate_joiner.specs.Laws.{AreCertified}

-- the shelf has nothing for nodes from this number on
abbrev pub HasNoneFrom : ℕ → List Put → Type 0
HasNoneFrom count puts = (n : ℕ) → count ≤ n → certificates_of n puts ≡ []

-- A new root whose facts are those at sight.
abbrev pub RootsStayCertified : Type 0
RootsStayCertified =
    (k : ℕ) (puts : List Put) (roots : Forest) (p : Board) (facts : Known) → HasNoneFrom (size roots) puts
    → AreFactsAtSight k p facts → AreCertified k puts roots → AreCertified k puts (with_root p facts roots)

-- New children whose facts are those at sight.
abbrev pub ChildrenStayCertified : Type 0
ChildrenStayCertified =
    (k : ℕ) (puts : List Put) (roots : Forest) (n : ℕ) (children : List Child) → HasNoneFrom (size roots) puts
    → All (λ child. AreFactsAtSight k child.position (known child.facts)) children
    → AreCertified k puts roots → AreCertified k puts (with_children n children roots)

-- each of these facts of a position is claimed or implied by one of the certificates
pub record AreShownBy (k : ℕ) (p : Board) (facts : Known) (batch : List Certificate) : Type 0 where
  pub shelved : All (IsShelved k p) batch
  pub wins : (s : Side) → knows_win s facts ≡ true → (c : Certificate) × (Contains batch c × TellsWin s c.claim)
  pub holds : (s : Side) → knows_hold s facts ≡ true → (c : Certificate) × (Contains batch c × TellsHold s c.claim)

-- New facts of a node, with a batch on the shelf that shows them.
abbrev pub FactsStayCertified : Type 0
FactsStayCertified =
    (k : ℕ) (puts : List Put) (roots : Forest) (n : ℕ) (facts : Known) (batch : List Certificate) → IsSoundForest roots
    → IfSome (node_at n roots) (λ x. AreShownBy k x.own.position facts batch)
    → AreCertified k puts roots → AreCertified k (puts ++ (n, batch) ∷ []) (with_facts n facts roots)

-- Such facts do not contradict those that the node has.
abbrev pub ShownFactsAgree : Type 0
ShownFactsAgree =
    (k : ℕ) (puts : List Put) (roots : Forest) (n : ℕ) (facts : Known) (batch : List Certificate) → IsSoundForest roots
    → AreCertified k puts roots → IsConsistent facts → IfSome (node_at n roots) (λ x.
    AreShownBy k x.own.position facts batch → IsConsistent (joined x.own.facts facts))

-- Where the shelf has nothing for nodes that are not there, so it is with one root more, with children of a node that has
-- none yet, and with a batch for a node that is there.
pub record ShelfStaysWithin : Type 0 where
  pub root : (puts : List Put) (roots : Forest) (p : Board) (facts : Known) → HasNoneFrom (size roots) puts
      → HasNoneFrom (size (with_root p facts roots)) puts
  pub children : (puts : List Put) (roots : Forest) (n : ℕ) (children : List Child) → IsSoundForest roots
      → IsSomeAnd (node_at n roots) (λ x. x.own.mark ≡ Unexpanded) → HasNoneFrom (size roots) puts
      → HasNoneFrom (size (with_children n children roots)) puts
  pub facts : (puts : List Put) (roots : Forest) (n : ℕ) (facts : Known) (batch : List Certificate) → IsSoundForest roots
      → IsSome (node_at n roots) → HasNoneFrom (size roots) puts → HasNoneFrom (size (with_facts n facts roots)) (puts ++ (n, batch) ∷ [])
