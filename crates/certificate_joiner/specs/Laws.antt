-- What follows where every fact of a forest is certified.
use Rattle.std.specs.Prelude.{ℕ, ◌≤◌, List, [], All, IfSome, Option}
use Rattle.draughts_board.specs.Board.{Board}
use Rattle.draughts_board.specs.Game.{HasValue}
use Rattle.draughts_board.specs.Draughts.{draughts}
use Rattle.strategy_certificate.specs.declared.oracle.Answer.{Answer}
use Rattle.strategy_certificate.specs.declared.certificates.Certificate.{Certificate}
use Rattle.strategy_certificate.specs.Tables.{IsSoundTable}
use Rattle.proof_tree.specs.Forest.{Forest, nodes, value_of}
use Rattle.proof_tree.specs.Sound.{EachNode, IsSoundNode}
use Rattle.certificate_joiner.specs.Shelf.{Put}
use Rattle.certificate_joiner.specs.Certified.{IsCertified, IsJoined, claim_for}

-- every fact of the forest is certified, with tables of k pieces
abbrev pub AreCertified : ℕ → List Put → Forest → Type 0
AreCertified k puts roots = EachNode (λ path. IsCertified k puts) [] roots

-- A settled root has a good certificate that claims its value.
abbrev pub SettledRootsAreShown : Type 0
SettledRootsAreShown =
    (k : ℕ) (puts : List Put) (roots : Forest) → k ≤ 3 → EachNode IsSoundNode [] roots → AreCertified k puts roots
    → All (λ root. IfSome (value_of root) (λ v. (c : Certificate) × IsJoined k root.own.position (claim_for v) c)) (nodes roots)

-- The value of a settled root is that of its position.
abbrev pub SettledValuesAreTrue : Type 0
SettledValuesAreTrue =
    (k : ℕ) (answer : Board → Option Answer) (puts : List Put) (roots : Forest) → k ≤ 3 → IsSoundTable draughts k answer
    → EachNode IsSoundNode [] roots → AreCertified k puts roots
    → All (λ root. IfSome (value_of root) (HasValue draughts root.own.position)) (nodes roots)
