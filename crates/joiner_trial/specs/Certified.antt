-- A tree and a shelf beside it that certifies every fact.
use Rattle.std.specs.Prelude.{◌≡◌, ◌≤◌, ℕ, List, refl}
use Rattle.std.specs.Coded.{Coded, code_by, coded×, coded_ℕ}
use Rattle.proof_numbers.specs.Known.{Known}
use Rattle.proof_tree.specs.Code.{state_code}
use Rattle.proof_tree.specs.Forest.{Forest, size}
use Rattle.proof_tree.specs.Changes.{with_facts}
use Rattle.proof_tree.specs.Sound.{TreeState, IsSoundForest}
use Rattle.certificate_joiner.specs.Shelf.{Put}
use Rattle.certificate_joiner.specs.Laws.{AreCertified}
use Rattle.certificate_joiner.specs.Growth.{HasNoneFrom}

-- for tables of how many pieces, and the tree
pub record CertifiedState : Type 0 where
  pub pieces : ℕ
  pub tree : TreeState

abbrev pub certified_code : Coded CertifiedState
certified_code =
    code_by (ℕ × TreeState) (coded× coded_ℕ state_code) (λ c. (c.pieces, c.tree))
    (λ t. record { pieces = t.0; tree = t.1 }) (λ _. refl)

-- With tables of k pieces, of which the memory is too, every fact of the forest is certified, and nothing stands on the
-- shelf for nodes that are not there.
pub record IsCertifiedTree (k memory : ℕ) (roots : Forest) (puts : List Put) : Type 0 where
  pub few : k ≤ 3
  pub memory_is : memory ≡ k
  pub certified : AreCertified k puts roots
  pub within : HasNoneFrom (size roots) puts

-- node n has learnt some facts
pub record HasLearnt (n : ℕ) (old new : Forest) : Type 0 where
  pub facts : Known
  pub changed : new ≡ with_facts n facts old
  pub sound : IsSoundForest new
