-- Certificates by node, as contracts see a shelf.
use Rattle.std.specs.Prelude.{ℕ, List, [], ◌∷◌, if◌then◌else◌, ◌==◌}
use Rattle.std.specs.List.{flat_map}
use Rattle.strategy_certificate.specs.declared.certificates.Certificate.{Certificate}

-- a node's number, and the certificates that were put there together
abbrev pub Put : Type 0
Put = ℕ × List Certificate

-- what was put there, in order, and for how much more there is room
pub record ShelfState : Type 0 where
  pub puts : List Put
  pub spare : ℕ

-- the batches of node n, in the order in which they came
abbrev pub batches_of : ℕ → List Put → List (List Certificate)
batches_of n [] = []
batches_of n (put ∷ more) = (if put.0 == n then put.1 ∷ batches_of n more else batches_of n more)

-- the certificates of node n, in the order in which they came
abbrev pub certificates_of : ℕ → List Put → List Certificate
certificates_of n puts = flat_map (λ batch. batch) (batches_of n puts)
