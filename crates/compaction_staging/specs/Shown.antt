-- What a record shows of a settled root.
use Rattle.std.specs.Prelude.{◌≡◌, ℕ, List, [], ◌∷◌, All}
use Rattle.strategy_certificate.specs.Certificates.{claim_of}
use Rattle.draughts_board.specs.Board.{Board}
use Rattle.draughts_board.specs.declared.pieces.Value.{Value}
use Rattle.strategy_certificate.specs.declared.certificates.Certificate.{Certificate}
use Rattle.strategy_certificate.specs.declared.certificates.Part.{Part}
use Rattle.strategy_certificate.specs.declared.certificates.Part.TheVariants as parts
use Rattle.strategy_certificate.specs.Claims.{HasShortRanks}
use Rattle.proof_numbers.specs.Known.{value_known}
use Rattle.certificate_checker.specs.Told.{facts_shown}
use Rattle.certificate_joiner.specs.Certified.{IsShelved}
use Rattle.bench_records.specs.declared.records.BenchRecord.TheVariants.{Solve}
use Rattle.bench_records.specs.Texts.{ShowsEnough}
use Rattle.strategy_certificate.specs.ShortRanks.{IsShortened}

-- the same part, with short ranks
abbrev pub IsShortPart : Part → Part → Type 0
IsShortPart (parts.Win part) (parts.Win short) = IsShortened part short × HasShortRanks (parts.Win short)
IsShortPart (parts.Win part) (parts.Hold short) = ⊥
IsShortPart (parts.Hold part) (parts.Win short) = ⊥
IsShortPart (parts.Hold part) (parts.Hold short) = short ≡ part

-- good certificates of the position that tell its value, and that a record may show
pub record ShowsValue (k : ℕ) (p : Board) (v : Value) (shown : List Certificate) : Type 0 where
  pub shelved : All (IsShelved k p) shown
  pub tells : facts_shown shown ≡ value_known v
  pub enough : (n : ℕ) → ShowsEnough k (Solve n p shown)

-- the certificate of one part
abbrev pub of_part : Board → ℕ → Part → Certificate
of_part p k part = record { position = p; claim = claim_of part; pieces = k; parts = part ∷ [] }
