-- What is read of the source of a run, by how many bytes it may have at most; there is no limit
-- for a run that reads no source.
use Rattle.std.specs.Prelude.{◌≡◌, ℕ, ◌+◌, ◌<◌, ◌≤◌, ◌⊎◌, List, length, Option, Some, IfSome, IsSome}
use Rattle.shared_words.specs.Counts.{Rose}
use Rattle.bench_edges.specs.KnownBytes.{ConsumesJust}
use Rattle.opening_report.specs.declared.refusals.Refusal.{Refusal}
use Rattle.opening_report.specs.declared.refusals.Refusal.TheVariants as refusal

-- The bytes are those of the source, where it is read and tells them, and they are no more than may
-- be.
pub record IsInput (limit : Option ℕ) (source : Option (List ℕ)) (bytes : List ℕ) : Type 0 where
  pub same : IsSome limit → IfSome source (λ told. bytes ≡ told)
  pub fits : IfSome limit (λ most. length bytes ≤ most)

-- The source has more bytes than may be: all that may be were read, and one more. No fault was counted.
pub record IsTooLong (limit : Option ℕ) (source rest : Option (List ℕ)) (before after : ℕ)
    : Type 0 where
  pub most : ℕ
  pub is_limit : limit ≡ Some most
  pub long : IfSome source (λ told. most < length told)
  pub past : ConsumesJust (most + 1) source rest
  pub counted : after ≡ before

-- The run was cut short: memory ran out; or the source that is read failed, or is too long.
abbrev pub IsCutShort : Option ℕ → Option (List ℕ) → Option (List ℕ) → ℕ → ℕ → Refusal → Type 0
IsCutShort limit source rest before after r =
    (r ≡ refusal.Memory)
    ⊎ (((r ≡ refusal.Read) × (IsSome limit × Rose before after))
    ⊎ ((r ≡ refusal.TooLong) × IsTooLong limit source rest before after))
