-- What a run of reads or writes does to the bytes that are known, beside std's `Appends` and
-- `Consumes`.
use Rattle.std.specs.Prelude.{◌≡◌, ℕ, ◌<◌, ◌≤◌, List, length, take, Option}
use Rattle.std.specs.Io.KnownBytes.{Appends, Consumes}

-- known bytes begin with some bytes, at most `most`, and lose them
abbrev pub ConsumesAtMost : ℕ → Option (List ℕ) → Option (List ℕ) → Type 0
ConsumesAtMost most old new = (front : List ℕ) × (length front ≤ most) × Consumes old new front

-- known bytes begin with `count` bytes, and lose them
abbrev pub ConsumesJust : ℕ → Option (List ℕ) → Option (List ℕ) → Type 0
ConsumesJust count old new = (front : List ℕ) × (length front ≡ count) × Consumes old new front

-- known bytes grow by a front of these, and not by all
abbrev pub AppendsFront : Option (List ℕ) → Option (List ℕ) → List ℕ → Type 0
AppendsFront old new bytes =
    (count : ℕ) × (count < length bytes) × Appends old new (take count bytes)
