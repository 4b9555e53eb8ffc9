-- The frame of what is staged, as it is kept.
use Rattle.std.specs.Prelude.{◌≡◌, ℕ, ◌+◌, List, [], ◌∷◌, All, length, map, take, drop}
use Rattle.disk_journal.specs.Format.{IsPayload}
use Rattle.disk_journal.specs.Gate.{gate_text}

-- the payloads of a body, by their lengths: each stands behind a length field of 4 bytes
abbrev pub payloads_in : List ℕ → List ℕ → List (List ℕ)
payloads_in [] bytes = []
payloads_in (n ∷ lengths) bytes = take n (drop 4 bytes) ∷ payloads_in lengths (drop (4 + n) bytes)

-- the payloads of what stands behind a gate: the body stands behind a length field of 8 bytes
abbrev pub staged_in : List ℕ → List ℕ → List (List ℕ)
staged_in lengths text = payloads_in lengths (drop 8 text)

-- these are the payloads' lengths, and this is what is to be written for them
pub record IsReady (lengths text : List ℕ) : Type 0 where
  pub measured : lengths ≡ map length (staged_in lengths text)
  pub written : text ≡ gate_text (staged_in lengths text)
  pub each : All IsPayload (staged_in lengths text)
