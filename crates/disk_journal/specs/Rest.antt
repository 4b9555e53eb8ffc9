-- What stands where a gate is due.
use Rattle.std.specs.Prelude.{◌≡◌, ◌≢◌, ℕ, ◌+◌, ◌<◌, ◌≤◌, List, ◌∷◌, ◌++◌, All, length, map, take, drop}
use Rattle.std.specs.List.{flat_map}
use Rattle.disk_journal.specs.Format.{IsFrame, IsJournal, body_length, frame, journal_front, places_in_body, places_in_frames}
use Rattle.disk_journal.specs.Refusals.{HasHead, IsBroken, IsDamagedAt}
use Rattle.disk_journal.specs.declared.payload.Payload.{Payload}
use Rattle.disk_journal.specs.declared.refusal.JournalRefusal.{JournalRefusal}
use Rattle.disk_journal.specs.declared.refusal.JournalRefusal.TheVariants.{DiskFault, NotAJournal, OtherTable, Damaged, Memory}
use Rattle.disk_journal.specs.declared.gate.Gate.{Gate}
use Rattle.disk_journal.specs.declared.gate.Gate.TheVariants.{Closed, Broken, Open}

-- a closed gate stands there
abbrev pub IsClosed : List ℕ → Type 0
IsClosed rest = (gate : ℕ) × (more : List ℕ) × (rest ≡ gate ∷ more) × (gate ≢ 1)

-- an open gate, the length of a body that is not empty, and at least that number of bytes
pub record IsOpen (len : ℕ) (rest : List ℕ) : Type 0 where
  pub some : 0 < len
  pub within : 9 + len ≤ length rest
  pub is : take 9 rest ≡ 1 ∷ body_length len

-- what stands there is of this kind
abbrev pub BeginsGate : List ℕ → Gate → Type 0
BeginsGate rest Closed = IsClosed rest
BeginsGate rest Broken = IsBroken rest
BeginsGate rest (Open len) = IsOpen len rest

-- a closed gate, or an open one with a body, ends where the bytes end, or before
abbrev pub IsGateWithin : ℕ → Gate → Type 0
IsGateWithin left Closed = 0 < left
IsGateWithin left Broken = Unit {0}
IsGateWithin left (Open len) = (0 < len) × (9 + len ≤ left)

-- At the gate's place stands a frame, whose payloads are added to those that were read, and behind
-- it the next gate.
pub record AddsFrame (gate next : ℕ) (file : List ℕ) (old new : List Payload) : Type 0 where
  pub payloads : List (List ℕ)
  pub is_frame : IsFrame payloads
  pub text : drop gate file ≡ frame payloads ++ drop next file
  pub size : next ≡ gate + length (frame payloads)
  pub bytes : map (λ p. p.bytes.items) new ≡ map (λ p. p.bytes.items) old ++ payloads
  pub places : map (λ p. p.at) new ≡ map (λ p. p.at) old ++ places_in_body (gate + 9) payloads

-- a refusal at a gate: it is damaged there
abbrev pub IsBrokenAt : ℕ → List ℕ → JournalRefusal → Type 0
IsBrokenAt gate rest (Damaged at) = (at ≡ gate) × IsBroken rest
IsBrokenAt gate rest other = ⊥

-- a refusal of a head
abbrev pub LacksHead : List ℕ → JournalRefusal → Type 0
LacksHead file DiskFault = Unit {0}
LacksHead file NotAJournal = (pieces : ℕ) → ¬ HasHead pieces file
LacksHead file (OtherTable found asked) = ⊥
LacksHead file (Damaged at) = ⊥
LacksHead file (Memory error) = ⊥

-- a journal of frames, the closed gate behind them, and their payloads with their places
pub record HoldsFrames (pieces : ℕ) (file : List ℕ) (gate : ℕ)
    (payloads : List Payload) : Type 0 where
  pub frames : List (List (List ℕ))
  pub journal : IsJournal pieces frames file
  pub place : gate ≡ length (journal_front pieces frames)
  pub bytes : map (λ p. p.bytes.items) payloads ≡ flat_map (λ f. f) frames
  pub places : map (λ p. p.at) payloads ≡ places_in_frames 8 frames

-- Frames have been read, of which these payloads are, and the next gate is due at this place.
pub record HasReadFrames (pieces : ℕ) (file : List ℕ) (gate : ℕ)
    (payloads : List Payload) : Type 0 where
  pub frames : List (List (List ℕ))
  pub each : All IsFrame frames
  pub text : file ≡ journal_front pieces frames ++ drop gate file
  pub place : gate ≡ length (journal_front pieces frames)
  pub bytes : map (λ p. p.bytes.items) payloads ≡ flat_map (λ f. f) frames
  pub places : map (λ p. p.at) payloads ≡ places_in_frames 8 frames

-- a refusal of frames: they are damaged
abbrev pub IsDamage : ℕ → List ℕ → JournalRefusal → Type 0
IsDamage pieces file (Damaged at) = IsDamagedAt pieces at file
IsDamage pieces file other = ⊥
