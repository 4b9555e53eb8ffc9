-- The byte of a gate, and what stands before and behind it.
use Rattle.std.specs.Prelude.{◌≡◌, ◌≢◌, ◌⊎◌, ℕ, ◌+◌, ◌<◌, List, [], ◌∷◌, ◌++◌, length, take, slice_index}
use Rattle.disk_journal.specs.Format.{behind_gate}

-- a closed gate stands at this place of the file
pub record IsClosedAt (gate : ℕ) (file : List ℕ) : Type 0 where
  pub within : gate < length file
  pub closed : slice_index file gate ≢ 1

-- the image has what the file has before the gate, and a closed gate there too
pub record StaysClosed (gate : ℕ) (file image : List ℕ) : Type 0 where
  pub front : take gate image ≡ take gate file
  pub still_closed : IsClosedAt gate image

-- the image has what the file has before the gate, then an open gate, and then this text
abbrev pub IsOpened : ℕ → List ℕ → List ℕ → List ℕ → Type 0
IsOpened gate text file image = take (gate + 1 + length text) image ≡ take gate file ++ 1 ∷ text

-- the gate is closed as before, or it is open and the text stands behind it
abbrev pub IsClosedOrOpened : ℕ → List ℕ → List ℕ → List ℕ → Type 0
IsClosedOrOpened gate text file image = StaysClosed gate file image ⊎ IsOpened gate text file image

-- what a commit writes behind a gate: the frame of these payloads, and the next gate, closed
abbrev pub gate_text : List (List ℕ) → List ℕ
gate_text payloads = behind_gate payloads ++ 0 ∷ []
