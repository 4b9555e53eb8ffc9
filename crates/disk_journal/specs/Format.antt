-- The bytes of a journal.
use Rattle.std.specs.Prelude.{◌≡◌, ◌≢◌, ◌⊎◌, ℕ, ◌+◌, ◌^◌, ◌<◌, ◌≤◌, List, [], ◌∷◌, ◌++◌, All, codes, length}
use Rattle.std.specs.List.{flat_map}
use Rattle.std.specs.Int.{to_be_bytes, w32, w64}

-- endgame tables are of two or three pieces
abbrev pub IsPieceCount : ℕ → Type 0
IsPieceCount pieces = (pieces ≡ 2) ⊎ (pieces ≡ 3)

-- the head of a journal for endgame tables of this number of pieces
abbrev pub file_head : ℕ → List ℕ
file_head pieces = codes "DRBENCH" ++ pieces ∷ []

-- the length of a payload, in 4 bytes, and that of a body, in 8
unfoldable pub payload_length : ℕ → List ℕ
payload_length n = to_be_bytes w32 n

unfoldable pub body_length : ℕ → List ℕ
body_length n = to_be_bytes w64 n

-- a payload with its length before it
abbrev pub payload_text : List ℕ → List ℕ
payload_text payload = payload_length (length payload) ++ payload

abbrev pub body : List (List ℕ) → List ℕ
body payloads = flat_map payload_text payloads

-- a frame behind its gate: the length of the body, and the body
abbrev pub behind_gate : List (List ℕ) → List ℕ
behind_gate payloads = body_length (length (body payloads)) ++ body payloads

-- a frame with its gate, which is open
abbrev pub frame : List (List ℕ) → List ℕ
frame payloads = 1 ∷ behind_gate payloads

-- a head and frames
abbrev pub journal_front : ℕ → List (List (List ℕ)) → List ℕ
journal_front pieces frames = file_head pieces ++ flat_map frame frames

-- at least one byte, and few enough that their number has its field
pub record IsPayload (payload : List ℕ) : Type 0 where
  pub some : payload ≢ []
  pub fits : length payload < 2 ^ 32

-- at least one payload, and few enough bytes that their number has its field
pub record IsFrame (payloads : List (List ℕ)) : Type 0 where
  pub some : payloads ≢ []
  pub each : All IsPayload payloads
  pub fits : length (body payloads) < 2 ^ 64

-- The file is a head, frames behind open gates, and a closed gate. What stands behind that gate is
-- never read.
pub record IsJournal (pieces : ℕ) (frames : List (List (List ℕ))) (file : List ℕ) : Type 0 where
  pub gate : ℕ
  pub rest : List ℕ
  pub text : file ≡ journal_front pieces frames ++ gate ∷ rest
  pub closed : gate ≢ 1
  pub each : All IsFrame frames
  pub table : IsPieceCount pieces

-- so short that it is taken as a new journal, whatever its bytes are
abbrev pub IsFresh : List ℕ → Type 0
IsFresh file = length file ≤ 9

-- For tables of this number of pieces the file stands for these payloads: it is fresh and they are none,
-- or it is a journal and they are those of its frames, in order.
abbrev pub HasPayloads : ℕ → List ℕ → List (List ℕ) → Type 0
HasPayloads pieces file payloads =
    (IsFresh file × (payloads ≡ []))
    ⊎ ((9 < length file) × (frames : List (List (List ℕ))) × IsJournal pieces frames file
    × (payloads ≡ flat_map (λ f. f) frames))

-- the places of the payloads' length fields in a body that begins at this place
abbrev pub places_in_body : ℕ → List (List ℕ) → List ℕ
places_in_body at [] = []
places_in_body at (payload ∷ payloads) =
    at ∷ places_in_body (at + length (payload_text payload)) payloads

-- those in frames, the first of which has its gate at this place
abbrev pub places_in_frames : ℕ → List (List (List ℕ)) → List ℕ
places_in_frames gate [] = []
places_in_frames gate (payloads ∷ frames) =
    places_in_body (gate + 9) payloads ++ places_in_frames (gate + length (frame payloads)) frames

-- the payloads of the file have their length fields at these places
abbrev pub HasPlaces : ℕ → List ℕ → List ℕ → Type 0
HasPlaces pieces file places =
    (IsFresh file × (places ≡ []))
    ⊎ ((9 < length file) × (frames : List (List (List ℕ))) × IsJournal pieces frames file
    × (places ≡ places_in_frames 8 frames))

-- a list goes on from a front
abbrev pub IsPrefixOf : {A : Type 0} → List A → List A → Type 0
IsPrefixOf low high = (rest : _) × (high ≡ low ++ rest)

-- the file stands for the low list of payloads or for more of them, but for none beyond the high
-- list
abbrev pub StandsBetween : ℕ → List (List ℕ) → List (List ℕ) → List ℕ → Type 0
StandsBetween pieces low high file = (payloads : List (List ℕ)) × HasPayloads pieces file payloads
    × IsPrefixOf low payloads × IsPrefixOf payloads high

-- the file stands for the first list of payloads, or for the second one
abbrev pub StandsForEither : ℕ → List (List ℕ) → List (List ℕ) → List ℕ → Type 0
StandsForEither pieces first second file =
    HasPayloads pieces file first ⊎ HasPayloads pieces file second
