-- Why a file is not read as a journal.
use Rattle.std.specs.Prelude.{◌≡◌, ◌≢◌, ℕ, ◌<◌, Bool, true, false, List, [], ◌∷◌, ◌++◌, All, length, take}
use Rattle.disk_journal.specs.Format.{IsFrame, IsPayload, IsPieceCount, behind_gate, body, journal_front, file_head}
use Rattle.disk_journal.specs.declared.refusal.JournalRefusal.{JournalRefusal}
use Rattle.disk_journal.specs.declared.refusal.JournalRefusal.TheVariants.{DiskFault, NotAJournal, OtherTable, Damaged, Memory}

-- the file begins with a head for this number of pieces
abbrev pub HasHead : ℕ → List ℕ → Type 0
HasHead pieces file = IsPieceCount pieces × (take 8 file ≡ file_head pieces)

-- a file that is not fresh and begins with no head
pub record IsForeign (file : List ℕ) : Type 0 where
  pub long : 9 < length file
  pub headless : (pieces : ℕ) → ¬ HasHead pieces file

-- no payloads are spelled so
abbrev pub IsNoBody : List ℕ → Type 0
IsNoBody bytes = (payloads : List (List ℕ)) → All IsPayload payloads → bytes ≢ body payloads

-- behind an open gate no frame begins so
abbrev pub IsNoFrame : List ℕ → Type 0
IsNoFrame bytes = (payloads : List (List ℕ)) (more : List ℕ) → IsFrame payloads
    → bytes ≢ behind_gate payloads ++ more

-- where a gate is due the file ends, or the gate is open and no frame stands behind it
abbrev pub IsBroken : List ℕ → Type 0
IsBroken [] = Unit {0}
IsBroken (gate ∷ rest) = (gate ≡ 1) × IsNoFrame rest

-- The file begins with a head and frames, and behind them it is broken, at this place.
pub record IsDamagedAt (pieces at : ℕ) (file : List ℕ) : Type 0 where
  pub frames : List (List (List ℕ))
  pub rest : List ℕ
  pub text : file ≡ journal_front pieces frames ++ rest
  pub place : at ≡ length (journal_front pieces frames)
  pub each : All IsFrame frames
  pub broken : IsBroken rest
  pub table : IsPieceCount pieces
  pub long : 9 < length file

-- the refusal says nothing of the file: the disk failed, or memory ran out
abbrev pub says_nothing_of_file : JournalRefusal → Bool
says_nothing_of_file DiskFault = true
says_nothing_of_file (Memory error) = true
says_nothing_of_file other = false

-- the file is refused so where a journal for this number of pieces is asked for
abbrev pub Explains : List ℕ → ℕ → JournalRefusal → Type 0
Explains file asked NotAJournal = IsForeign file
Explains file asked (OtherTable found wanted) =
    (9 < length file) × HasHead found file × (found ≢ asked) × (wanted ≡ asked)
Explains file asked (Damaged at) = IsDamagedAt asked at file
Explains file asked other = ⊥

-- the same where a journal for any table is asked for
abbrev pub ExplainsAny : List ℕ → JournalRefusal → Type 0
ExplainsAny file NotAJournal = IsForeign file
ExplainsAny file (Damaged at) = (pieces : ℕ) × IsDamagedAt pieces at file
ExplainsAny file other = ⊥
