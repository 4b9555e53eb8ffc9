-- A session's line: its entries, the oldest first. Which records it has, and of which session.
use Rattle.std.specs.Prelude.{◌≡◌, ℕ, Bool, cond, List, [], ◌∷◌, ◌++◌, count_by, Option, Some, None}
use Rattle.std.specs.List.{list_any}
use Rattle.std.specs.Option.{option_map_or}
use Rattle.shared_words.specs.Counts.{Rose}
use Rattle.bench_records.specs.declared.records.BenchRecord.{BenchRecord}
use Rattle.bench_core.specs.Records.{is_work}
use Rattle.tree_manager.specs.declared.entries.Attachment.{Attachment}
use Rattle.tree_manager.specs.declared.entries.Entry.{Entry}
use Rattle.tree_manager.specs.declared.entries.Entry.TheVariants.{Put, Attached, Leased, Released, Acked, Broken}
use Rattle.tree_manager.specs.Entries.{record_put, acknowledges, attaches, gives_lease, breaks}

-- ---- records

-- its records, in order
abbrev pub recorded : List Entry → List BenchRecord
recorded [] = []
recorded (e ∷ line) = record_put e ++ recorded line

-- those before the last acknowledgement
abbrev pub applied_in : List Entry → List BenchRecord
applied_in [] = []
applied_in (e ∷ line) = cond (list_any acknowledges line) (record_put e ++ applied_in line) []

-- those behind it
abbrev pub unapplied_in : List Entry → List BenchRecord
unapplied_in [] = []
unapplied_in (e ∷ line) =
    cond (list_any acknowledges (e ∷ line)) (unapplied_in line) (record_put e ++ unapplied_in line)

-- ---- the session

-- how it began
abbrev pub attachment_of : List Entry → Option Attachment
attachment_of [] = None
attachment_of (Put r ∷ line) = attachment_of line
attachment_of (Attached a ∷ line) = Some a
attachment_of (Leased lease ∷ line) = attachment_of line
attachment_of (Released id ∷ line) = attachment_of line
attachment_of (Acked moment ∷ line) = attachment_of line
attachment_of (Broken faults ∷ line) = attachment_of line

-- for how many pieces its tables are, and how deep it searches; 0 where the line has no Attached
abbrev pub session_pieces : List Entry → ℕ
session_pieces line = option_map_or (λ a. a.pieces) (attachment_of line) 0

abbrev pub session_depth : List Entry → ℕ
session_depth line = option_map_or (λ a. a.depth) (attachment_of line) 0

-- what stands behind the Attached
abbrev pub behind_attached : List Entry → List Entry
behind_attached [] = []
behind_attached (e ∷ line) = cond (attaches e) line (behind_attached line)

-- how many of its work records are applied
abbrev pub work_applied : List Entry → ℕ
work_applied line = count_by is_work (applied_in (behind_attached line))

-- how many leases it gave
abbrev pub leases_given : List Entry → ℕ
leases_given line = count_by gives_lease line

-- it has failed
abbrev pub is_failed : List Entry → Bool
is_failed line = list_any breaks line

-- It ends with a Broken, whose faults rose above those with which it began.
pub record EndsBroken (line : List Entry) : Type 0 where
  pub before : List Entry
  pub faults : ℕ
  pub ends : line ≡ before ++ Broken faults ∷ []
  pub attachment : Attachment
  pub attached : attachment_of line ≡ Some attachment
  pub rose : Rose attachment.faults faults
