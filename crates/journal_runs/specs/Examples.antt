-- Worked examples of what a run leaves on its disk. The run is that of which B:W16,19:B12 is the one root, where Black is blocked. The
-- disk is empty at first, and may stop behind any of the run's calls. Calls that only look are left out.
use Rattle.std.specs.Prelude.{◌≡◌, ◌≤◌, ℕ, true, List, [], ◌∷◌, Some}
use Rattle.bench_disk.specs.declared.disk.Disk.{Ghosts}
use Rattle.bench_disk.specs.Disk.{IsTorn}
use Rattle.draughts_board.specs.Examples.{man_blocked, man_to_block}
use Rattle.draughts_board.specs.declared.pieces.Side.TheVariants.{White}
use Rattle.draughts_board.specs.declared.pieces.Value.TheVariants.{WhiteWins}
use Rattle.proof_numbers.specs.Known.{win_known}
use Rattle.proof_tree.specs.Forest.{Forest, no_node}
use Rattle.proof_tree.specs.Changes.{with_root}
use Rattle.bench_records.specs.declared.records.BenchRecord.TheVariants.{Begin}
use Rattle.bench_core.specs.Growing.{IsForestOf}
use Rattle.opening_report.specs.Report.{forest_roots, report_of}
use Rattle.tree_manager.specs.Receipts.{ReadsRecords}
use Rattle.journal_runs.specs.Ample.{IsAmple}
use Rattle.journal_runs.specs.Journals.{KeepsJournal, MayLeave, Resumes}

-- ---- the files

-- A journal for tables of two pieces: its head, its first gate, and what stands behind that.
abbrev pub with_gate : ℕ → List ℕ → List ℕ
with_gate gate rest =
    68 ∷ 82 ∷ 66 ∷ 69 ∷ 78 ∷ 67 ∷ 72 ∷ 2 ∷ gate ∷ rest

-- A frame behind its gate, and the next gate: 26 bytes of body, of which 22 are the record that begins
-- the root. It has the kind 4, the number 0 of its position, and the position.
abbrev pub root_frame : List ℕ
root_frame =
    0 ∷ 0 ∷ 0 ∷ 0 ∷ 0 ∷ 0 ∷ 0 ∷ 26 ∷ 0 ∷ 0 ∷ 0 ∷ 22 ∷ 4 ∷ 0 ∷ 0 ∷ 0 ∷ 0 ∷ 0 ∷ 0 ∷ 0 ∷ 8 ∷ 0
    ∷ 0 ∷ 0 ∷ 0 ∷ 0 ∷ 0 ∷ 4 ∷ 128 ∷ 0 ∷ 0 ∷ 0 ∷ 0 ∷ 0 ∷ 0 ∷ []

-- ---- the disk

-- the call behind which it stops: none, a sync, or one of the three writes, each with its sync
pub data Stop : Type 0 where
  entry : Stop
  opened : Stop
  head_written : Stop
  head_synced : Stop
  frame_written : Stop
  frame_synced : Stop
  gate_written : Stop
  finished : Stop

abbrev pub calls_at : Stop → ℕ
calls_at entry = 0
calls_at opened = 1
calls_at head_written = 2
calls_at head_synced = 3
calls_at frame_written = 4
calls_at frame_synced = 5
calls_at gate_written = 6
calls_at finished = 7

-- what it reads as
abbrev pub file_at : Stop → List ℕ
file_at entry = []
file_at opened = []
file_at head_written = with_gate 0 []
file_at head_synced = with_gate 0 []
file_at frame_written = with_gate 0 root_frame
file_at frame_synced = with_gate 0 root_frame
file_at gate_written = with_gate 1 root_frame
file_at finished = with_gate 1 root_frame

-- what a crash may leave there: a write that is pending is torn
abbrev pub left_at : Stop → List ℕ → Type 0
left_at entry image = image ≡ []
left_at opened image = image ≡ []
left_at head_written image = IsTorn 0 9 [] image
left_at head_synced image = image ≡ with_gate 0 []
left_at frame_written image = IsTorn 9 35 (with_gate 0 []) image
left_at frame_synced image = image ≡ with_gate 0 root_frame
left_at gate_written image = IsTorn 8 1 (with_gate 0 root_frame) image
left_at finished image = image ≡ with_gate 1 root_frame

-- .. there, or behind a call from the t-th on
abbrev pub left_since : Stop → ℕ → List ℕ → Type 0
left_since stop t image =
    (then : Stop) × ((t ≤ calls_at then) × ((calls_at then ≤ calls_at stop) × left_at then image))

-- how many calls failed: the next one did, where it stopped before the end
abbrev pub faults_at : Stop → ℕ
faults_at entry = 0
faults_at opened = 1
faults_at head_written = 1
faults_at head_synced = 1
faults_at frame_written = 1
faults_at frame_synced = 1
faults_at gate_written = 1
faults_at finished = 0

abbrev pub stopping : Ghosts Stop
stopping = record {
  TELLS = true;
  reads = file_at;
  images = left_at;
  images_since = left_since;
  moment = calls_at;
  faults = faults_at;
}

-- ---- examples

-- a forest of the one root, of which so much is known
abbrev pub blocked_root : Forest
blocked_root = with_root man_blocked (win_known White) no_node

pub record WorkedRuns : Type 0 where
  -- An empty file is a journal of no record, and so is one whose gate is closed, whatever stands behind
  -- it. Behind the open gate the root is read.
  pub empty : ReadsRecords 2 [] []
  pub closed : (rest : List ℕ) → ReadsRecords 2 (with_gate 0 rest) []
  pub read : ReadsRecords 2 (with_gate 1 root_frame) (Begin man_blocked ∷ [])
  pub grown : IsForestOf 2 (Begin man_blocked ∷ []) blocked_root
  -- Wherever the disk stops the journal is kept. A crash may have torn the frame.
  pub kept : (stop : Stop) → KeepsJournal stopping 2 entry stop
  pub torn : MayLeave stopping entry frame_written (with_gate 0 (7 ∷ 7 ∷ []))
  -- A disk that read as the root and is empty behind the run has not kept it.
  pub lost : ¬ KeepsJournal stopping 2 finished entry
  -- The run that finishes writes the report of that root, which White wins.
  pub resumed : Resumes stopping (λ roots. report_of (forest_roots roots)) 2 4 1000 1000000
      (man_blocked ∷ []) entry finished
      (report_of (record { position = man_blocked; value = Some WhiteWins } ∷ [])) true
  -- No record of work is enough where the root has its value at sight. One is where looking one ply
  -- ahead shows it, as in W:W16,23:B12, and none is too few.
  pub ample : IsAmple 2 0 0 (man_blocked ∷ []) []
  pub ample_by_a_ply : IsAmple 2 1 1 (man_to_block ∷ []) []
  pub short_of_one : ¬ IsAmple 2 1 0 (man_to_block ∷ []) []
