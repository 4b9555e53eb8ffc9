-- What a run on a journal, and a look at one, answer and refuse.
use Rattle.std.proofs.Common.{◌≡◌, ℕ, ◌<◌, ◌^◌, true, Bool, List, length, refl, sym, ◌∙◌, ap, subst, arith, lit<}
use Rattle.std.proofs.lemmas.Bool.{false≢true}
use Rattle.std.specs.Prelude.{IfErr, Result, Ok, Err}
use Rattle.bench_disk.specs.declared.disk.Disk.{Ghosts}
use Rattle.bench_edges.specs.declared.words.Command.TheVariants.{Solve}
use Rattle.bench_edges.specs.declared.words.Options.{Options}
use Rattle.draughts_board.specs.Board.{Board}
use Rattle.bench_core.specs.Records.{begun}
use Rattle.bench_records.specs.declared.records.BenchRecord.{BenchRecord}
use Rattle.tree_manager.specs.Sessions.{with_roots}
use Rattle.tree_manager.proofs.ExactLemmas.{files_read_as_one_list}
use Rattle.disk_journal.specs.Refusals.{says_nothing_of_file}
use Rattle.disk_journal.specs.declared.refusal.JournalRefusal.{JournalRefusal}
use Rattle.disk_journal.specs.declared.refusal.JournalRefusal.TheVariants as journal
use Rattle.journal_looks.specs.Looks.{IsTrueReport}
use Rattle.journal_looks.proofs.FileLemmas.{nothing_by}
use Rattle.journal_runs.specs.Conversions.{of_run}
use Rattle.journal_runs.specs.Journals.{IsCaused, IsUnreadFor}
use Rattle.journal_runs.specs.declared.refusals.RunRefusal.{RunRefusal}
use Rattle.journal_runs.specs.declared.refusals.RunRefusal.TheVariants as run
use Rattle.opening_report.specs.Conversions.{of_journal}
use Rattle.opening_report.specs.declared.refusals.Refusal.{Refusal}
use Rattle.opening_report.specs.declared.refusals.Refusal.TheVariants as refusal
use Rattle.opening_report.proofs.ReportLemmas.{report-is_true}
use Rattle.bench_commands.specs.Accepted.{HasRoom, IsUnrefused}
use Rattle.program_edges.specs.Statuses.{status_of}
use Rattle.bench_commands.specs.Disks.{IsRefusedRun}
use Rattle.bench_commands.specs.Solving.{roots_of_openings}
use Rattle.bench_commands.specs.Steps.{AcceptsBytes, AreRootsIn, SaysTrue, says_nothing_of_bytes}

-- the report of a look at a journal says what is true
pub true_report_says : (text : List ℕ) (settled : Bool) → IsTrueReport text settled → SaysTrue text
true_report_says text settled p front back whole =
    let k : 65538 < 2 ^ 64 = lit< tt in
    let few = p.few in
    report-is_true p.roots front back (omega (arith, few, k)) p.values (sym p.text_is ∙ whole)

-- a journal's refusal says as little as the program's own
pub journal_silence : (cause : JournalRefusal) → says_nothing_of_bytes (of_journal cause) ≡ says_nothing_of_file cause
journal_silence journal.DiskFault = refl
journal_silence journal.NotAJournal = refl
journal_silence (journal.OtherTable found asked) = refl
journal_silence (journal.Damaged at) = refl
journal_silence (journal.Memory error) = refl

-- a refusal that says nothing of what the disk reads as
pub silent_unrefused : (r : Refusal) → says_nothing_of_bytes r ≡ true → IsUnrefused (status_of r)
silent_unrefused refusal.Disk silent = ((λ e. absurd cc), (λ e. absurd cc))
silent_unrefused refusal.Memory silent = ((λ e. absurd cc), (λ e. absurd cc))
silent_unrefused r silent = absurd (false≢true silent)

module _ {D : Type 0} (g : Ghosts D) where
  refused_of_same : (pieces : ℕ) (seen positions : List Board) (old new : D) (r : Refusal) → seen ≡ positions
      → IsRefusedRun g pieces seen old new r → IsRefusedRun g pieces positions old new r
  refused_of_same pieces seen positions old new r same h = subst (λ ps. IsRefusedRun g pieces ps old new r) same h

  -- a journal that has room is not refused
  pub room_silent : (pieces : ℕ) (positions : List Board) (old new : D) (r : Refusal) (fault : RunRefusal) → r ≡ of_run fault → HasRoom g pieces positions old
      → IsCaused pieces positions (g.reads old) fault → says_nothing_of_bytes r ≡ true
  room_silent pieces positions old new r (run.Journal cause) is room caused =
      ap says_nothing_of_bytes is ∙ (journal_silence cause ∙ nothing_by (says_nothing_of_file cause) (IsUnreadFor pieces (g.reads old) cause) caused (λ h. h.unread room.records room.read))
  room_silent pieces positions old new r run.TooManyRoots is room caused =
      let same = files_read_as_one_list pieces (g.reads old) caused.0 room.records caused.1.0 room.read in
      let many = subst (λ (rs : List BenchRecord). 65536 < length (with_roots (begun rs) positions)) same caused.1.1 in
      let few = room.room in
      absurd (omega (arith, many, few))

  pub run_accepts : (options : Options) (text : List ℕ) (positions seen : List Board) (old new : D) (r : Refusal) → AreRootsIn options.plies text positions → seen ≡ positions
      → IsRefusedRun g options.pieces seen old new r
      → AcceptsBytes g (Solve options) text old r
  run_accepts options text positions seen old new r roots same h good room =
      let all = roots_of_openings roots.openings in
      let k = refused_of_same options.pieces seen all old new r (same ∙ roots.all) h in
      let there = room roots.openings roots.read in
      silent_unrefused r (room_silent options.pieces all old new r k.fault k.is there (k.caused there.honest))

  -- the same of an answer, if it is a refusal
  pub run_all_accepts : {X : Type 0} (options : Options) (text : List ℕ) (positions seen : List Board) (old new : D) (r : Result X Refusal) → AreRootsIn options.plies text positions → seen ≡ positions
      → IfErr r (IsRefusedRun g options.pieces seen old new)
      → IfErr r (AcceptsBytes g (Solve options) text old)
  run_all_accepts options text positions seen old new (Ok x) roots same h = tt
  run_all_accepts options text positions seen old new (Err r) roots same h = run_accepts options text positions seen old new r roots same h
