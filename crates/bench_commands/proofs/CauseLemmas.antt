-- What a refusal comes of: its status shows whether the source failed, or the disk.
use Rattle.std.proofs.Common.{◌≡◌, ◌≢◌, ℕ, inl, inr, Bool, List, [], Option, refl, sym, ◌∙◌, ap, subst}
use Rattle.std.specs.Prelude.{IfOk, IfErr, Result, Ok, Err}
use Rattle.std.specs.Io.KnownBytes.{IsAtEnd}
use Rattle.bench_disk.specs.declared.disk.Disk.{Ghosts}
use Rattle.shared_words.specs.Counts.{Rose}
use Rattle.bench_disk.specs.Disk.{IsHonest}
use Rattle.bench_edges.specs.declared.status.Status.{Status}
use Rattle.bench_edges.specs.declared.status.Status.TheVariants.{Words, Input, Disk, Journal, Memory, Read}
use Rattle.bench_edges.specs.declared.words.Command.{Command}
use Rattle.bench_edges.specs.declared.words.Command.TheVariants.{Solve, Report, Certify, Verify, Learn, TableCheck, Generate}
use Rattle.draughts_board.specs.Board.{Board}
use Rattle.capture_positions.specs.Walk.{openings_from}
use Rattle.certificate_checker.specs.declared.refusals.CheckRefusal.{CheckRefusal}
use Rattle.certificate_checker.specs.declared.refusals.CheckRefusal.TheVariants as check
use Rattle.certificate_text.specs.declared.refusal.TextRefusal.{TextRefusal}
use Rattle.certificate_text.specs.declared.refusal.TextRefusal.TheVariants as text
use Rattle.disk_journal.specs.declared.refusal.JournalRefusal.{JournalRefusal}
use Rattle.disk_journal.specs.declared.refusal.JournalRefusal.TheVariants as journal
use Rattle.pdn_openings.specs.declared.refusal.OpeningRefusal.{OpeningRefusal}
use Rattle.pdn_openings.specs.declared.refusal.OpeningRefusal.TheVariants as opening
use Rattle.pdn_text.specs.declared.refusal.PdnRefusal.{PdnRefusal}
use Rattle.pdn_text.specs.declared.refusal.PdnRefusal.TheVariants as pdn
use Rattle.table_checker.specs.declared.refusal.TableRefusal.{TableRefusal}
use Rattle.table_checker.specs.declared.refusal.TableRefusal.TheVariants as table
use Rattle.journal_lessons.specs.Conversions.{of_lesson}
use Rattle.journal_lessons.specs.declared.refusals.LearnRefusal.{LearnRefusal}
use Rattle.journal_lessons.specs.declared.refusals.LearnRefusal.TheVariants as lesson
use Rattle.journal_looks.specs.Conversions.{of_look}
use Rattle.journal_looks.specs.Looks.{ExplainsNoCertificate}
use Rattle.journal_looks.specs.declared.refusals.LookRefusal.{LookRefusal}
use Rattle.journal_looks.specs.declared.refusals.LookRefusal.TheVariants as look
use Rattle.journal_runs.specs.Conversions.{of_run}
use Rattle.journal_runs.specs.Journals.{CountsRoots, Resumes}
use Rattle.journal_runs.specs.declared.refusals.RunRefusal.{RunRefusal}
use Rattle.journal_runs.specs.declared.refusals.RunRefusal.TheVariants as run
use Rattle.opening_report.specs.Conversions.{of_pdn, of_openings, of_text, of_check, of_table, of_journal}
use Rattle.opening_report.specs.Report.{forest_roots, summary_line}
use Rattle.opening_report.specs.declared.refusals.Refusal.{Refusal}
use Rattle.opening_report.specs.declared.refusals.Refusal.TheVariants as refusal
use Rattle.program_edges.specs.Sources.{IsCutShort, IsInput}
use Rattle.program_edges.specs.Statuses.{status_of}
use Rattle.bench_commands.specs.Bench.{IsCommandRefusal, ReadsSource}
use Rattle.bench_commands.specs.Commands.{HasFault, source_limit}
use Rattle.bench_commands.specs.Disks.{HasDiskFault, IsRefusedRun}
use Rattle.bench_commands.specs.Steps.{AnswersBytes, RefusesBytes}
use Rattle.bench_commands.specs.declared.commands.generate.TheConstants.{GENERATE_DEPTH, GENERATE_LEASE, GENERATE_PIECES}

-- ---- what a status shows

-- no words are blamed; where the source is, A holds, and where the disk is, B
abbrev pub Blames : Type 0 → Type 0 → Status → Type 0
Blames A B status = (status ≢ Words) × ((status ≡ Read → A) × (status ≡ Disk → B))

module _ (A B : Type 0) where
  input_blames : Blames A B Input
  input_blames = ((λ e. absurd cc), ((λ e. absurd cc), (λ e. absurd cc)))

  memory_blames : Blames A B Memory
  memory_blames = ((λ e. absurd cc), ((λ e. absurd cc), (λ e. absurd cc)))

  journal_blames : Blames A B Journal
  journal_blames = ((λ e. absurd cc), ((λ e. absurd cc), (λ e. absurd cc)))

  read_blames : A → Blames A B Read
  read_blames a = ((λ e. absurd cc), ((λ e. a), (λ e. absurd cc)))

  disk_blames : B → Blames A B Disk
  disk_blames b = ((λ e. absurd cc), ((λ e. absurd cc), (λ e. b)))

  by_refusal : (r q : Refusal) → r ≡ q → Blames A B (status_of q) → Blames A B (status_of r)
  by_refusal r q is h = subst (λ (x : Refusal). Blames A B (status_of x)) (sym is) h

  -- ---- a source that is wrong

  pdn_blames : (r : PdnRefusal) → Blames A B (status_of (of_pdn r))
  pdn_blames (pdn.BadByte at) = input_blames
  pdn_blames (pdn.OpenTag at) = input_blames
  pdn_blames (pdn.OpenComment at) = input_blames
  pdn_blames (pdn.OpenVariation at) = input_blames
  pdn_blames (pdn.BadMove at) = input_blames
  pdn_blames pdn.TooManyGames = input_blames
  pdn_blames (pdn.Memory error) = memory_blames

  openings_blame : (r : OpeningRefusal) → Blames A B (status_of (of_openings r))
  openings_blame (opening.OtherGame game) = input_blames
  openings_blame (opening.Fen game fault) = input_blames
  openings_blame (opening.Illegal game ply at) = input_blames
  openings_blame (opening.Ambiguous game ply at) = input_blames
  openings_blame (opening.Memory error) = memory_blames

  text_blames : (r : TextRefusal) → Blames A B (status_of (of_text r))
  text_blames (text.BadLine n) = input_blames
  text_blames (text.BadFen n) = input_blames
  text_blames (text.Doubled n) = input_blames
  text_blames text.Truncated = input_blames
  text_blames (text.AfterEnd n) = input_blames
  text_blames (text.Memory error) = memory_blames

  check_blames : (r : CheckRefusal) → Blames A B (status_of (of_check r))
  check_blames check.ClaimNotMet = input_blames
  check_blames (check.BadRank part entry) = input_blames
  check_blames (check.BadMove part entry) = input_blames
  check_blames (check.Missing part entry successor) = input_blames
  check_blames (check.StuckHolder part entry) = input_blames
  check_blames (check.NoRoot part) = input_blames
  check_blames (check.Memory error) = memory_blames

  table_blames : (r : TableRefusal) → Blames A B (status_of (of_table r))
  table_blames table.BadHead = input_blames
  table_blames (table.WrongLength found due) = input_blames
  table_blames (table.BadEntry index kept) = input_blames
  table_blames (table.Memory error) = memory_blames

  fault_blames : (command : Command) (bytes : List ℕ) (r : Refusal) → HasFault command bytes r → Blames A B (status_of r)
  fault_blames (Solve options) bytes r (inl h) = by_refusal r (of_pdn h.0) h.1.0 (pdn_blames h.0)
  fault_blames (Solve options) bytes r (inr h) = by_refusal r (of_openings h.1.1.0) h.1.1.1.0 (openings_blame h.1.1.0)
  fault_blames Verify bytes r (inl h) = by_refusal r (of_text h.0) h.1.0 (text_blames h.0)
  fault_blames Verify bytes r (inr h) = by_refusal r (of_check h.1.1.0) h.1.1.1.0 (check_blames h.1.1.0)
  fault_blames Learn bytes r (inl h) = by_refusal r (of_text h.0) h.1.0 (text_blames h.0)
  fault_blames Learn bytes r (inr h) = by_refusal r (of_check h.1.1.0) h.1.1.1.0 (check_blames h.1.1.0)
  fault_blames TableCheck bytes r h = by_refusal r (of_table h.0) h.1.0 (table_blames h.0)
  fault_blames command bytes r h = absurd h

  -- ---- a disk that refuses

  fault_blamed : (fault : JournalRefusal) → (fault ≡ journal.DiskFault → B) → Blames A B (status_of (of_journal fault))
  fault_blamed journal.DiskFault disk = disk_blames (disk refl)
  fault_blamed journal.NotAJournal disk = journal_blames
  fault_blamed (journal.OtherTable found asked) disk = journal_blames
  fault_blamed (journal.Damaged at) disk = journal_blames
  fault_blamed (journal.Memory error) disk = memory_blames

  run_blames : (fault : RunRefusal) → (fault ≡ run.Journal journal.DiskFault → B) → Blames A B (status_of (of_run fault))
  run_blames (run.Journal fault) disk = fault_blamed fault (λ is. disk (ap run.Journal is))
  run_blames run.TooManyRoots disk = input_blames

  look_blames : (fault : LookRefusal) → (fault ≡ look.Journal journal.DiskFault → B) → Blames A B (status_of (of_look fault))
  look_blames (look.Journal fault) disk = fault_blamed fault (λ is. disk (ap look.Journal is))
  look_blames (look.NoRoot n) disk = input_blames
  look_blames (look.UnsettledRoot n) disk = input_blames

  lesson_blames : (fault : LearnRefusal) → (fault ≡ lesson.Journal journal.DiskFault → B) → Blames A B (status_of (of_lesson fault))
  lesson_blames (lesson.Journal fault) disk = fault_blamed fault (λ is. disk (ap lesson.Journal is))
  lesson_blames (lesson.RootExpanded n) disk = input_blames
  lesson_blames lesson.TooManyRoots disk = input_blames

-- a command with a fault of its source reads one
fault_reads : (command : Command) (bytes : List ℕ) (r : Refusal) → HasFault command bytes r → ReadsSource command
fault_reads (Solve options) bytes r h = refl
fault_reads Verify bytes r h = refl
fault_reads Learn bytes r h = refl
fault_reads TableCheck bytes r h = refl
fault_reads command bytes r h = absurd h

cut_blames : (B : Type 0) (command : Command) (source rest : Option (List ℕ)) (before after : ℕ) (r : Refusal) → IsCutShort (source_limit command) source rest before after r
    → Blames (Rose before after) B (status_of r)
cut_blames B command source rest before after r (inl memory) = by_refusal (Rose before after) B r refusal.Memory memory (memory_blames (Rose before after) B)
cut_blames B command source rest before after r (inr (inl read)) = by_refusal (Rose before after) B r refusal.Read read.0 (read_blames (Rose before after) B read.1.1)
cut_blames B command source rest before after r (inr (inr long)) = by_refusal (Rose before after) B r refusal.TooLong long.0 (input_blames (Rose before after) B)

module _ {D : Type 0} (g : Ghosts D) where
  refused_run_blames : (A : Type 0) (pieces : ℕ) (positions : List Board) (old new : D) (r : Refusal) → IsRefusedRun g pieces positions old new r
      → Blames A (Rose (g.faults old) (g.faults new)) (status_of r)
  refused_run_blames A pieces positions old new r h =
      by_refusal A (Rose (g.faults old) (g.faults new)) r (of_run h.fault) h.is (run_blames A (Rose (g.faults old) (g.faults new)) h.fault h.disk)

  disk_fault_blames : (A : Type 0) (command : Command) (bytes : List ℕ) (old new : D) (r : Refusal) → HasDiskFault g command bytes old new r
      → Blames A (Rose (g.faults old) (g.faults new)) (status_of r)
  disk_fault_blames A (Solve options) bytes old new r h = refused_run_blames A options.pieces _ old new r h.1.1
  disk_fault_blames A Report bytes old new r h = by_refusal A (Rose (g.faults old) (g.faults new)) r (of_look h.fault) h.is (look_blames A (Rose (g.faults old) (g.faults new)) h.fault h.disk)
  disk_fault_blames A (Certify root) bytes old new r h = by_refusal A (Rose (g.faults old) (g.faults new)) r (of_look h.fault) h.is (look_blames A (Rose (g.faults old) (g.faults new)) h.fault h.disk)
  disk_fault_blames A Learn bytes old new r (c, (spelled, (good, h))) = by_refusal A (Rose (g.faults old) (g.faults new)) r (of_lesson h.fault) h.is (lesson_blames A (Rose (g.faults old) (g.faults new)) h.fault h.disk)
  disk_fault_blames A (Generate seed count) bytes old new r h = refused_run_blames A GENERATE_PIECES (openings_from seed count) old new r h
  disk_fault_blames A command bytes old new r h = absurd h

  -- what the status of a refused command shows
  pub command_blames : (command : Command) (source rest : Option (List ℕ)) (before after : ℕ) (old new : D) (r : Refusal)
      → IsCommandRefusal g command source rest before after old new r
      → Blames (Rose before after) (Rose (g.faults old) (g.faults new)) (status_of r)
  command_blames command source rest before after old new r (inl cut) = cut_blames (Rose (g.faults old) (g.faults new)) command source rest before after r cut
  command_blames command source rest before after old new r (inr (inl wrong)) =
      fault_blames (Rose before after) (Rose (g.faults old) (g.faults new)) command wrong.input r wrong.fault
  command_blames command source rest before after old new r (inr (inr disk)) =
      disk_fault_blames (Rose before after) command disk.input old new r disk.fault

  -- bytes that are refused, of a source that was read to its end
  pub bytes_refuse : (command : Command) (source rest : Option (List ℕ)) (before after : ℕ) (bytes : List ℕ) (old new : D) (r : Refusal)
      → IsInput (source_limit command) source bytes → (ReadsSource command → IsAtEnd rest) → after ≡ before
      → RefusesBytes g command bytes old new r
      → IsCommandRefusal g command source rest before after old new r
  bytes_refuse command source rest before after bytes old new r is_input end counted (inl (inl memory)) = inl (inl memory)
  bytes_refuse command source rest before after bytes old new r is_input end counted (inl (inr fault)) =
      inr (inl (record { input = bytes; is_input = is_input; fault = fault; end = end (fault_reads command bytes r fault); counted = counted }))
  bytes_refuse command source rest before after bytes old new r is_input end counted (inr fault) =
      inr (inr (record { input = bytes; is_input = is_input; fault = fault; end = end; counted = counted }))

  -- a look that gives no certificate
  pub uncertified_is_caused : (X : Type 0) (root : ℕ) (old new : D) (fault : LookRefusal) (r : Refusal) → r ≡ of_look fault
      → (◌≡◌ {A = Result X LookRefusal} (Err fault) (Err (look.Journal journal.DiskFault)) → Rose (g.faults old) (g.faults new))
      → (IsHonest g.TELLS → ExplainsNoCertificate (g.reads old) root fault)
      → RefusesBytes g (Certify root) [] old new r
  uncertified_is_caused X root old new fault r is cause explained =
      inr (record { fault = fault; is = is; disk = (λ e. cause (ap (λ (q : LookRefusal). Err q) e)); explained = explained })

  -- ---- openings that are made from a seed

  pub counts_answer : {X : Type 0} (seed count : ℕ) (positions seen : List Board) (old new : D) (answer : Result X Refusal) (text : X → List ℕ) (settled : X → Bool)
      → positions ≡ openings_from seed count → seen ≡ positions
      → (IsHonest g.TELLS → IfOk answer (λ x. Resumes g (λ roots. summary_line (forest_roots roots)) GENERATE_PIECES GENERATE_DEPTH count GENERATE_LEASE seen old new (text x) (settled x)))
      → IfOk answer (λ x. CountsRoots seen (text x) (settled x))
      → IfOk answer (λ x. AnswersBytes g (Generate seed count) [] old new (text x) (settled x))
  counts_answer seed count positions seen old new (Ok x) text settled is same resumes counts =
      let all : seen ≡ openings_from seed count = same ∙ is in
      record {
        answers = subst (λ (ps : List Board). CountsRoots ps (text x) (settled x)) all counts;
        shows = λ honest. subst (λ (ps : List Board). Resumes g (λ roots. summary_line (forest_roots roots)) GENERATE_PIECES GENERATE_DEPTH count GENERATE_LEASE ps old new (text x) (settled x)) all (resumes honest);
      }
  counts_answer seed count positions seen old new (Err e) text settled is same resumes counts = tt

  pub counts_refuse : {X : Type 0} (seed count : ℕ) (positions seen : List Board) (old new : D) (answer : Result X Refusal) → positions ≡ openings_from seed count → seen ≡ positions
      → IfErr answer (IsRefusedRun g GENERATE_PIECES seen old new)
      → IfErr answer (RefusesBytes g (Generate seed count) [] old new)
  counts_refuse seed count positions seen old new (Ok x) is same h = tt
  counts_refuse seed count positions seen old new (Err r) is same h =
      inr (subst (λ (ps : List Board). IsRefusedRun g GENERATE_PIECES ps old new r) (same ∙ is) h)
