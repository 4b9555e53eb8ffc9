-- What a session's contract gives of the disk that is handed back.
use Rattle.std.proofs.Common.{◌≡◌, ◌≤◌, ◌<◌, ◌⊎◌, ◌+◌, ℕ, zero, suc, List, [], ◌∷◌, ◌++◌, refl, ap, sym, ◌∙◌, subst, ⊎_elim, inl, inr, arith, append_assoc, map, length, length-append}
use Rattle.std.proofs.lemmas.List.{append-nil}
use Rattle.std.specs.Prelude.{Bool, true, false, cond, Option, Some, count_by, Result, Ok, Err, IfOk, IfErr, OnOk, IfSome}
use Rattle.std.specs.Bool.{OnFalse}
use Rattle.std.specs.declared.alloc.AllocError.{AllocError}
use Rattle.std.specs.List.{AllByRecursion as Each}
use Rattle.bench_disk.specs.declared.disk.Disk.{Ghosts}
use Rattle.bench_disk.specs.Disk.{IsHonest, NothingPending}
use Rattle.bench_disk.specs.Runs.{Leaves}
use Rattle.shared_words.specs.Counts.{Rose}
use Rattle.draughts_board.specs.Board.{Board}
use Rattle.proof_tree.specs.Forest.{Forest, no_node, nodes}
use Rattle.proof_tree.specs.Sound.{root_positions}
use Rattle.disk_journal.specs.Format.{IsFresh, IsPrefixOf}
use Rattle.disk_journal.specs.Log.{StaysOrFresh}
use Rattle.disk_journal.specs.Refusals.{Explains, says_nothing_of_file}
use Rattle.disk_journal.specs.declared.refusal.JournalRefusal.{JournalRefusal}
use Rattle.disk_journal.specs.declared.refusal.JournalRefusal.TheVariants as journal
use Rattle.disk_journal.proofs.AttachLemmas.{left_has}
use Rattle.lease_table.specs.Rows.{LeaseRows}
use Rattle.bench_records.specs.declared.records.BenchRecord.{BenchRecord}
use Rattle.bench_core.specs.declared.settings.Settings.{Settings}
use Rattle.bench_core.specs.Records.{begun, is_work}
use Rattle.bench_core.specs.Growing.{IsForestOf}
use Rattle.bench_core.specs.States.{SessionSettings, are_settled}
use Rattle.bench_core.proofs.OneForest.{roots_are_those_begun}
use Rattle.tree_manager.specs.declared.entries.Attachment.{Attachment}
use Rattle.tree_manager.specs.declared.entries.Entry.{Entry}
use Rattle.tree_manager.specs.declared.entries.Entry.TheVariants.{Put, Attached}
use Rattle.tree_manager.specs.Lines.{applied_in, attachment_of, is_failed, recorded, unapplied_in, work_applied}
use Rattle.tree_manager.specs.Histories.{IsCoreOf, IsNewCore, settings_of}
use Rattle.tree_manager.specs.Receipts.{KeepsReceipts, ReadsBetween, ReadsRecords, acknowledgements, most_left}
use Rattle.tree_manager.specs.Replaying.{ExplainsAttach, ExplainsReplay}
use Rattle.tree_manager.specs.Sessions.{IsAttachedTo, SessionState, session_budget, with_roots}
use Rattle.tree_manager.proofs.CoreLemmas.{new_core_stands}
use Rattle.tree_manager.proofs.ExactLemmas.{files_read_as_one_list, refused_files_read_as_none}
use Rattle.tree_manager.proofs.HistoryLaws.{replayed_whole}
use Rattle.journal_runs.specs.declared.refusals.RunRefusal.{RunRefusal}
use Rattle.journal_runs.specs.declared.refusals.RunRefusal.TheVariants as refusal
use Rattle.journal_runs.specs.Ample.{IsAmple, IsReached, IsRoomForEach}
use Rattle.journal_runs.specs.Ends.{GoesOnFrom, HasWorked, IsIdle, IsWorkRefusal}
use Rattle.journal_runs.specs.Journals.{IsCaused, IsUnreadFor, KeepsJournal, MayLeave, Recovers, Resumes, SettlesOrSpends}
use Rattle.journal_runs.proofs.AttachedLines.{line_from, all_applied, any_from, at_attached, at_last, attached_from, behind_from, recorded_from, unapplied_from}

-- ---- prefixes and counts

prefix_same : {A : Type 0} (xs : List A) → IsPrefixOf xs xs
prefix_same xs = ([], sym (append-nil xs))

none_left : {A : Type 0} (xs : List A) → length xs ≡ 0 → xs ≡ []
none_left [] h = refl
none_left (x ∷ xs) h = absurd (cc h)

prefix_both : {A : Type 0} (xs ys : List A) → IsPrefixOf xs ys → IsPrefixOf ys xs → ys ≡ xs
prefix_both xs ys p q =
    p.1 ∙ (ap (λ u. xs ++ u) (none_left p.0 (omega (arith, ap length p.1 ∙ length-append xs p.0, ap length q.1 ∙ length-append ys q.0))) ∙ append-nil xs)

each_both : {A : Type 0} (P Q : A → Type 0) (xs : List A) → Each P xs → Each Q xs → Each (λ x. P x × Q x) xs
each_both P Q [] p q = tt
each_both P Q (x ∷ xs) p q = ((p.0, q.0), each_both P Q xs p.1 q.1)

fresh_or_long : (n k : ℕ) → (n ≤ k) ⊎ (k < n)
fresh_or_long zero k = inl (omega arith)
fresh_or_long (suc n) zero = inr (omega arith)
fresh_or_long (suc n) (suc k) = ⊎_elim (λ le. inl (omega (arith, le))) (λ lt. inr (omega (arith, lt))) (fresh_or_long n k)

rose_from : (f a n : ℕ) → f ≤ a → Rose a n → Rose f n
rose_from f a n le rose = omega (arith, le, rose)

at_some : {A : Type 0} (P : A → Type 0) (o : Option A) (x : A) → o ≡ Some x → IfSome o P → P x
at_some P o x is h = subst (λ (z : Option _). IfSome z P) is h

module _ {D : Type 0} (g : Ghosts D) where
  abbrev Keeps : ℕ → List Entry → D → Type 0
  Keeps pieces line disk = KeepsReceipts pieces g line disk

  -- images of now are images since every moment up to now
  abbrev NowCounts : D → Type 0
  NowCounts disk = (t : ℕ) (image : List ℕ) → t ≤ g.moment disk → g.images disk image → g.images_since disk t image

  -- ---- a session that was attached

  module _ (pieces : ℕ) (before : List BenchRecord) (a : Attachment) (rest : List Entry) (old new : D) (keeps : Keeps pieces (line_from before a rest) new) (now_counts : NowCounts new) where
    abbrev line : List Entry
    line = line_from before a rest

    recovers_from : a.opened ≡ g.moment old + 1 → Recovers g pieces before (most_left line) old new
    recovers_from opened image =
        let since = at_attached (λ ack. (i : List ℕ) → g.images_since new ack.moment i → ReadsBetween pieces ack.records (most_left line) i) [] before a rest keeps.since in
        let moments = at_attached (λ ack. ack.moment ≤ g.moment new) [] before a rest keeps.moments in
        ⊎_elim (λ later. since image (subst (λ t. g.images_since new t image) (sym opened) later)) (λ now. since image (now_counts a.opened image moments now))

    settled_from : (b : Bool) → is_failed line ≡ b → g.faults old ≤ a.faults → (is_failed line ≡ true → Rose a.faults (g.faults new)) → NothingPending (g.reads new) (g.images new) ⊎ Rose (g.faults old) (g.faults new)
    settled_from true h no_fewer broken = inr (rose_from (g.faults old) a.faults (g.faults new) no_fewer (broken h))
    settled_from false h no_fewer broken = inl (keeps.settled h)

    pub keeps_from : ReadsRecords pieces (g.reads old) before → a.opened ≡ g.moment old + 1 → g.faults old ≤ a.faults → (is_failed line ≡ true → Rose a.faults (g.faults new)) → KeepsJournal g pieces old new
    keeps_from read opened no_fewer broken = record {
      recovers = λ before' read'. (
        most_left line,
        subst (λ (rs : List BenchRecord). Recovers g pieces rs (most_left line) old new) (files_read_as_one_list pieces (g.reads old) before before' read read')
            (recovers_from opened),
      );
      unread = λ none. absurd (none before read);
      settled = settled_from (is_failed line) refl no_fewer broken;
    }

    -- ---- the end with a report

    pub reads_now : is_failed line ≡ false → g.images new (g.reads new) → ReadsRecords pieces (g.reads new) (applied_in line)
    reads_now whole here =
        let found = at_last (λ ack. (ack.moment ≤ g.moment new) × ((image : List ℕ) → g.images_since new ack.moment image → ReadsBetween pieces ack.records (most_left line) image)) line [] (any_from before a rest)
        (each_both (λ ack. ack.moment ≤ g.moment new) (λ ack. (image : List ℕ) → g.images_since new ack.moment image → ReadsBetween pieces ack.records (most_left line) image) (acknowledgements line) keeps.moments keeps.since) in
        let between : ReadsBetween pieces (applied_in line) (most_left line) (g.reads new) = found.1.1 (g.reads new) (now_counts found.0 (g.reads new) found.1.0 here) in
        let most : most_left line ≡ applied_in line = ap (λ b. cond b (recorded line) (applied_in line)) whole in
        subst (ReadsRecords pieces (g.reads new)) (prefix_both (applied_in line) between.records between.above (subst (IsPrefixOf between.records) most between.below)) between.reads

    ends_from : (budget : ℕ) (added : List BenchRecord) (roots : Forest) (settled : Bool) → settled ≡ are_settled roots → (settled ≡ false → session_budget budget before ≤ count_by is_work added)
        → SettlesOrSpends g budget before added roots settled
    ends_from budget added roots true is spent = sym is
    ends_from budget added roots false is spent = (sym is, spent refl)

    pub resumes_from : (text_of : Forest → List ℕ) (depth budget lease : ℕ) (positions : List Board) (first last : SessionState D) (text : List ℕ) (settled : Bool)
        → ReadsRecords pieces (g.reads old) before → a.opened ≡ g.moment old + 1 → a.budget ≡ session_budget budget before → a.pieces ≡ pieces → a.depth ≡ depth → a.limit ≡ lease → IsNewCore before a first.core
        → root_positions first.core.state.forest ≡ begun before → last.line ≡ line → HasWorked text_of lease first positions last text settled
        → g.images new (g.reads new) → Resumes g text_of pieces depth budget lease positions old new text settled
    resumes_from text_of depth budget lease positions first last text settled read opened budget_is pieces_are depth_is limit_is new_core first_roots is worked here =
        let core = last.core in
        let whole : is_failed line ≡ false = sym (ap is_failed is) ∙ worked.idle.unfailed in
        let none : unapplied_in line ≡ [] = sym (ap unapplied_in is) ∙ (sym worked.stands.staged ∙ worked.idle.none_staged) in
        let none_behind : unapplied_in rest ≡ [] = sym (unapplied_from before a rest) ∙ none in
        let all : applied_in line ≡ before ++ recorded rest = sym (all_applied line none) ∙ recorded_from before a rest in
        let most : most_left line ≡ before ++ recorded rest = ap (λ b. cond b (recorded line) (applied_in line)) whole ∙ all in
        let stands = worked.stands.state in
        let some_is : (x y : Attachment) → Some x ≡ Some y → x ≡ y = λ x y e. cc e in
        let same : stands.attachment ≡ a = some_is stands.attachment a (sym stands.attached ∙ (ap attachment_of is ∙ attached_from before a rest)) in
        let settings : core.state.settings ≡ settings_of a = stands.settings ∙ ap settings_of same in
        let work_is : core.state.work ≡ count_by is_work (recorded rest) =
        stands.work ∙ (ap work_applied is ∙ (ap (λ (l : List Entry). count_by is_work (applied_in l)) (behind_from before a rest) ∙ ap (count_by is_work) (sym (all_applied rest none_behind)))) in
        let budget_last : core.state.settings.budget ≡ session_budget budget before = ap (λ (s : SessionSettings). s.budget) settings ∙ budget_is in
        let pieces_last : core.state.settings.pieces ≡ pieces = ap (λ (s : SessionSettings). s.pieces) settings ∙ pieces_are in
        record {
          before = before;
          added = recorded rest;
          read_then = read;
          reads_now = subst (ReadsRecords pieces (g.reads new)) all (reads_now whole here);
          roots = core.state.forest;
          grown = subst (λ (rs : List BenchRecord). IsForestOf pieces rs core.state.forest) (ap applied_in is ∙ all) (subst (λ k. IsForestOf k (applied_in last.line) core.state.forest) pieces_last stands.forest);
          text_is = worked.text_is;
          roots_are = worked.roots_are ∙ ap (λ (ps : List Board). with_roots ps positions) first_roots;
          crash = subst (λ (rs : List BenchRecord). Recovers g pieces before rs old new) most (recovers_from opened);
          ends = ends_from budget (recorded rest) core.state.forest settled worked.settled_is
              (λ unsettled. subst (λ n. n ≤ count_by is_work (recorded rest)) budget_last (subst (λ n. core.state.settings.budget ≤ n) work_is (worked.spent unsettled)));
          ample = λ ample. worked.ample before a budget new_core budget_is
              (subst (λ k. IsAmple k a.depth budget positions before) (sym pieces_are) (subst (λ d. IsAmple pieces d budget positions before) (sym depth_is) ample));
          reached = λ room.
              subst (λ k. Each (IsReached k depth) (nodes core.state.forest)) pieces_are
              (subst (λ d. Each (IsReached a.pieces d) (nodes core.state.forest)) depth_is
              (worked.reached before a budget new_core budget_is limit_is (subst (λ k. IsRoomForEach k budget lease positions before) (sym pieces_are) room)));
        }

  -- ---- one that was refused

  pub keeps_refused : (pieces : ℕ) (old new : D)
      → NothingPending (g.reads old) (g.images old)
      → Leaves g.moment g.images_since old new (StaysOrFresh (g.images old) (g.reads old))
      → (9 < length (g.reads old) → g.reads new ≡ g.reads old)
      → NothingPending (g.reads new) (g.images new) ⊎ (IsFresh (g.reads old) × Rose (g.faults old) (g.faults new))
      → g.images new (g.reads new) → NowCounts new
      → ((s t : ℕ) (image : List ℕ) → s ≤ t → g.images_since new t image → g.images_since new s image)
      → KeepsJournal g pieces old new
  keeps_refused pieces old new none_pending leaves unwritten settled here now_counts earlier_counts =
      let left : (image : List ℕ) → MayLeave g old new image → StaysOrFresh (g.images old) (g.reads old) image =
      λ image. ⊎_elim (λ later. leaves.each image (earlier_counts (g.moment old) (g.moment old + 1) image (omega arith) later)) (λ now. leaves.each image (now_counts (g.moment old) image leaves.later now)) in
      let no_forest : IsForestOf pieces [] no_node = refl in
      record {
        recovers = λ before read. (
          before,
          λ image may. record {
            records = before;
            reads = record {
              payloads = read.payloads;
              stands = left_has pieces (g.images old) (g.reads old) image read.payloads none_pending read.stands (left image may);
              spelled = read.spelled;
              lawful = read.lawful;
            };
            above = prefix_same before;
            below = prefix_same before;
          },
        );
        unread = λ none.
            let long : 9 < length (g.reads old) =
            ⊎_elim (λ fresh. absurd (none [] (record { payloads = []; stands = inl (fresh, refl); spelled = tt; lawful = (no_node, no_forest) }))) (λ more. more) (fresh_or_long (length (g.reads old)) 9) in
            let same = unwritten long in
            record {
              same = same;
              none_added = λ image now. ⊎_elim (λ was. was) (λ fresh. absurd (omega (arith, fresh.0, long))) (left image (inr now));
              none_lost = λ image was. subst (g.images new) (same ∙ sym (none_pending image was)) here;
            };
        settled = ⊎_elim (λ none. inl none) (λ rose. inr rose.1) settled;
      }

  -- ---- the same of the calls' clauses

  module _ (s : Settings) (old : D) (first : SessionState D) (begins : IsAttachedTo g s old first) where
    opened_is : begins.attachment.opened ≡ g.moment old + 1
    opened_is = ap (λ (a : Attachment). a.opened) begins.is

    budget_is : begins.attachment.budget ≡ session_budget s.budget begins.replayed
    budget_is = ap (λ (a : Attachment). a.budget) begins.is

    pieces_are : begins.attachment.pieces ≡ s.pieces
    pieces_are = ap (λ (a : Attachment). a.pieces) begins.is

    faults_are : begins.attachment.faults ≡ g.faults first.disk
    faults_are = ap (λ (a : Attachment). a.faults) begins.is

    pub first_stands : IsCoreOf first.line first.core
    first_stands = subst (λ (l : List Entry). IsCoreOf l first.core) (sym begins.line) (new_core_stands begins.replayed begins.attachment first.core begins.core).0

    pub first_idle : IsIdle first
    first_idle = record {
      unfailed = ap is_failed begins.line ∙ replayed_whole begins.replayed begins.attachment;
      none_staged = begins.core.staged;
      unleased = ap (λ (t : LeaseRows). t.rows) begins.core.leases;
    }

    pub first_depth : first.core.state.settings.depth ≡ s.depth
    first_depth = ap (λ (t : SessionSettings). t.depth) begins.core.settings ∙ ap (λ (a : Attachment). a.depth) begins.is

    first_roots : root_positions first.core.state.forest ≡ begun begins.replayed
    first_roots = roots_are_those_begun begins.attachment.pieces begins.replayed first.core.state.forest begins.core.forest

    module _ (line : List Entry) (went : GoesOnFrom first.line line) where
      line_is : line ≡ line_from begins.replayed begins.attachment went.0
      line_is = went.1 ∙ (ap (λ (l : List Entry). l ++ went.0) begins.line ∙ append_assoc (map Put begins.replayed) (Attached begins.attachment ∷ []) went.0)

      attached_is : attachment_of line ≡ Some begins.attachment
      attached_is = ap attachment_of line_is ∙ attached_from begins.replayed begins.attachment went.0

      kept_is : (new : D) → IfSome (attachment_of line) (λ a. Keeps a.pieces line new) → Keeps s.pieces (line_from begins.replayed begins.attachment went.0) new
      kept_is new keeps =
          subst (λ l. Keeps s.pieces l new) line_is
          (subst (λ k. Keeps k line new) pieces_are (at_some (λ a. Keeps a.pieces line new) (attachment_of line) begins.attachment attached_is keeps))

      rose_is : (new : D) → IfSome (attachment_of line) (λ a. Rose a.faults (g.faults new)) → Rose begins.attachment.faults (g.faults new)
      rose_is new rose = at_some (λ (a : Attachment). Rose a.faults (g.faults new)) (attachment_of line) begins.attachment attached_is rose

      pub keeps_begun : (new : D) → IsHonest g.TELLS → g.faults old ≤ g.faults first.disk → IfSome (attachment_of line) (λ a. Keeps a.pieces line new) → (is_failed line ≡ true → IfSome (attachment_of line) (λ a. Rose a.faults (g.faults new)))
          → NowCounts new → KeepsJournal g s.pieces old new
      keeps_begun new honest no_fewer keeps broken now_counts =
          keeps_from s.pieces begins.replayed begins.attachment went.0 old new (kept_is new keeps) now_counts (begins.read honest) opened_is
          (subst (λ n. g.faults old ≤ n) (sym faults_are) no_fewer) (λ failed. rose_is new (broken (ap is_failed line_is ∙ failed)))

      pub rose_begun : (new : D) → g.faults old ≤ g.faults first.disk → IfSome (attachment_of line) (λ a. Rose a.faults (g.faults new)) → Rose (g.faults old) (g.faults new)
      rose_begun new no_fewer rose = rose_from (g.faults old) begins.attachment.faults (g.faults new) (subst (λ n. g.faults old ≤ n) (sym faults_are) no_fewer) (rose_is new rose)

    pub resumes_begun : (text_of : Forest → List ℕ) (positions : List Board) (last : SessionState D) (new : D) (text : List ℕ) (settled : Bool) (went : GoesOnFrom first.line last.line) → IsHonest g.TELLS
        → HasWorked text_of s.lease first positions last text settled → IfSome (attachment_of last.line) (λ a. Keeps a.pieces last.line new) → g.images new (g.reads new) → NowCounts new
        → Resumes g text_of s.pieces s.depth s.budget s.lease positions old new text settled
    resumes_begun text_of positions last new text settled went honest worked keeps here now_counts =
        resumes_from s.pieces begins.replayed begins.attachment went.0 old new (kept_is last.line went new keeps) now_counts text_of s.depth s.budget s.lease positions first last text settled
        (begins.read honest) opened_is budget_is pieces_are (ap (λ (a : Attachment). a.depth) begins.is) (ap (λ (a : Attachment). a.limit) begins.is) begins.core first_roots (line_is last.line went) worked here

    pub caused_begun : (positions : List Board) (r : RunRefusal) → IsHonest g.TELLS → IsWorkRefusal first positions r → IsCaused s.pieces positions (g.reads old) r
    caused_begun positions (refusal.Journal cause) honest h = subst (λ (b : Bool). OnFalse b (IsUnreadFor s.pieces (g.reads old) cause)) (sym h) tt
    caused_begun positions refusal.TooManyRoots honest h =
        (begins.replayed, (begins.read honest, subst (λ (ps : List Board). 65536 < length (with_roots ps positions)) first_roots h))

-- ---- a file that is no journal

refused_unread : (b : Bool) (pieces : ℕ) (file : List ℕ) (cause : JournalRefusal) → says_nothing_of_file cause ≡ b → ExplainsAttach file pieces cause
    → OnFalse b (Explains file pieces cause ⊎ ExplainsReplay file pieces cause) → OnFalse b (IsUnreadFor pieces file cause)
refused_unread true pieces file cause silent why stands = tt
refused_unread false pieces file cause told why stands =
    record { stands = stands; unread = λ before read. refused_files_read_as_none pieces file cause before why told read }

pub caused_refused : (pieces : ℕ) (positions : List Board) (file : List ℕ) (cause : JournalRefusal) (r : RunRefusal) → r ≡ refusal.Journal cause → ExplainsAttach file pieces cause → IsCaused pieces positions file r
caused_refused pieces positions file cause r is why =
    subst (IsCaused pieces positions file) (sym is) (refused_unread (says_nothing_of_file cause) pieces file cause refl why why)

pub caused_memory : (pieces : ℕ) (positions : List Board) (file : List ℕ) (error : AllocError) (r : RunRefusal) → r ≡ refusal.Journal (journal.Memory error) → IsCaused pieces positions file r
caused_memory pieces positions file error r is = subst (IsCaused pieces positions file) (sym is) tt

pub memory_is_no_fault : (error : AllocError) (r : RunRefusal) → r ≡ refusal.Journal (journal.Memory error) → r ≡ refusal.Journal journal.DiskFault → ⊥
memory_is_no_fault error r is fault = cc

pub is_fault : (cause : JournalRefusal) (r : RunRefusal) → r ≡ refusal.Journal cause → r ≡ refusal.Journal journal.DiskFault → cause ≡ journal.DiskFault
is_fault cause r of is = cc

-- ---- answers

pub if_ok : {T E : Type 0} (P Q : T → Type 0) (r : Result T E) → ((x : T) → P x → Q x) → IfOk r P → IfOk r Q
if_ok P Q (Ok x) f p = f x p
if_ok P Q (Err e) f p = tt

pub if_err : {T E : Type 0} (P Q : E → Type 0) (r : Result T E) → ((e : E) → P e → Q e) → IfErr r P → IfErr r Q
if_err P Q (Ok x) f p = tt
if_err P Q (Err e) f p = f e p

pub at_ok : {T E : Type 0} (P : T → Type 0) (r : Result T E) (x : T) → r ≡ Ok x → IfOk r P → P x
at_ok P r x is h = subst (λ q. IfOk q P) is h

pub if_ok_both : {T E : Type 0} (P P' Q : T → Type 0) (r : Result T E) → ((x : T) → P x → P' x → Q x) → IfOk r P → IfOk r P' → IfOk r Q
if_ok_both P P' Q (Ok x) f p p' = f x p p'
if_ok_both P P' Q (Err e) f p p' = tt

pub if_ok_on_both : {T E : Type 0} (A B : Type 0) (P P' Q : T → Type 0) (r : Result T E) → ((x : T) → A → B → P x → P' x → Q x) → OnOk r A → OnOk r B → IfOk r P → IfOk r P' → IfOk r Q
if_ok_on_both A B P P' Q (Ok x) f a b p p' = f x a b p p'
if_ok_on_both A B P P' Q (Err e) f a b p p' = tt
