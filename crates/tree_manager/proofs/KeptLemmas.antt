-- Each call keeps what a session keeps.
use Rattle.std.proofs.Common.{◌≡◌, ◌≤◌, ◌+◌, ◌-◌, ℕ, List, [], ◌∷◌, ◌++◌, length, refl, ap, sym, ◌∙◌, subst, arith, append_assoc, length-append}
use Rattle.std.specs.Prelude.{true, false, not, Some, IfSome}
use Rattle.std.specs.List.{AllByRecursion as Each}
use Rattle.std.proofs.lemmas.Bool.{true≢false}
use Rattle.std.proofs.lemmas.List.{append-nil}
use Rattle.bench_disk.specs.declared.disk.Disk.{Ghosts}
use Rattle.bench_disk.specs.Disk.{GoesOn, IsHonest}
use Rattle.shared_words.specs.Counts.{Rose}
use Rattle.disk_journal.specs.Log.{Log}
use Rattle.bench_records.specs.declared.records.BenchRecord.{BenchRecord}
use Rattle.bench_records.specs.Texts.{IsText}
use Rattle.bench_core.specs.Growing.{GrowsWithAll}
use Rattle.bench_core.specs.States.{SessionSettings}
use Rattle.bench_core.specs.Cores.{CanApplyAll, Core, MayStage, with_staged, IsCommitted}
use Rattle.tree_manager.specs.declared.entries.Attachment.{Attachment}
use Rattle.tree_manager.specs.declared.entries.Entry.{Entry}
use Rattle.tree_manager.specs.declared.entries.Entry.TheVariants as entry
use Rattle.tree_manager.specs.declared.marks.Mark.{Mark}
use Rattle.tree_manager.specs.declared.marks.Mark.TheVariants.{Put, Acked, Broken}
use Rattle.tree_manager.specs.Entries.{breaks, faults_told}
use Rattle.tree_manager.specs.Lines.{recorded, applied_in, unapplied_in, attachment_of, is_failed}
use Rattle.tree_manager.specs.Histories.{Enters, Follows}
use Rattle.tree_manager.specs.Weaving.{woven, entry_marked, puts_marked}
use Rattle.tree_manager.specs.Keeping.{waiting_leases, entries_owed, IsSession}
use Rattle.tree_manager.proofs.LineLemmas.{recorded_split, any_push_not, any_push_yes}
use Rattle.bench_core.proofs.Lists.{Each-append, Each-weaker}
use Rattle.tree_manager.proofs.CoreLemmas.{attachment_push, run_grown}
use Rattle.tree_manager.proofs.HistoryLaws.{history_stands, recorded_is}
use Rattle.tree_manager.proofs.OwedLemmas.{waiting_filter}
use Rattle.tree_manager.proofs.ReceiptLemmas.{HasCommitted, IsDurable, IsQuiet, synced_quiet, synced_put, synced_acked, synced_broken}
use Rattle.tree_manager.proofs.WeavingLemmas.{woven_put, woven_other, puts_push}

-- ---- lines

filled_all : (marks : List Mark) (core : Core) → puts_marked marks ≡ length core.records + length core.staged → puts_marked marks ≡ length (core.records ++ core.staged)
filled_all marks core h = h ∙ sym (length-append core.records core.staged)

-- the line behind an entry that puts nothing
pub line_other : (marks marks' : List Mark) (core core' : Core) (m : Mark) (e : Entry) → puts_marked marks ≡ length core.records + length core.staged → marks' ≡ marks ++ m ∷ [] → puts_marked (m ∷ []) ≡ 0
    → entry_marked m ≡ e ∷ [] → core'.records ++ core'.staged ≡ core.records ++ core.staged
    → woven marks' (core'.records ++ core'.staged) ≡ woven marks (core.records ++ core.staged) ++ e ∷ []
line_other marks marks' core core' m e filled is none one same =
    rw (is, same) (woven_other marks (core.records ++ core.staged) m (filled_all marks core filled) none ∙ ap (λ es. woven marks (core.records ++ core.staged) ++ es) one)

-- the line behind a Put
pub line_put : (marks marks' : List Mark) (core core' : Core) (r : BenchRecord) → puts_marked marks ≡ length core.records + length core.staged → marks' ≡ marks ++ Put ∷ [] → core'.records ≡ core.records → core'.staged ≡ core.staged ++ r ∷ []
    → woven marks' (core'.records ++ core'.staged) ≡ woven marks (core.records ++ core.staged) ++ entry.Put r ∷ []
line_put marks marks' core core' r filled is x y =
    rw (is, x, y, ← append_assoc core.records core.staged (r ∷ [])) (woven_put marks (core.records ++ core.staged) r (filled_all marks core filled))

-- the Attached tells no more faults than the line's most
attached_faults : (n : ℕ) (line : List Entry) (a : Attachment) → Each (λ e. faults_told e ≤ n) line → attachment_of line ≡ Some a → a.faults ≤ n
attached_faults n [] a each h = absurd (cc h)
attached_faults n (entry.Put r ∷ line) a each h = attached_faults n line a each.1 h
attached_faults n (entry.Attached b ∷ line) a each h =
    let same : b ≡ a = cc h in subst (λ (x : Attachment). x.faults ≤ n) same each.0
attached_faults n (entry.Leased l ∷ line) a each h = attached_faults n line a each.1 h
attached_faults n (entry.Released id ∷ line) a each h = attached_faults n line a each.1 h
attached_faults n (entry.Acked m ∷ line) a each h = attached_faults n line a each.1 h
attached_faults n (entry.Broken f ∷ line) a each h = attached_faults n line a each.1 h

pub rose_since : (a b c : ℕ) → a ≤ b → Rose b c → Rose a c
rose_since a b c le rose = omega (arith, le, rose)

-- a count that rose is more than any entry tells
pub each_rose : (line : List Entry) (old new : ℕ) → Each (λ e. faults_told e ≤ old) line → Rose old new → Each (λ e. Rose (faults_told e) new) line
each_rose line old new each rose = Each-weaker (λ e. faults_told e ≤ old) (λ e. Rose (faults_told e) new) (λ e h. rose_since (faults_told e) old new h rose) line each

-- ---- what a session keeps

module _ {D : Type 0} (g : Ghosts D) where
  abbrev Kept : List Entry → List Mark → ℕ → ℕ → Core → Log D → Type 0
  Kept line marks capacity due core log = IsSession g line marks capacity due core log

  -- a lease, or a release
  quiet_at : (line : List Entry) (marks marks' : List Mark) (capacity capacity' due due' : ℕ) (m : Mark) (e : Entry) (core core' : Core) (log : Log D)
      → Kept line marks capacity due core log → log.failed ≡ false → marks' ≡ marks ++ m ∷ [] → puts_marked (m ∷ []) ≡ 0 → IsQuiet e
      → core'.records ≡ core.records → core'.staged ≡ core.staged → core'.state.settings ≡ core.state.settings → CanApplyAll core'
      → Enters core e core' → entries_owed core' ≤ due' → length marks' + due' ≤ capacity'
      → Kept (line ++ e ∷ []) marks' capacity' due' core' log
  quiet_at line marks marks' capacity capacity' due due' m e core core' log kept unfailed is none quiet x y settings grows enters owed room =
      let line_whole : is_failed line ≡ false = sym kept.failed ∙ unfailed in
      let same : is_failed (line ++ e ∷ []) ≡ is_failed line = any_push_not breaks line e quiet.whole in
      record {
        filled = ap puts_marked is ∙ (puts_push marks m ∙ omega (arith, none, kept.filled, ap length x, ap length y));
        history = Follows (line ++ e ∷ []) core' line core e refl kept.history line_whole enters;
        grows = grows;
        failed = kept.failed ∙ sym same;
        pieces = kept.pieces ∙ sym (ap (λ (s : SessionSettings). s.pieces) settings);
        counted = λ h. kept.counted h ∙ sym (ap length x);
        as_many = λ h. kept.as_many h ∙ sym (ap length y);
        owed = λ h. owed;
        room = λ h. room;
        not_more = Each-append (λ e. faults_told e ≤ g.faults log.disk) line (e ∷ []) kept.not_more (omega (arith, quiet.no_faults), tt);
        broken = λ h. absurd (true≢false (sym h ∙ (same ∙ line_whole)));
        ended = λ h. absurd (true≢false (sym h ∙ (same ∙ line_whole)));
        synced = λ honest. synced_quiet g line e log quiet (kept.synced honest);
      }

  pub kept_quiet : (marks marks' : List Mark) (capacity capacity' due due' : ℕ) (m : Mark) (e : Entry) (core core' : Core) (log : Log D)
      → Kept (woven marks (core.records ++ core.staged)) marks capacity due core log → log.failed ≡ false → marks' ≡ marks ++ m ∷ [] → puts_marked (m ∷ []) ≡ 0 → entry_marked m ≡ e ∷ [] → IsQuiet e
      → core'.records ≡ core.records → core'.staged ≡ core.staged → core'.state.settings ≡ core.state.settings → CanApplyAll core'
      → Enters core e core' → entries_owed core' ≤ due' → length marks' + due' ≤ capacity'
      → Kept (woven marks' (core'.records ++ core'.staged)) marks' capacity' due' core' log
  kept_quiet marks marks' capacity capacity' due due' m e core core' log kept unfailed is none one quiet x y settings grows enters owed room =
      subst (λ line. Kept line marks' capacity' due' core' log) (sym (line_other marks marks' core core' m e kept.filled is none one (rw (x, y) refl)))
      (quiet_at (woven marks (core.records ++ core.staged)) marks marks' capacity capacity' due due' m e core core' log kept unfailed is none quiet x y settings grows enters owed room)

  -- a record is staged
  put_at : (line : List Entry) (marks marks' : List Mark) (capacity capacity' due due' : ℕ) (core : Core) (r : BenchRecord) (text : List ℕ) (log : Log D)
      → Kept line marks capacity due core log → log.failed ≡ false → marks' ≡ marks ++ Put ∷ [] → MayStage core r → IsText core.state.settings.pieces (core.records ++ core.staged) r text
      → CanApplyAll (with_staged core r) → entries_owed (with_staged core r) ≤ due' → length marks' + due' ≤ capacity'
      → Kept (line ++ entry.Put r ∷ []) marks' capacity' due' (with_staged core r) (record log { staged = log.staged ++ text ∷ [] })
  put_at line marks marks' capacity capacity' due due' core r text log kept unfailed is may is_text grows owed room =
      let line_whole : is_failed line ≡ false = sym kept.failed ∙ unfailed in
      let same : is_failed (line ++ entry.Put r ∷ []) ≡ is_failed line = any_push_not breaks line (entry.Put r) refl in
      record {
        filled = ap puts_marked is ∙ (puts_push marks Put ∙ omega (arith, kept.filled, length-append core.staged (r ∷ [])));
        history = Follows (line ++ entry.Put r ∷ []) (with_staged core r) line core (entry.Put r) refl kept.history line_whole (may, refl);
        grows = grows;
        failed = kept.failed ∙ sym same;
        pieces = kept.pieces;
        counted = kept.counted;
        as_many = λ h. length-append log.staged (text ∷ []) ∙ omega (arith, kept.as_many h, length-append core.staged (r ∷ []));
        owed = λ h. owed;
        room = λ h. room;
        not_more = Each-append (λ e. faults_told e ≤ g.faults log.disk) line (entry.Put r ∷ []) kept.not_more (omega arith, tt);
        broken = λ h. absurd (true≢false (sym h ∙ (same ∙ line_whole)));
        ended = λ h. absurd (true≢false (sym h ∙ (same ∙ line_whole)));
        synced = λ honest. synced_put g line r text log line_whole (rw kept.pieces (subst (λ rs. IsText core.state.settings.pieces rs r text) (sym (recorded_is line core kept.history)) is_text)) (kept.synced honest);
      }

  pub kept_put : (marks marks' : List Mark) (capacity capacity' due due' : ℕ) (core core' : Core) (r : BenchRecord) (text : List ℕ) (log log' : Log D)
      → Kept (woven marks (core.records ++ core.staged)) marks capacity due core log → log.failed ≡ false → marks' ≡ marks ++ Put ∷ [] → MayStage core r → IsText core.state.settings.pieces (core.records ++ core.staged) r text
      → core' ≡ with_staged core r → CanApplyAll core' → entries_owed core' ≤ due' → length marks' + due' ≤ capacity' → log' ≡ record log { staged = log.staged ++ text ∷ [] }
      → Kept (woven marks' (core'.records ++ core'.staged)) marks' capacity' due' core' log'
  kept_put marks marks' capacity capacity' due due' core core' r text log log' kept unfailed is may is_text same grows owed room logged =
      subst (λ (c : Core). Kept (woven marks' (c.records ++ c.staged)) marks' capacity' due' c log') (sym same)
      (subst (λ l. Kept (woven marks' (core.records ++ (core.staged ++ r ∷ []))) marks' capacity' due' (with_staged core r) l) (sym logged)
      (subst (λ line. Kept line marks' capacity' due' (with_staged core r) (record log { staged = log.staged ++ text ∷ [] })) (sym (line_put marks marks' core (with_staged core r) r kept.filled is refl refl))
      (put_at (woven marks (core.records ++ core.staged)) marks marks' capacity capacity' due due' core r text log kept unfailed is may is_text
      (subst CanApplyAll same grows) (subst (λ c. entries_owed c ≤ due') same owed) room)))

  -- a commit that is Ok
  acked_at : (line : List Entry) (marks marks' : List Mark) (capacity capacity' due due' : ℕ) (core core' : Core) (old new : Log D)
      → Kept line marks capacity due core old → old.failed ≡ false → marks' ≡ marks ++ Acked (g.moment new.disk) ∷ [] → length marks' + due' ≤ capacity' → due' ≡ due - length old.staged
      → IsCommitted core core'
      → new.pieces ≡ old.pieces → new.staged ≡ [] → new.failed ≡ false → new.count ≡ old.count + length old.staged → g.faults old.disk ≤ g.faults new.disk
      → (IsHonest g.TELLS → HasCommitted g old new) → (IsHonest g.TELLS → IsDurable g old new (g.moment new.disk))
      → Kept (line ++ entry.Acked (g.moment new.disk) ∷ []) marks' capacity' due' core' new
  acked_at line marks marks' capacity capacity' due due' core core' old new kept unfailed is room spent committed pieces none unbroken count later left durable =
      let e : Entry = entry.Acked (g.moment new.disk) in
      let line_whole : is_failed line ≡ false = sym kept.failed ∙ unfailed in
      let same : is_failed (line ++ e ∷ []) ≡ is_failed line = any_push_not breaks line e refl in
      let grown = run_grown core.state core'.state committed.events committed.run in
      let records : length core'.records ≡ length core.records + length core.staged = ap length committed.records ∙ length-append core.records core.staged in
      let staged : length core'.staged ≡ 0 = ap length committed.staged in
      let fewer : waiting_leases core'.state.leases.rows ≤ waiting_leases core.state.leases.rows =
      subst (λ rows. waiting_leases rows ≤ waiting_leases core.state.leases.rows) (sym committed.ended) (waiting_filter (λ row. not row.kept) core.state.leases.rows) in
      record {
        filled = ap puts_marked is ∙ (puts_push marks (Acked (g.moment new.disk)) ∙ omega (arith, kept.filled, records, staged));
        history = Follows (line ++ e ∷ []) core' line core e refl kept.history line_whole committed;
        grows = (core'.state.forest, subst (λ rs. GrowsWithAll core'.state.settings.pieces core'.state.forest rs core'.state.forest) (sym committed.staged) refl);
        failed = unbroken ∙ sym (same ∙ line_whole);
        pieces = pieces ∙ (kept.pieces ∙ sym (ap (λ (s : SessionSettings). s.pieces) grown.settings));
        counted = λ h. omega (arith, count, kept.counted unfailed, kept.as_many unfailed, records);
        as_many = λ h. ap length none ∙ sym staged;
        owed = λ h. omega (arith, fewer, staged, spent, kept.owed unfailed, kept.as_many unfailed);
        room = λ h. room;
        not_more = Each-append (λ e. faults_told e ≤ g.faults new.disk) line (e ∷ []) (Each-weaker (λ e. faults_told e ≤ g.faults old.disk) (λ e. faults_told e ≤ g.faults new.disk) (λ e h. omega (arith, h, later)) line kept.not_more) (omega arith, tt);
        broken = λ h. absurd (true≢false (sym h ∙ (same ∙ line_whole)));
        ended = λ h. absurd (true≢false (sym h ∙ (same ∙ line_whole)));
        synced = λ honest. synced_acked g line old new line_whole pieces none unbroken (left honest) (durable honest) (kept.synced honest);
      }

  pub kept_acked : (marks marks' : List Mark) (capacity capacity' due due' : ℕ) (core core' : Core) (old new : Log D) (t : ℕ)
      → Kept (woven marks (core.records ++ core.staged)) marks capacity due core old → old.failed ≡ false → marks' ≡ marks ++ Acked t ∷ [] → t ≡ g.moment new.disk → length marks' + due' ≤ capacity' → due' ≡ due - length old.staged
      → IsCommitted core core'
      → new.pieces ≡ old.pieces → new.staged ≡ [] → new.failed ≡ false → new.count ≡ old.count + length old.staged → g.faults old.disk ≤ g.faults new.disk
      → (IsHonest g.TELLS → HasCommitted g old new) → (IsHonest g.TELLS → IsDurable g old new t)
      → Kept (woven marks' (core'.records ++ core'.staged)) marks' capacity' due' core' new
  kept_acked marks marks' capacity capacity' due due' core core' old new t kept unfailed is now room spent committed pieces none unbroken count later left durable =
      let is' : marks' ≡ marks ++ Acked (g.moment new.disk) ∷ [] = is ∙ ap (λ m. marks ++ Acked m ∷ []) now in
      subst (λ line. Kept line marks' capacity' due' core' new)
      (sym (line_other marks marks' core core' (Acked (g.moment new.disk)) (entry.Acked (g.moment new.disk)) kept.filled is' refl refl (rw (committed.records, committed.staged) (append-nil (core.records ++ core.staged)))))
      (acked_at (woven marks (core.records ++ core.staged)) marks marks' capacity capacity' due due' core core' old new kept unfailed is' room spent committed pieces none unbroken count later left
      (λ honest. subst (IsDurable g old new) now (durable honest)))

  -- a commit that met a fault
  broken_at : (line : List Entry) (marks marks' : List Mark) (capacity capacity' due : ℕ) (core : Core) (old new : Log D)
      → Kept line marks capacity due core old → old.failed ≡ false → marks' ≡ marks ++ Broken (g.faults new.disk) ∷ []
      → new.pieces ≡ old.pieces → new.failed ≡ true → Rose (g.faults old.disk) (g.faults new.disk) → g.faults old.disk ≤ g.faults new.disk
      → (IsHonest g.TELLS → HasCommitted g old new)
      → Kept (line ++ entry.Broken (g.faults new.disk) ∷ []) marks' capacity' due core new
  broken_at line marks marks' capacity capacity' due core old new kept unfailed is pieces failed rose later left =
      let e : Entry = entry.Broken (g.faults new.disk) in
      let line_whole : is_failed line ≡ false = sym kept.failed ∙ unfailed in
      let stands = (history_stands line core kept.history).0 in
      let a : Attachment = stands.state.attachment in
      let never : new.failed ≡ false → ⊥ = λ h. true≢false (sym failed ∙ h) in
      record {
        filled = ap puts_marked is ∙ (puts_push marks (Broken (g.faults new.disk)) ∙ omega (arith, kept.filled));
        history = Follows (line ++ e ∷ []) core line core e refl kept.history line_whole refl;
        grows = kept.grows;
        failed = failed ∙ sym (any_push_yes breaks line e refl);
        pieces = pieces ∙ kept.pieces;
        counted = λ h. absurd (never h);
        as_many = λ h. absurd (never h);
        owed = λ h. absurd (never h);
        room = λ h. absurd (never h);
        not_more = Each-append (λ e. faults_told e ≤ g.faults new.disk) line (e ∷ []) (Each-weaker (λ e. faults_told e ≤ g.faults old.disk) (λ e. faults_told e ≤ g.faults new.disk) (λ e h. omega (arith, h, later)) line kept.not_more) (omega arith, tt);
        broken = λ h. subst (λ found. IfSome found (λ (b : Attachment). Rose b.faults (g.faults new.disk))) (sym (attachment_push line e a stands.state.attached))
            (rose_since a.faults (g.faults old.disk) (g.faults new.disk) (attached_faults (g.faults old.disk) line a kept.not_more stands.state.attached) rose);
        ended = λ h. record {
          before = line;
          faults = g.faults new.disk;
          ends = refl;
          attachment = a;
          attached = attachment_push line e a stands.state.attached;
          rose = rose_since a.faults (g.faults old.disk) (g.faults new.disk) (attached_faults (g.faults old.disk) line a kept.not_more stands.state.attached) rose;
        };
        synced = λ honest. synced_broken g line old new (g.faults new.disk) line_whole pieces failed (left honest) (kept.synced honest);
      }

  pub kept_broken : (marks marks' : List Mark) (capacity capacity' due : ℕ) (core : Core) (old new : Log D) (count : ℕ)
      → Kept (woven marks (core.records ++ core.staged)) marks capacity due core old → old.failed ≡ false → marks' ≡ marks ++ Broken count ∷ [] → count ≡ g.faults new.disk
      → new.pieces ≡ old.pieces → new.failed ≡ true → Rose (g.faults old.disk) (g.faults new.disk) → g.faults old.disk ≤ g.faults new.disk
      → (IsHonest g.TELLS → HasCommitted g old new)
      → Kept (woven marks' (core.records ++ core.staged)) marks' capacity' due core new
  kept_broken marks marks' capacity capacity' due core old new count kept unfailed is now pieces failed rose later left =
      let is' : marks' ≡ marks ++ Broken (g.faults new.disk) ∷ [] = is ∙ ap (λ m. marks ++ Broken m ∷ []) now in
      subst (λ line. Kept line marks' capacity' due core new)
      (sym (line_other marks marks' core core (Broken (g.faults new.disk)) (entry.Broken (g.faults new.disk)) kept.filled is' refl refl refl))
      (broken_at (woven marks (core.records ++ core.staged)) marks marks' capacity capacity' due core old new kept unfailed is' pieces failed rose later left)

  -- the number of its records
  pub number_of : (line : List Entry) (marks : List Mark) (capacity due : ℕ) (core : Core) (log : Log D) → Kept line marks capacity due core log → log.failed ≡ false → core.staged ≡ [] → log.count ≡ length (recorded line)
  number_of line marks capacity due core log kept unfailed none =
      let stands = (history_stands line core kept.history).0 in
      kept.counted unfailed
      ∙ sym (ap length (recorded_split line) ∙ (length-append (applied_in line) (unapplied_in line) ∙ omega (arith, ap length stands.records, ap length stands.staged, ap length none)))

  -- its calls come later
  pub moment_on : (line : List Entry) (marks : List Mark) (capacity due : ℕ) (core : Core) (old new : Log D) → Kept line marks capacity due core old → old.failed ≡ false
      → HasCommitted g old new → IsHonest g.TELLS → g.moment old.disk ≤ g.moment new.disk
  moment_on line marks capacity due core old new kept unfailed left honest =
      let synced = kept.synced honest in
      (left.crash synced.payloads (synced.at_rest (sym kept.failed ∙ unfailed)).0).later

  -- what a crash might have left goes on
  pub goes_on : (line : List Entry) (marks : List Mark) (capacity due : ℕ) (core : Core) (old new : Log D) → Kept line marks capacity due core old → old.failed ≡ false
      → HasCommitted g old new → IsHonest g.TELLS → GoesOn (g.moment old.disk) (g.images_since old.disk) (g.images_since new.disk)
  goes_on line marks capacity due core old new kept unfailed left honest =
      let synced = kept.synced honest in
      (left.crash synced.payloads (synced.at_rest (sym kept.failed ∙ unfailed)).0).since
