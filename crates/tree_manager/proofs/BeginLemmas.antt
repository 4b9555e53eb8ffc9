-- A session that stages roots.
use Rattle.std.proofs.Common.{◌≡◌, ◌≤◌, ◌+◌, ℕ, suc, List, [], ◌∷◌, ◌++◌, map, length, refl, ap, sym, ◌∙◌, subst, inl, inr, ⊎_elim, arith, append_assoc, append-nil, length-append}
use Rattle.std.specs.Prelude.{◌⊎◌, Bool, true, false, cond, filter}
use Rattle.std.specs.List.{AllByRecursion as Each}
use Rattle.std.proofs.lemmas.Bool.{true≢false}
use Rattle.bench_disk.specs.declared.disk.Disk.{Ghosts}
use Rattle.shared_words.specs.Counts.{Rose}
use Rattle.disk_journal.specs.Log.{Log}
use Rattle.draughts_board.specs.Board.{Board}
use Rattle.lease_table.specs.declared.leases.Row.{Row}
use Rattle.lease_table.specs.Rows.{is_live_row}
use Rattle.bench_records.specs.declared.records.BenchRecord.{BenchRecord}
use Rattle.bench_records.specs.declared.records.BenchRecord.TheVariants.{Begin}
use Rattle.bench_core.specs.Cores.{CanApplyAll, Core, IsCommitted}
use Rattle.tree_manager.specs.declared.entries.Entry.{Entry}
use Rattle.tree_manager.specs.declared.entries.Entry.TheVariants as entry
use Rattle.tree_manager.specs.declared.marks.Mark.{Mark}
use Rattle.tree_manager.specs.declared.marks.Mark.TheVariants.{Put}
use Rattle.tree_manager.specs.Entries.{breaks, faults_told}
use Rattle.tree_manager.specs.Lines.{recorded, is_failed}
use Rattle.tree_manager.specs.Histories.{IsCoreOf, IsHistory, Follows}
use Rattle.tree_manager.specs.Receipts.{SpellsRecords}
use Rattle.tree_manager.specs.Synced.{IsSynced}
use Rattle.tree_manager.specs.Weaving.{woven, puts_marked}
use Rattle.tree_manager.specs.Keeping.{IsSession}
use Rattle.tree_manager.specs.Sessions.{SessionState, Appends, with_roots, with_roots_staged, MayStageRoots, BeginsRoots, HasBegun, RefusesCommit}
use Rattle.tree_manager.specs.declared.refusals.CommitRefusal.{CommitRefusal}
use Rattle.tree_manager.specs.declared.refusals.CommitRefusal.TheVariants as commit
use Rattle.proof_tree.specs.Sound.{root_positions}
use Rattle.tree_manager.proofs.LineLemmas.{any_push_not, recorded_push}
use Rattle.bench_core.proofs.Lists.{Each-append}
use Rattle.tree_manager.proofs.HistoryLaws.{history_stands, recorded_is}
use Rattle.tree_manager.proofs.ForgetLemmas.{rows_live}
use Rattle.tree_manager.proofs.ReceiptLemmas.{spell_length, synced_put}
use Rattle.tree_manager.proofs.WeavingLemmas.{woven_put, puts_push}
use Rattle.tree_manager.proofs.RootLemmas.{length_begins, root_staged}

-- the entries of these roots
abbrev pub root_puts : List Board → List Entry
root_puts added = map (λ p. entry.Put (Begin p)) added

push_more : {X : Type 0} (xs : List X) (x : X) (ys : List X) → (xs ++ x ∷ []) ++ ys ≡ xs ++ x ∷ ys
push_more [] x ys = refl
push_more (z ∷ xs) x ys = ap (λ l. z ∷ l) (push_more xs x ys)

-- ---- the line

puts_more : (added : List Board) (marks : List Mark) → puts_marked (marks ++ map (λ _. Put) added) ≡ puts_marked marks + length added
puts_more [] marks = ap puts_marked (append-nil marks) ∙ omega arith
puts_more (p ∷ added) marks =
    ap puts_marked (sym (push_more marks Put (map (λ _. Put) added))) ∙ (puts_more added (marks ++ Put ∷ []) ∙ omega (arith, puts_push marks Put))

woven_roots : (added : List Board) (marks : List Mark) (rs : List BenchRecord) → puts_marked marks ≡ length rs → woven (marks ++ map (λ _. Put) added) (rs ++ map Begin added) ≡ woven marks rs ++ root_puts added
woven_roots [] marks rs h = rw (append-nil marks, append-nil rs) (sym (append-nil (woven marks rs)))
woven_roots (p ∷ added) marks rs h =
    rw (← push_more marks Put (map (λ _. Put) added), ← push_more rs (Begin p) (map Begin added))
    (woven_roots added (marks ++ Put ∷ []) (rs ++ Begin p ∷ []) (puts_push marks Put ∙ omega (arith, h, length-append rs (Begin p ∷ [])))
    ∙ (ap (λ l. l ++ root_puts added) (woven_put marks rs (Begin p) h) ∙ push_more (woven marks rs) (entry.Put (Begin p)) (root_puts added)))

failed_roots : (added : List Board) (line : List Entry) → is_failed (line ++ root_puts added) ≡ is_failed line
failed_roots [] line = ap is_failed (append-nil line)
failed_roots (p ∷ added) line =
    ap is_failed (sym (push_more line (entry.Put (Begin p)) (root_puts added))) ∙ (failed_roots added (line ++ entry.Put (Begin p) ∷ []) ∙ any_push_not breaks line (entry.Put (Begin p)) refl)

-- ---- its history

roots_more_staged : (core : Core) (p : Board) (added : List Board) → with_roots_staged (with_roots_staged core (p ∷ [])) added ≡ with_roots_staged core (p ∷ added)
roots_more_staged core p added = ap (λ rs. record core { staged = rs }) (push_more core.staged (Begin p) (map Begin added))

history_roots : (added : List Board) (line : List Entry) (core : Core) → IsHistory line core → is_failed line ≡ false → MayStageRoots core added → IsHistory (line ++ root_puts added) (with_roots_staged core added)
history_roots [] line core history whole may = subst (λ l. IsHistory l (with_roots_staged core [])) (sym (append-nil line)) (subst (λ rs. IsHistory line (record core { staged = rs })) (sym (append-nil core.staged)) history)
history_roots (p ∷ added) line core history whole may =
    let e : Entry = entry.Put (Begin p) in
    let next = Follows (line ++ e ∷ []) (with_roots_staged core (p ∷ [])) line core e refl history whole (may.0, sym (root_staged core p)) in
    subst (λ l. IsHistory l (with_roots_staged core (p ∷ added))) (push_more line e (root_puts added))
    (subst (IsHistory ((line ++ e ∷ []) ++ root_puts added)) (roots_more_staged core p added)
    (history_roots added (line ++ e ∷ []) (with_roots_staged core (p ∷ [])) next (any_push_not breaks line e refl ∙ whole) may.1))

faults_roots : (n : ℕ) (added : List Board) → Each (λ e. faults_told e ≤ n) (root_puts added)
faults_roots n [] = tt
faults_roots n (p ∷ added) = (omega arith, faults_roots n added)

-- the line behind the Puts
pub line_roots : (marks marks' : List Mark) (core core' : Core) (added : List Board) → puts_marked marks ≡ length core.records + length core.staged → marks' ≡ marks ++ map (λ _. Put) added → core' ≡ with_roots_staged core added
    → woven marks' (core'.records ++ core'.staged) ≡ woven marks (core.records ++ core.staged) ++ root_puts added
line_roots marks marks' core core' added filled is same =
    ap (λ (c : Core). woven marks' (c.records ++ c.staged)) same
    ∙ (ap (λ ms. woven ms (core.records ++ (core.staged ++ map Begin added))) is
    ∙ (ap (λ rs. woven (marks ++ map (λ _. Put) added) rs) (sym (append_assoc core.records core.staged (map Begin added)))
    ∙ woven_roots added marks (core.records ++ core.staged) (filled ∙ sym (length-append core.records core.staged))))

keep_all : (b : Bool) (row : Row) (rows rows' : List Row) → b ≡ true → rows' ≡ rows → cond b (row ∷ rows') rows' ≡ row ∷ rows
keep_all b row rows rows' is same = rw (is, same) refl

filter_all : (t : Row → Bool) (rows : List Row) → Each (λ row. t row ≡ true) rows → filter t rows ≡ rows
filter_all t [] h = refl
filter_all t (row ∷ rows) h = keep_all (t row) row rows (filter t rows) h.0 (filter_all t rows h.1)

-- the rows of a session's bench live
pub rows_alive : (line : List Entry) (core : Core) → IsHistory line core → filter (is_live_row core.state.leases.limit core.state.given) core.state.leases.rows ≡ core.state.leases.rows
rows_alive line core history =
    let stands = (history_stands line core history).0 in
    filter_all (is_live_row core.state.leases.limit core.state.given) core.state.leases.rows
    (subst (Each (λ row. is_live_row core.state.leases.limit core.state.given row ≡ true)) (sym stands.state.rows) (rows_live core.state.leases.limit core.state.given line))

length_marks : (added : List Board) → length (map (λ (p : Board). Put) added) ≡ length added
length_marks [] = refl
length_marks (p ∷ added) = ap suc (length_marks added)

module _ {D : Type 0} (g : Ghosts D) where
  synced_roots : (added : List Board) (line : List Entry) (texts : List (List ℕ)) (log : Log D) → is_failed line ≡ false → SpellsRecords log.pieces (recorded line) (map Begin added) texts
      → IsSynced g line log → IsSynced g (line ++ root_puts added) (record log { staged = log.staged ++ texts })
  synced_roots [] line [] log whole spelled s =
      subst (λ l. IsSynced g l (record log { staged = log.staged ++ [] })) (sym (append-nil line)) (subst (λ ts. IsSynced g line (record log { staged = ts })) (sym (append-nil log.staged)) s)
  synced_roots [] line (text ∷ texts) log whole spelled s = absurd spelled
  synced_roots (p ∷ added) line [] log whole spelled s = absurd spelled
  synced_roots (p ∷ added) line (text ∷ texts) log whole spelled s =
      let e : Entry = entry.Put (Begin p) in
      let next = synced_put g line (Begin p) text log whole spelled.0 s in
      subst (λ l. IsSynced g l (record log { staged = log.staged ++ text ∷ texts })) (push_more line e (root_puts added))
      (subst (λ ts. IsSynced g ((line ++ e ∷ []) ++ root_puts added) (record log { staged = ts })) (push_more log.staged text texts)
      (synced_roots added (line ++ e ∷ []) texts (record log { staged = log.staged ++ text ∷ [] }) (any_push_not breaks line e refl ∙ whole) (subst (λ b. SpellsRecords log.pieces b (map Begin added) texts) (sym (recorded_push line e)) spelled.1) next))

  roots_at : (line : List Entry) (marks : List Mark) (capacity capacity' due : ℕ) (core : Core) (log : Log D) (added : List Board) (texts : List (List ℕ))
      → IsSession g line marks capacity due core log → log.failed ≡ false → MayStageRoots core added → CanApplyAll (with_roots_staged core added)
      → SpellsRecords core.state.settings.pieces (core.records ++ core.staged) (map Begin added) texts → length texts ≡ length added → length marks + (due + length added + length added) ≤ capacity'
      → IsSession g (line ++ root_puts added) (marks ++ map (λ _. Put) added) capacity' (due + length added) (with_roots_staged core added) (record log { staged = log.staged ++ texts })
  roots_at line marks capacity capacity' due core log added texts kept unfailed may grows spelled many room =
      let whole : is_failed line ≡ false = sym kept.failed ∙ unfailed in
      let same : is_failed (line ++ root_puts added) ≡ is_failed line = failed_roots added line in
      let staged : length (core.staged ++ map Begin added) ≡ length core.staged + length added = length-append core.staged (map Begin added) ∙ omega (arith, length_begins added) in
      record {
        filled = puts_more added marks ∙ omega (arith, kept.filled, staged);
        history = history_roots added line core kept.history whole may;
        grows = grows;
        failed = kept.failed ∙ sym same;
        pieces = kept.pieces;
        counted = kept.counted;
        as_many = λ h. length-append log.staged texts ∙ omega (arith, kept.as_many h, many, staged);
        owed = λ h. omega (arith, kept.owed h, staged);
        room = λ h. omega (arith, room, length-append marks (map (λ _. Put) added), length_marks added);
        not_more = Each-append (λ e. faults_told e ≤ g.faults log.disk) line (root_puts added) kept.not_more (faults_roots (g.faults log.disk) added);
        broken = λ h. absurd (true≢false (sym h ∙ (same ∙ whole)));
        ended = λ h. absurd (true≢false (sym h ∙ (same ∙ whole)));
        synced = λ honest. synced_roots added line texts log whole (subst (λ k. SpellsRecords k (recorded line) (map Begin added) texts) (sym kept.pieces)
            (subst (λ rs. SpellsRecords core.state.settings.pieces rs (map Begin added) texts) (sym (recorded_is line core kept.history)) spelled)) (kept.synced honest);
      }

  -- the session behind the Puts
  pub kept_roots : (marks marks' : List Mark) (capacity capacity' due due' : ℕ) (core core' : Core) (log log' : Log D) (added : List Board)
      → IsSession g (woven marks (core.records ++ core.staged)) marks capacity due core log → log.failed ≡ false → marks' ≡ marks ++ map (λ _. Put) added → core' ≡ with_roots_staged core added
      → MayStageRoots core added → CanApplyAll core'
      → (texts : List (List ℕ)) × SpellsRecords core.state.settings.pieces (core.records ++ core.staged) (map Begin added) texts × (log' ≡ record log { staged = log.staged ++ texts })
      → due' ≡ due + length added → length marks + (due + length added + length added) ≤ capacity'
      → IsSession g (woven marks' (core'.records ++ core'.staged)) marks' capacity' due' core' log'
  kept_roots marks marks' capacity capacity' due due' core core' log log' added kept unfailed is same may grows journal owing room =
      let texts : List (List ℕ) = journal.0 in
      let many : length texts ≡ length added = sym (spell_length core.state.settings.pieces (core.records ++ core.staged) (map Begin added) texts journal.1) ∙ length_begins added in
      let line = line_roots marks marks' core core' added kept.filled is same in
      let whole =
      roots_at (woven marks (core.records ++ core.staged)) marks capacity capacity' due core log added texts kept unfailed may (subst CanApplyAll same grows) journal.1 many room in
      subst (λ l. IsSession g l marks' capacity' due' core' log') (sym line)
      (subst (λ (c : Core). IsSession g (woven marks (core.records ++ core.staged) ++ root_puts added) marks' capacity' due' c log') (sym same)
      (subst (λ l. IsSession g (woven marks (core.records ++ core.staged) ++ root_puts added) marks' capacity' due' (with_roots_staged core added) l) (sym journal.2)
      (subst (λ n. IsSession g (woven marks (core.records ++ core.staged) ++ root_puts added) marks' capacity' n (with_roots_staged core added) (record log { staged = log.staged ++ texts })) (sym owing)
      (subst (λ ms. IsSession g (woven marks (core.records ++ core.staged) ++ root_puts added) ms capacity' (due + length added) (with_roots_staged core added) (record log { staged = log.staged ++ texts })) (sym is) whole))))

-- ---- what the call has done

-- roots are staged, and not yet committed
pub record AreBeginning {D : Type 0} (old mid : SessionState D) (positions added : List Board) : Type 0 where
  pub all : root_positions old.core.state.forest ++ added ≡ with_roots (root_positions old.core.state.forest) positions
  pub line : mid.line ≡ old.line ++ root_puts added
  pub core : mid.core ≡ with_roots_staged old.core added
  pub whole : is_failed old.line ≡ false
  pub unfailed : is_failed mid.line ≡ false
  pub forest : mid.core.state.forest ≡ old.core.state.forest
  pub disk : mid.disk ≡ old.disk

pub are_beginning : {D : Type 0} (marks marks' : List Mark) (core core' : Core) (log log' : Log D) (positions added : List Board) → puts_marked marks ≡ length core.records + length core.staged → marks' ≡ marks ++ map (λ _. Put) added → core' ≡ with_roots_staged core added → log'.disk ≡ log.disk
    → is_failed (woven marks (core.records ++ core.staged)) ≡ false → root_positions core.state.forest ++ added ≡ with_roots (root_positions core.state.forest) positions
    → AreBeginning (record { line = woven marks (core.records ++ core.staged); core = core; disk = log.disk }) (record { line = woven marks' (core'.records ++ core'.staged); core = core'; disk = log'.disk }) positions added
are_beginning marks marks' core core' log log' positions added filled is same disk whole all =
    let line = line_roots marks marks' core core' added filled is same in
    record {
      all = all;
      line = line;
      core = same;
      whole = whole;
      unfailed = ap is_failed line ∙ (failed_roots added (woven marks (core.records ++ core.staged)) ∙ whole);
      forest = ap (λ (c : Core). c.state.forest) same;
      disk = disk;
    }

some_or_none : {X : Type 0} (xs : List X) → (xs ≡ []) ⊎ (xs ≡ [] → ⊥)
some_or_none [] = inl refl
some_or_none (x ∷ xs) = inr (λ h. cc h)

pub has_begun : {D : Type 0} (old mid new : SessionState D) (positions added : List Board) (moment : ℕ) → AreBeginning old mid positions added → (is_failed mid.line ≡ false → mid.core.staged ≡ [] → new ≡ mid)
    → ((mid.core.staged ≡ [] → ⊥) → Appends mid (entry.Acked moment) new) → new.core.staged ≡ [] → HasBegun old positions moment new
has_begun old mid new positions added moment h idle appends none = ⊎_elim
    (λ nothing. record {
      last = [];
      roots = record { added = added; all = h.all; line = ap (λ (s : SessionState _). s.line) (idle h.unfailed nothing) ∙ (h.line ∙ ap (λ l. old.line ++ l) (sym (append-nil (root_puts added)))) };
      acknowledged = inl refl;
      exactly = ((λ is. subst (λ (c : Core). c.staged ≡ []) h.core nothing), (λ is. refl));
      applied = inl (ap (λ (s : SessionState _). s.core) (idle h.unfailed nothing) ∙ h.core);
      none_staged = none;
    })
    (λ some. record {
      last = entry.Acked moment ∷ [];
      roots = record { added = added; all = h.all; line = (appends some).line ∙ (ap (λ l. l ++ entry.Acked moment ∷ []) h.line ∙ append_assoc old.line (root_puts added) (entry.Acked moment ∷ [])) };
      acknowledged = inr refl;
      exactly = ((λ is. absurd (cc is)), (λ is. absurd (some (subst (λ (c : Core). c.staged ≡ []) (sym h.core) is))));
      applied = inr (subst (λ (c : Core). IsCommitted c new.core) h.core (appends some).enters);
      none_staged = none;
    })
    (some_or_none mid.core.staged)

-- the line behind them stands for the core
pub begun_stands : {D : Type 0} (mid new : SessionState D) (moment : ℕ) → IsHistory mid.line mid.core → is_failed mid.line ≡ false → (is_failed mid.line ≡ false → mid.core.staged ≡ [] → new ≡ mid)
    → ((mid.core.staged ≡ [] → ⊥) → Appends mid (entry.Acked moment) new) → IsCoreOf new.line new.core
begun_stands mid new moment history unfailed idle appends = ⊎_elim
    (λ nothing. subst (λ (s : SessionState _). IsCoreOf s.line s.core) (sym (idle unfailed nothing)) (history_stands mid.line mid.core history).0)
    (λ some. let more = appends some in (history_stands new.line new.core (Follows new.line new.core mid.line mid.core (entry.Acked moment) more.line history unfailed more.enters)).0)
    (some_or_none mid.core.staged)

pub begin_refused : {D : Type 0} (faults : D → ℕ) (old mid new : SessionState D) (positions added : List Board) (refusal : CommitRefusal) → AreBeginning old mid positions added → RefusesCommit faults mid new refusal
    → (is_failed old.line ≡ false) × (BeginsRoots old positions (entry.Broken (faults new.disk) ∷ []) new × ((new.core.state.forest ≡ old.core.state.forest) × Rose (faults old.disk) (faults new.disk)))
begin_refused faults old mid new positions added commit.Failed h refused = absurd (true≢false (sym refused.0 ∙ h.unfailed))
begin_refused faults old mid new positions added commit.Disk h refused =
    let e : Entry = entry.Broken (faults new.disk) in (
      h.whole,
      (
        record { added = added; all = h.all; line = refused.1.0.line ∙ (ap (λ l. l ++ e ∷ []) h.line ∙ append_assoc old.line (root_puts added) (e ∷ [])) },
        (ap (λ (c : Core). c.state.forest) refused.1.0.enters ∙ h.forest, subst (λ d. Rose (faults d) (faults new.disk)) h.disk refused.1.1.1),
      ),
    )
