-- One payload more is replayed.
use Rattle.std.proofs.Common.{◌≡◌, ◌≤◌, ◌<◌, ◌+◌, ℕ, suc, List, [], ◌∷◌, ◌++◌, map, take, drop, get_or, length, refl, ap, sym, ◌∙◌, subst, ◌⊎◌, inl, inr, arith}
use Rattle.std.specs.Prelude.{false, Result, Ok, Err, IfOk, IfErr}
use Rattle.std.specs.Bool.{OnFalse}
use Rattle.std.specs.List.{AllByRecursion as Each}
use Rattle.std.proofs.Math.Seq.{split_at}
use Rattle.std.proofs.lemmas.Bool.{true≢false}
use Rattle.std.proofs.lemmas.List.{map_more, map-append, append-nil}
use Rattle.bench_disk.specs.declared.disk.Disk.{Ghosts}
use Rattle.bench_disk.specs.Disk.{IsHonest, NothingPending}
use Rattle.disk_journal.specs.declared.payload.Payload.{Payload}
use Rattle.disk_journal.specs.declared.refusal.JournalRefusal.{JournalRefusal}
use Rattle.disk_journal.specs.declared.refusal.JournalRefusal.TheVariants.{DiskFault, NotAJournal, OtherTable, Damaged}
use Rattle.disk_journal.specs.declared.refusal.JournalRefusal.TheVariants as journal
use Rattle.disk_journal.specs.Format.{HasPayloads, HasPlaces}
use Rattle.disk_journal.specs.Log.{Log, StandsSince}
use Rattle.disk_journal.specs.Contents.{Contents, IsAttachedAs}
use Rattle.disk_journal.specs.Refusals.{Explains, says_nothing_of_file}
use Rattle.shared_words.specs.Answers.{IsExact}
use Rattle.shared_words.proofs.Exactness.{on_false}
use Rattle.proof_tree.specs.Forest.{Forest, no_node}
use Rattle.lease_table.specs.Rows.{LeaseRows}
use Rattle.bench_records.specs.declared.records.BenchRecord.{BenchRecord}
use Rattle.bench_records.specs.declared.refusal.RecordRefusal.{RecordRefusal}
use Rattle.bench_records.specs.Refusals.{IsRecordRefusal}
use Rattle.bench_records.specs.Texts.{IsText, named_in}
use Rattle.bench_records.proofs.Texts.{text_is_spelled}
use Rattle.bench_records.proofs.Exact.{spelled_is_not_refused}
use Rattle.bench_core.specs.declared.settings.Settings.{Settings}
use Rattle.bench_core.specs.Growing.{GrowsWith, GrowsWithAll, IsForestOf, IsLawfulRecord}
use Rattle.bench_core.specs.States.{SessionSettings}
use Rattle.bench_core.specs.Cores.{Core, new_core, with_record, with_budget}
use Rattle.bench_core.specs.declared.refusals.ReplayRefusal.{ReplayRefusal}
use Rattle.bench_core.specs.declared.refusals.ReplayRefusal.TheVariants as replay
use Rattle.bench_core.specs.Answers.{IsUnlawful, RefusesReplay}
use Rattle.tree_manager.specs.declared.entries.Attachment.{Attachment}
use Rattle.tree_manager.specs.declared.entries.Entry.{Entry}
use Rattle.tree_manager.specs.declared.entries.Entry.TheVariants as entry
use Rattle.tree_manager.specs.declared.marks.Mark.{Mark}
use Rattle.tree_manager.specs.declared.marks.Mark.TheVariants.{Put}
use Rattle.tree_manager.specs.declared.marks.Mark.TheVariants as mark
use Rattle.tree_manager.specs.Entries.{faults_told}
use Rattle.tree_manager.specs.Lines.{is_failed}
use Rattle.tree_manager.specs.Histories.{IsNewCore, Opens}
use Rattle.tree_manager.specs.Receipts.{SpellsRecords}
use Rattle.tree_manager.specs.Replaying.{IsReplayedCore, ReplayStopsAt, RefusesPayloads, payload_texts, refusal_of_payload, ExplainsReplay, ExplainsAttach}
use Rattle.tree_manager.specs.Weaving.{woven, puts_marked}
use Rattle.tree_manager.specs.Keeping.{waiting_leases, IsSession}
use Rattle.tree_manager.proofs.CoreLemmas.{grows_append}
use Rattle.bench_core.proofs.Lists.{Each-append}
use Rattle.tree_manager.proofs.HistoryLaws.{replayed_whole}
use Rattle.tree_manager.proofs.ReceiptLemmas.{text_once, spell_append, spell_length, synced_begun}
use Rattle.tree_manager.proofs.WeavingLemmas.{woven_other, puts_push}

pub map_more_read : {A B : Type 0} (f : A → B) (xs : List A) (i : ℕ) (x : A) → i < length xs → x ≡ get_or xs i x → map f (take (i + 1) xs) ≡ map f (take i xs) ++ f x ∷ []
map_more_read f xs i x within is = map_more f xs i x within ∙ ap (λ y. map f (take i xs) ++ f y ∷ []) (sym is)

pub spell_more : (k : ℕ) (rs qs : List BenchRecord) (ps us : List (List ℕ)) (r : BenchRecord) (p : List ℕ) → SpellsRecords k [] rs ps → IsText k rs r p → qs ≡ rs ++ r ∷ [] → us ≡ ps ++ p ∷ [] → SpellsRecords k [] qs us
spell_more k rs qs ps us r p h text x y = rw (x, y) (spell_append k [] rs (r ∷ []) ps (p ∷ []) h (text, tt))

-- what it knows of its settings
pub replayed_pieces : (s : Settings) (core : Core) → IsReplayedCore s core → core.state.settings.pieces ≡ s.pieces
replayed_pieces s core h = ap (λ (c : Core). c.state.settings.pieces) h.rest

pub replayed_more : (s : Settings) (old new : Core) (r : BenchRecord) → IsReplayedCore s old → GrowsWith old.state.settings.pieces old.state.forest r new.state.forest → new ≡ with_record old r new.state.forest
    → IsReplayedCore s new
replayed_more s old new r h grown is =
    let f : Forest = new.state.forest in
    let pieces = replayed_pieces s old h in
    let records : new.records ≡ old.records ++ r ∷ [] = ap (λ (c : Core). c.records) is in
    record {
      forest = subst (λ rs. IsForestOf s.pieces rs f) (sym records)
          (grows_append s.pieces no_node old.state.forest f old.records (r ∷ []) h.forest (f, (subst (λ k. GrowsWith k old.state.forest r f) pieces grown, refl)));
      rest = is ∙ (ap (λ c. with_record c r f) h.rest ∙ ap (λ rs. record (new_core s) { state = record (new_core s).state { forest = f }; records = rs }) (sym records));
    }

pub replayed_budget : (s : Settings) (core : Core) → IsReplayedCore s core → core.state.settings.budget ≡ s.budget
replayed_budget s core h = ap (λ (c : Core). c.state.settings.budget) h.rest

pub replayed_staged : (s : Settings) (core : Core) → IsReplayedCore s core → core.staged ≡ []
replayed_staged s core h = ap (λ (c : Core). c.staged) h.rest

pub length_texts : (payloads : List Payload) → length (payload_texts payloads) ≡ length payloads
length_texts [] = refl
length_texts (p ∷ payloads) = ap suc (length_texts payloads)

same_lengths : (payloads : List Payload) → length (map (λ (p : Payload). p.at) payloads) ≡ length (payload_texts payloads)
same_lengths [] = refl
same_lengths (p ∷ payloads) = ap suc (same_lengths payloads)

-- marks do not look at what they mark
pub puts_by_length : (payloads : List Payload) (rs : List BenchRecord) → length rs ≡ length payloads → map (λ (_ : Payload). Put) payloads ≡ map (λ (_ : BenchRecord). Put) rs
puts_by_length [] [] same = refl
puts_by_length [] (r ∷ rs) same = absurd (omega (arith, same))
puts_by_length (p ∷ payloads) [] same = absurd (omega (arith, same))
puts_by_length (p ∷ payloads) (r ∷ rs) same = ap (λ (l : List Mark). Put ∷ l) (puts_by_length payloads rs (omega (arith, same)))

-- ---- where replaying stops

-- a payload is the text of no lawful record
pub stops_at : (s : Settings) (payloads : List Payload) (i : ℕ) (p : Payload) (core : Core) → IsReplayedCore s core → SpellsRecords s.pieces [] core.records (payload_texts (take i payloads))
    → i < length payloads → p ≡ get_or payloads i p → ((r : BenchRecord) → IsText s.pieces core.records r p.bytes.items → IsLawfulRecord s.pieces core.state.forest r → ⊥)
    → ReplayStopsAt s.pieces payloads p.at
stops_at s payloads i p core h spelled within is unlawful = record {
  front = take i payloads;
  payload = p;
  rest = drop (suc i) payloads;
  all = split_at payloads i p within ∙ ap (λ x. take i payloads ++ x ∷ drop (suc i) payloads) (sym is);
  place = refl;
  records = core.records;
  spelled = spelled;
  roots = core.state.forest;
  forest = h.forest;
  unlawful = unlawful;
}

-- what is refused as no record's text is the text of none
pub no_text : (k : ℕ) (records : List BenchRecord) (bytes : List ℕ) (fault : RecordRefusal) (r : BenchRecord) → IsRecordRefusal (named_in [] records) k bytes fault → IsText k records r bytes → ⊥
no_text k records bytes fault r refused text = spelled_is_not_refused (named_in [] records) k r bytes fault (text_is_spelled (named_in [] records) k r bytes text) refused

-- what is the text of a record that is not lawful is the text of no other
pub no_lawful_text : (k : ℕ) (core : Core) (bytes : List ℕ) (r : BenchRecord) → core.state.settings.pieces ≡ k → IsUnlawful core bytes → IsText k core.records r bytes → IsLawfulRecord k core.state.forest r → ⊥
no_lawful_text k core bytes r pieces unlawful text lawful =
    let same : r ≡ unlawful.last = text_once k core.records r unlawful.last bytes text (subst (λ n. IsText n core.records unlawful.last bytes) pieces unlawful.text) in
    unlawful.unlawful (subst (λ n. IsLawfulRecord n core.state.forest unlawful.last) (sym pieces) (subst (IsLawfulRecord k core.state.forest) same lawful))

-- a payload is not replayed
pub payload_refused : (s : Settings) (payloads : List Payload) (i : ℕ) (p : Payload) (core : Core) (refusal : ReplayRefusal) → IsReplayedCore s core → SpellsRecords s.pieces [] core.records (payload_texts (take i payloads))
    → i < length payloads → p ≡ get_or payloads i p → core.state.settings.pieces ≡ s.pieces → RefusesReplay core p.bytes.items refusal → RefusesPayloads s.pieces payloads (refusal_of_payload p.at refusal)
payload_refused s payloads i p core (replay.Unread fault) h spelled within is pieces refused =
    stops_at s payloads i p core h spelled within is
    (λ r text lawful. no_text s.pieces core.records p.bytes.items fault r (subst (λ k. IsRecordRefusal (named_in [] core.records) k p.bytes.items fault) pieces refused) text)
payload_refused s payloads i p core replay.Unlawful h spelled within is pieces refused =
    stops_at s payloads i p core h spelled within is (λ r text lawful. no_lawful_text s.pieces core p.bytes.items r pieces refused text lawful)
payload_refused s payloads i p core (replay.Memory error) h spelled within is pieces refused = tt

-- .. as a cause of the file
pub replay_explained : (k : ℕ) (file : List ℕ) (payloads : List Payload) (refusal : JournalRefusal) → HasPayloads k file (payload_texts payloads) → HasPlaces k file (map (λ p. p.at) payloads) → RefusesPayloads k payloads refusal
    → ExplainsAttach file k refusal
replay_explained k file payloads DiskFault has places refused = tt
replay_explained k file payloads NotAJournal has places refused = absurd refused
replay_explained k file payloads (OtherTable found asked) has places refused = absurd refused
replay_explained k file payloads (Damaged at) has places h = inr (record {
  front = payload_texts h.front;
  payload = h.payload.bytes.items;
  rest = payload_texts h.rest;
  payloads = subst (HasPayloads k file) (ap payload_texts h.all ∙ map-append (λ (p : Payload). p.bytes.items) h.front (h.payload ∷ h.rest)) has;
  before = map (λ (p : Payload). p.at) h.front;
  behind = map (λ (p : Payload). p.at) h.rest;
  places = subst (HasPlaces k file)
      (ap (map (λ (p : Payload). p.at)) h.all ∙ (map-append (λ (p : Payload). p.at) h.front (h.payload ∷ h.rest) ∙ ap (λ n. map (λ (p : Payload). p.at) h.front ++ n ∷ map (λ (p : Payload). p.at) h.rest) (sym h.place))) places;
  place = same_lengths h.front;
  records = h.records;
  spelled = h.spelled;
  roots = h.roots;
  forest = h.forest;
  unlawful = h.unlawful;
})
replay_explained k file payloads (journal.Memory error) has places refused = tt

-- a cause of the journal
pub journal_explained : (k : ℕ) (file : List ℕ) (refusal : JournalRefusal) → OnFalse (says_nothing_of_file refusal) (Explains file k refusal) → ExplainsAttach file k refusal
journal_explained k file refusal = on_false (says_nothing_of_file refusal) (Explains file k refusal) (Explains file k refusal ⊎ ExplainsReplay file k refusal) (λ e. inl e)

-- where the journal has a cause, its payloads are not read ..
pub none_attached : (file : List ℕ) (k : ℕ) (read : Contents) (e : JournalRefusal)
    → IsExact says_nothing_of_file (IsAttachedAs file k) (Explains file k) (Ok read) → Explains file k e → ⊥
none_attached file k read e exact stands = subst (λ (x : Result Contents JournalRefusal). IfErr x (λ v. ⊥)) (exact.only_fault e stands) tt

-- .. and that is the answer
pub cause_first : (file : List ℕ) (k : ℕ) (refusal e : JournalRefusal)
    → IsExact {T = Contents} says_nothing_of_file (IsAttachedAs file k) (Explains file k) (Err refusal) → Explains file k e → OnFalse (says_nothing_of_file refusal) (refusal ≡ e)
cause_first file k refusal e exact stands =
    on_false (says_nothing_of_file refusal) _ (refusal ≡ e) (λ same. subst (λ (x : Result Contents JournalRefusal). IfErr x (λ v. refusal ≡ v)) same refl) (exact.only_fault e stands)

-- ---- the beginning

pub new_begun : (s : Settings) (core core' : Core) (b : ℕ) (a : Attachment) → IsReplayedCore s core → core' ≡ with_budget b core → 1 ≤ s.lease → a.budget ≡ b → a.depth ≡ s.depth → a.pieces ≡ s.pieces → a.limit ≡ s.lease
    → IsNewCore core.records a core'
new_begun s core core' b a h is lasts budget depth pieces limit =
    let base : Core = record (new_core s) { state = record (new_core s).state { forest = core.state.forest }; records = core.records } in
    let same : core' ≡ with_budget b base = is ∙ ap (with_budget b) h.rest in
    subst (IsNewCore core.records a) (sym same) (record {
      forest = rw pieces h.forest;
      leases = rw limit refl;
      lasts = omega (arith, limit, lasts);
      given = refl;
      work = refl;
      settings = rw (budget, depth, pieces) refl;
      records = refl;
      staged = refl;
    })

pub same_attachment : (o o' f f' b b' d p p' l : ℕ) → o ≡ o' → f ≡ f' → b ≡ b' → p ≡ p'
    → let old : Attachment = record { opened = o; faults = f; budget = b; depth = d; pieces = p; limit = l } in
    let new : Attachment = record { opened = o'; faults = f'; budget = b'; depth = d; pieces = p'; limit = l } in old ≡ new
same_attachment o o' f f' b b' d p p' l x y z w = rw (x, y, z, w) refl

woven_puts : (rs : List BenchRecord) → woven (map (λ _. Put) rs) rs ≡ map entry.Put rs
woven_puts [] = refl
woven_puts (r ∷ rs) = ap (λ (l : List Entry). entry.Put r ∷ l) (woven_puts rs)

puts_of : (rs : List BenchRecord) → puts_marked (map (λ _. Put) rs) ≡ length rs
puts_of [] = refl
puts_of (r ∷ rs) = omega (arith, puts_of rs)

-- the line of a session that begins
pub line_begun : (rs : List BenchRecord) (marks : List Mark) (core : Core) (a : Attachment) → marks ≡ map (λ _. Put) rs ++ mark.Attached a ∷ [] → core.records ≡ rs → core.staged ≡ []
    → woven marks (core.records ++ core.staged) ≡ map entry.Put rs ++ entry.Attached a ∷ []
line_begun rs marks core a m x y =
    rw (m, x, y, append-nil rs) (woven_other (map (λ _. Put) rs) rs (mark.Attached a) (puts_of rs) refl ∙ ap (λ (l : List Entry). l ++ entry.Attached a ∷ []) (woven_puts rs))

no_faults : (n : ℕ) (rs : List BenchRecord) → Each (λ e. faults_told e ≤ n) (map entry.Put rs)
no_faults n [] = tt
no_faults n (r ∷ rs) = (omega arith, no_faults n rs)

module _ {D : Type 0} (g : Ghosts D) where
  pub kept_begun : (rs : List BenchRecord) (marks : List Mark) (capacity : ℕ) (core : Core) (log : Log D) (a : Attachment) (payloads : List (List ℕ))
      → marks ≡ map (λ _. Put) rs ++ mark.Attached a ∷ [] → IsNewCore rs a core → SpellsRecords log.pieces [] rs payloads → log.pieces ≡ a.pieces → log.staged ≡ [] → log.failed ≡ false → log.count ≡ length payloads → a.faults ≡ g.faults log.disk → length marks ≤ capacity
      → (IsHonest g.TELLS → (a.opened ≤ g.moment log.disk) × (HasPayloads log.pieces (g.reads log.disk) payloads × (NothingPending (g.reads log.disk) (g.images log.disk) × StandsSince g.images_since log.disk a.opened log.pieces payloads payloads)))
      → IsSession g (woven marks (core.records ++ core.staged)) marks capacity 0 core log
  kept_begun rs marks capacity core log a payloads m new spelled pieces none whole number is room honest =
      let line : List Entry = map entry.Put rs ++ entry.Attached a ∷ [] in
      let line_whole : is_failed line ≡ false = replayed_whole rs a in
      let waits : waiting_leases core.state.leases.rows ≡ 0 = ap (λ (t : LeaseRows). waiting_leases t.rows) new.leases in
      subst (λ l. IsSession g l marks capacity 0 core log) (sym (line_begun rs marks core a m new.records new.staged)) (record {
        filled = ap puts_marked m ∙ (puts_push (map (λ _. Put) rs) (mark.Attached a) ∙ omega (arith, puts_of rs, ap length new.records, ap length new.staged));
        history = Opens line core rs a refl new;
        grows = (core.state.forest, subst (λ qs. GrowsWithAll core.state.settings.pieces core.state.forest qs core.state.forest) (sym new.staged) refl);
        failed = whole ∙ sym line_whole;
        pieces = pieces ∙ sym (ap (λ (t : SessionSettings). t.pieces) new.settings);
        counted = λ h. number ∙ (sym (spell_length log.pieces [] rs payloads spelled) ∙ sym (ap length new.records));
        as_many = λ h. ap length none ∙ sym (ap length new.staged);
        owed = λ h. omega (arith, waits, ap length new.staged);
        room = λ h. omega (arith, room);
        not_more = Each-append (λ e. faults_told e ≤ g.faults log.disk) (map entry.Put rs) (entry.Attached a ∷ []) (no_faults (g.faults log.disk) rs) (omega (arith, is), tt);
        broken = λ h. absurd (true≢false (sym h ∙ line_whole));
        ended = λ h. absurd (true≢false (sym h ∙ line_whole));
        synced = λ is. let h = honest is in synced_begun g rs payloads a log spelled none whole h.0 h.1.0 h.1.1.0 h.1.1.1;
      })
