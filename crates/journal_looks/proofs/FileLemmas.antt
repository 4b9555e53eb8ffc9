-- A file has one forest, or one cause for which it has none.
use Rattle.std.proofs.Common.{◌≡◌, ◌<◌, inl, inr, ℕ, List, [], ◌∷◌, ◌++◌, length, length-append, refl, sym, ◌∙◌, ap, subst, arith}
use Rattle.std.specs.Prelude.{Bool, true, false}
use Rattle.std.specs.Bool.{OnFalse}
use Rattle.shared_words.proofs.Exactness.{on_false}
use Rattle.disk_journal.specs.Format.{HasPayloads}
use Rattle.disk_journal.specs.FormatLaws.{pieces_once, read_or_refused_any, refused_once_any}
use Rattle.disk_journal.specs.Refusals.{ExplainsAny, says_nothing_of_file}
use Rattle.disk_journal.specs.declared.refusal.JournalRefusal.{JournalRefusal}
use Rattle.disk_journal.specs.declared.refusal.JournalRefusal.TheVariants.{DiskFault, NotAJournal, OtherTable, Damaged, Memory}
use Rattle.proof_tree.specs.Forest.{Forest, no_node}
use Rattle.bench_records.specs.declared.records.BenchRecord.{BenchRecord}
use Rattle.bench_core.specs.Growing.{IsForestOf}
use Rattle.bench_core.proofs.OneForest.{records_have_one_forest}
use Rattle.tree_manager.specs.Receipts.{ReadsRecords, SpellsRecords}
use Rattle.tree_manager.specs.Replaying.{ExplainsReplay, HasUnlawfulPayload}
use Rattle.tree_manager.proofs.ExactLemmas.{files_read_as_one_list, one_payload_stops_replay, unlawful_unread}
use Rattle.journal_looks.specs.Looks.{ExplainsUnread, HasForest, IsUnread}

-- ---- one forest

no_records : (k : ℕ) (records : List BenchRecord) (roots : Forest) → SpellsRecords k [] records [] → IsForestOf k records roots → roots ≡ no_node
no_records k [] roots spelled forest = forest
no_records k (r ∷ records) roots spelled forest = absurd spelled

forest_of_pieces : (k : ℕ) (file : List ℕ) (roots others : Forest) → HasForest k file roots → HasForest k file others → roots ≡ others
forest_of_pieces k file roots others one two =
    records_have_one_forest k one.records roots others one.forest
    (subst (λ (l : List BenchRecord). IsForestOf k l others) (sym (files_read_as_one_list k file one.records two.records one.read two.read)) two.forest)

forest_by : (j k : ℕ) (file : List ℕ) (roots others : Forest) (one : HasForest j file roots) (two : HasForest k file others)
    → HasPayloads j file one.read.payloads → HasPayloads k file two.read.payloads → roots ≡ others
forest_by j k file roots others one two (inl a) (inl b) =
    no_records j one.records roots (subst (SpellsRecords j [] one.records) a.1 one.read.spelled) one.forest
    ∙ sym (no_records k two.records others (subst (SpellsRecords k [] two.records) b.1 two.read.spelled) two.forest)
forest_by j k file roots others one two (inl a) (inr b) = absurd (omega (arith, a.0, b.0))
forest_by j k file roots others one two (inr a) b =
    let same : j ≡ k = pieces_once j k file one.read.payloads two.read.payloads (λ fresh. absurd (omega (arith, fresh, a.0))) one.read.stands two.read.stands in
    forest_of_pieces j file roots others one (subst (λ n. HasForest n file others) (sym same) two)

-- whatever the pieces, since a fresh file has no root
pub forest_once : (j k : ℕ) (file : List ℕ) (roots others : Forest) → HasForest j file roots → HasForest k file others → roots ≡ others
forest_once j k file roots others one two = forest_by j k file roots others one two one.read.stands two.read.stands

-- ---- one cause

-- a file with a payload is not fresh
long_by : (j : ℕ) (file : List ℕ) (front : List (List ℕ)) (payload : List ℕ) (rest : List (List ℕ)) → HasPayloads j file (front ++ payload ∷ rest) → 9 < length file
long_by j file front payload rest (inl a) = absurd (omega (arith, ap length a.1, length-append front (payload ∷ rest)))
long_by j file front payload rest (inr b) = b.0

-- so that it is for tables of one number of pieces
same_pieces : (j k at : ℕ) (file : List ℕ) (payloads : List (List ℕ)) → HasUnlawfulPayload j file at → HasPayloads k file payloads → j ≡ k
same_pieces j k at file payloads h has =
    let long = long_by j file h.front h.payload h.rest h.payloads in
    pieces_once j k file (h.front ++ h.payload ∷ h.rest) payloads (λ fresh. absurd (omega (arith, fresh, long))) h.payloads has

-- a payload that is not replayed leaves a file unread, and its journal sound

replay_unread : (j k : ℕ) (file : List ℕ) (records : List BenchRecord) (cause : JournalRefusal) → ExplainsReplay file j cause → ReadsRecords k file records → ⊥
replay_unread j k file records DiskFault why read = why
replay_unread j k file records NotAJournal why read = why
replay_unread j k file records (OtherTable found asked) why read = why
replay_unread j k file records (Damaged at) why read =
    let same = same_pieces j k at file read.payloads why read.stands in
    unlawful_unread k file at records (subst (λ n. HasUnlawfulPayload n file at) same why) read
replay_unread j k file records (Memory error) why read = why

replay_sound : (j : ℕ) (file : List ℕ) (cause other : JournalRefusal) → ExplainsReplay file j cause → ExplainsAny file other → ⊥
replay_sound j file DiskFault other why own = why
replay_sound j file NotAJournal other why own = why
replay_sound j file (OtherTable found asked) other why own = why
replay_sound j file (Damaged at) other why own = read_or_refused_any file j (why.front ++ why.payload ∷ why.rest) other why.payloads own
replay_sound j file (Memory error) other why own = why

replay_once : (j k : ℕ) (file : List ℕ) (cause other : JournalRefusal) → ExplainsReplay file j cause → ExplainsReplay file k other → cause ≡ other
replay_once j k file DiskFault other why so = absurd why
replay_once j k file NotAJournal other why so = absurd why
replay_once j k file (OtherTable found asked) other why so = absurd why
replay_once j k file (Memory error) other why so = absurd why
replay_once j k file (Damaged at) DiskFault why so = absurd so
replay_once j k file (Damaged at) NotAJournal why so = absurd so
replay_once j k file (Damaged at) (OtherTable found asked) why so = absurd so
replay_once j k file (Damaged at) (Memory error) why so = absurd so
replay_once j k file (Damaged at) (Damaged place) why so =
    let same = same_pieces j k at file (so.front ++ so.payload ∷ so.rest) why so.payloads in
    ap Damaged (one_payload_stops_replay k file at place (subst (λ n. HasUnlawfulPayload n file at) same why) so)

pub unread_once : (file : List ℕ) (cause other : JournalRefusal) → IsUnread file cause → IsUnread file other → cause ≡ other
unread_once file cause other (inl own) (inl so) = refused_once_any file cause other own so
unread_once file cause other (inl own) (inr so) = absurd (replay_sound so.0 file other cause so.1 own)
unread_once file cause other (inr why) (inl so) = absurd (replay_sound why.0 file cause other why.1 so)
unread_once file cause other (inr why) (inr so) = replay_once why.0 so.0 file cause other why.1 so.1

-- a file that reads as records has none
pub read_or_unread : (k : ℕ) (file : List ℕ) (records : List BenchRecord) (cause : JournalRefusal) → ReadsRecords k file records → IsUnread file cause → ⊥
read_or_unread k file records cause read (inl own) = read_or_refused_any file k read.payloads cause read.stands own
read_or_unread k file records cause read (inr why) = replay_unread why.0 k file records cause why.1 read

-- ---- of a refusal that is explained

-- the cause is the refusal
pub explained_once : (file : List ℕ) (refusal cause : JournalRefusal) → ExplainsUnread file refusal → IsUnread file cause → OnFalse (says_nothing_of_file refusal) (refusal ≡ cause)
explained_once file refusal cause why stands =
    on_false (says_nothing_of_file refusal) (IsUnread file refusal) (refusal ≡ cause) (λ here. unread_once file refusal cause here stands) why

pub nothing_by : (b : Bool) (P : Type 0) → OnFalse b P → (P → ⊥) → b ≡ true
nothing_by true P why none = refl
nothing_by false P why none = absurd (none why)

-- where the file reads as records the refusal says nothing of it
pub explained_by_none : (k : ℕ) (file : List ℕ) (records : List BenchRecord) (refusal : JournalRefusal) → ReadsRecords k file records → ExplainsUnread file refusal → says_nothing_of_file refusal ≡ true
explained_by_none k file records refusal read why = nothing_by (says_nothing_of_file refusal) (IsUnread file refusal) why (λ here. read_or_unread k file records refusal read here)
