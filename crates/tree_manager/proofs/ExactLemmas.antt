-- A file reads as one list of records, and one payload of it alone is the first that is not lawful.
use Rattle.std.proofs.Common.{◌≡◌, ℕ, suc, List, [], ◌∷◌, ◌++◌, length, refl, ap, sym, ◌∙◌, subst, ⊎_elim, append-nil, append_assoc}
use Rattle.std.specs.Prelude.{◌⊎◌, Bool, true, false}
use Rattle.std.specs.Bool.{OnFalse}
use Rattle.std.proofs.lemmas.Bool.{true≢false}
use Rattle.shared_words.proofs.Exactness.{on_false}
use Rattle.proof_tree.specs.Forest.{Forest, no_node}
use Rattle.disk_journal.specs.FormatLaws.{cut, payloads_once, places_once, read_or_refused}
use Rattle.disk_journal.specs.Refusals.{Explains, says_nothing_of_file}
use Rattle.disk_journal.specs.declared.refusal.JournalRefusal.{JournalRefusal}
use Rattle.disk_journal.specs.declared.refusal.JournalRefusal.TheVariants.{DiskFault, NotAJournal, OtherTable, Damaged, Memory}
use Rattle.bench_records.specs.declared.records.BenchRecord.{BenchRecord}
use Rattle.bench_records.specs.Texts.{IsText}
use Rattle.bench_core.specs.Growing.{IsLawfulRecord, GrowsWithAll, IsForestOf}
use Rattle.bench_core.proofs.OneForest.{records_have_one_forest, roots_are_those_begun}
use Rattle.tree_manager.specs.Receipts.{SpellsRecords, ReadsRecords}
use Rattle.tree_manager.specs.Replaying.{HasUnlawfulPayload, ExplainsReplay, ExplainsAttach}
use Rattle.tree_manager.specs.Laws.{FilesReadAsOneList, RefusedFilesReadAsNone, OnePayloadStopsReplay, SessionsHaveRootsBegun}
use Rattle.tree_manager.proofs.HistoryLaws.{history_stands}
use Rattle.tree_manager.proofs.ReceiptLemmas.{text_once}

-- ---- texts

records_once : (k : ℕ) (before rs qs : List BenchRecord) (ps : List (List ℕ)) → SpellsRecords k before rs ps → SpellsRecords k before qs ps → rs ≡ qs
records_once k before [] [] ps one two = refl
records_once k before [] (q ∷ qs) [] one two = absurd two
records_once k before [] (q ∷ qs) (p ∷ ps) one two = absurd one
records_once k before (r ∷ rs) qs [] one two = absurd one
records_once k before (r ∷ rs) [] (p ∷ ps) one two = absurd two
records_once k before (r ∷ rs) (q ∷ qs) (p ∷ ps) one two =
    let first : r ≡ q = text_once k before r q p one.0 two.0 in
    let rest : rs ≡ qs = records_once k (before ++ r ∷ []) rs qs ps one.1 (subst (λ x. SpellsRecords k (before ++ x ∷ []) qs ps) (sym first) two.1) in
    ap (λ x. x ∷ rs) first ∙ ap (λ (l : List BenchRecord). q ∷ l) rest

pub files_read_as_one_list : FilesReadAsOneList
files_read_as_one_list k file one other a b =
    records_once k [] one other a.payloads a.spelled (subst (λ ps. SpellsRecords k [] other ps) (sym (payloads_once k k file a.payloads b.payloads a.stands b.stands)) b.spelled)

-- ---- the record at a place

-- the records behind these, spelled with a payload behind a front
record IsSpelledAt (k : ℕ) (before rs : List BenchRecord) (front : List (List ℕ)) (payload : List ℕ) : Type 0 where
  pub low : List BenchRecord
  pub next : BenchRecord
  pub more : List BenchRecord
  pub all : rs ≡ low ++ next ∷ more
  pub spelled : SpellsRecords k before low front
  pub text : IsText k (before ++ low) next payload

spelled_at : (k : ℕ) (before rs : List BenchRecord) (front : List (List ℕ)) (payload : List ℕ) (rest : List (List ℕ)) → SpellsRecords k before rs (front ++ payload ∷ rest) → IsSpelledAt k before rs front payload
spelled_at k before [] [] payload rest h = absurd h
spelled_at k before (r ∷ rs) [] payload rest h =
    record { low = []; next = r; more = rs; all = refl; spelled = tt; text = subst (λ b. IsText k b r payload) (sym (append-nil before)) h.0 }
spelled_at k before [] (p ∷ front) payload rest h = absurd h
spelled_at k before (r ∷ rs) (p ∷ front) payload rest h =
    let at = spelled_at k (before ++ r ∷ []) rs front payload rest h.1 in
    record {
      low = r ∷ at.low;
      next = at.next;
      more = at.more;
      all = ap (λ (l : List BenchRecord). r ∷ l) at.all;
      spelled = (h.0, at.spelled);
      text = subst (λ b. IsText k b at.next payload) (append_assoc before (r ∷ []) at.low) at.text;
    }

-- where all are lawful in turn, the one behind a front is
record IsLawfulAt (k : ℕ) (f : Forest) (front : List BenchRecord) (r : BenchRecord) : Type 0 where
  pub mid : Forest
  pub grown : GrowsWithAll k f front mid
  pub lawful : IsLawfulRecord k mid r

lawful_at : (k : ℕ) (f : Forest) (front more : List BenchRecord) (r : BenchRecord) (g : Forest) → GrowsWithAll k f (front ++ r ∷ more) g → IsLawfulAt k f front r
lawful_at k f [] more r g h = record { mid = f; grown = refl; lawful = h.1.0.lawful }
lawful_at k f (q ∷ front) more r g h =
    let at = lawful_at k h.0 front more r g h.1.1 in record { mid = at.mid; grown = (h.0, (h.1.0, at.grown)); lawful = at.lawful }

-- ---- a payload that is not lawful

-- no list that goes on with the payload is lawful in turn
none_lawful : (k : ℕ) (rs : List BenchRecord) (f : Forest) (front : List (List ℕ)) (payload : List ℕ) (rest : List (List ℕ)) → SpellsRecords k [] rs (front ++ payload ∷ rest) → IsForestOf k rs f
    → (qs : List BenchRecord) (roots : Forest) → SpellsRecords k [] qs front → IsForestOf k qs roots → ((r : BenchRecord) → IsText k qs r payload → IsLawfulRecord k roots r → ⊥) → ⊥
none_lawful k rs f front payload rest spelled forest qs roots low grown unlawful =
    let s = spelled_at k [] rs front payload rest spelled in
    let same : s.low ≡ qs = records_once k [] s.low qs front s.spelled low in
    let at = lawful_at k no_node s.low s.more s.next f (subst (λ l. IsForestOf k l f) s.all forest) in
    let tree : at.mid ≡ roots = records_have_one_forest k qs at.mid roots (subst (λ l. IsForestOf k l at.mid) same at.grown) grown in
    unlawful s.next (subst (λ l. IsText k l s.next payload) same s.text) (subst (λ g. IsLawfulRecord k g s.next) tree at.lawful)

pub unlawful_unread : (k : ℕ) (file : List ℕ) (at : ℕ) (records : List BenchRecord) → HasUnlawfulPayload k file at → ReadsRecords k file records → ⊥
unlawful_unread k file at records h read =
    let same = payloads_once k k file (h.front ++ h.payload ∷ h.rest) read.payloads h.payloads read.stands in
    none_lawful k records read.lawful.0 h.front h.payload h.rest (subst (λ ps. SpellsRecords k [] records ps) (sym same) read.spelled) read.lawful.1 h.records h.roots h.spelled h.forest h.unlawful

-- of two fronts of one list one is as long as the other, or goes on with its next
data Fronts {X : Type 0} (xs ys : List X) (x y : X) : Type 0 where
  even : length xs ≡ length ys → Fronts xs ys x y
  below : (mid : List X) → ys ≡ xs ++ x ∷ mid → Fronts xs ys x y
  above : (mid : List X) → xs ≡ ys ++ y ∷ mid → Fronts xs ys x y

module _ {X : Type 0} where
  first_of : (a b : X) (us vs : List X) → a ∷ us ≡ b ∷ vs → a ≡ b
  first_of a b us vs e = cc

  rest_of : (a b : X) (us vs : List X) → a ∷ us ≡ b ∷ vs → us ≡ vs
  rest_of a b us vs e = cc

  fronts_more : (a b : X) (xs ys : List X) (x y : X) → a ≡ b → Fronts xs ys x y → Fronts (a ∷ xs) (b ∷ ys) x y
  fronts_more a b xs ys x y e (even n) = even (ap suc n)
  fronts_more a b xs ys x y e (below mid is) = below mid (ap (λ z. z ∷ ys) (sym e) ∙ ap (λ (l : List X). a ∷ l) is)
  fronts_more a b xs ys x y e (above mid is) = above mid (ap (λ z. z ∷ xs) e ∙ ap (λ (l : List X). b ∷ l) is)

  compare_fronts : (xs ys : List X) (x y : X) (us vs : List X) → xs ++ x ∷ us ≡ ys ++ y ∷ vs → Fronts xs ys x y
  compare_fronts [] [] x y us vs e = even refl
  compare_fronts [] (b ∷ ys) x y us vs e = below ys (ap (λ z. z ∷ ys) (sym (first_of x b us (ys ++ y ∷ vs) e)))
  compare_fronts (a ∷ xs) [] x y us vs e = above xs (ap (λ z. z ∷ xs) (first_of a y (xs ++ x ∷ us) vs e))
  compare_fronts (a ∷ xs) (b ∷ ys) x y us vs e =
      fronts_more a b xs ys x y (first_of a b (xs ++ x ∷ us) (ys ++ y ∷ vs) e) (compare_fronts xs ys x y us vs (rest_of a b (xs ++ x ∷ us) (ys ++ y ∷ vs) e))

-- its place is one
place_by : (k : ℕ) (file : List ℕ) (at other : ℕ) (one : HasUnlawfulPayload k file at) (two : HasUnlawfulPayload k file other) → Fronts one.front two.front one.payload two.payload → at ≡ other
place_by k file at other one two (even n) =
    let same = places_once k k file (one.before ++ at ∷ one.behind) (two.before ++ other ∷ two.behind) one.places two.places in
    first_of at other one.behind two.behind (cut one.before two.before (at ∷ one.behind) (other ∷ two.behind) (one.place ∙ (n ∙ sym two.place)) same).1
place_by k file at other one two (below mid is) =
    absurd (none_lawful k two.records two.roots one.front one.payload mid (subst (λ ps. SpellsRecords k [] two.records ps) is two.spelled) two.forest one.records one.roots one.spelled one.forest one.unlawful)
place_by k file at other one two (above mid is) =
    absurd (none_lawful k one.records one.roots two.front two.payload mid (subst (λ ps. SpellsRecords k [] one.records ps) is one.spelled) one.forest two.records two.roots two.spelled two.forest two.unlawful)

pub one_payload_stops_replay : OnePayloadStopsReplay
one_payload_stops_replay k file at other one two =
    place_by k file at other one two
    (compare_fronts one.front two.front one.payload two.payload one.rest two.rest (payloads_once k k file (one.front ++ one.payload ∷ one.rest) (two.front ++ two.payload ∷ two.rest) one.payloads two.payloads))

-- ---- refusals

replay_unread : (k : ℕ) (file : List ℕ) (records : List BenchRecord) (e : JournalRefusal) → ExplainsReplay file k e → ReadsRecords k file records → ⊥
replay_unread k file records DiskFault why read = why
replay_unread k file records NotAJournal why read = why
replay_unread k file records (OtherTable found asked) why read = why
replay_unread k file records (Damaged at) why read = unlawful_unread k file at records why read
replay_unread k file records (Memory error) why read = why

holds_where_false : (b : Bool) (P : Type 0) → b ≡ false → OnFalse b P → P
holds_where_false true P is p = absurd (true≢false is)
holds_where_false false P is p = p

pub refused_files_read_as_none : RefusedFilesReadAsNone
refused_files_read_as_none k file e records why tells read =
    ⊎_elim (λ journal. read_or_refused file k read.payloads e read.stands journal) (λ replay. replay_unread k file records e replay read)
    (holds_where_false (says_nothing_of_file e) (Explains file k e ⊎ ExplainsReplay file k e) tells why)

-- a cause of replay is this one
same_cause : (k : ℕ) (file : List ℕ) (at : ℕ) (e : JournalRefusal) → HasUnlawfulPayload k file at → ExplainsReplay file k e → e ≡ Damaged at
same_cause k file at DiskFault h why = absurd why
same_cause k file at NotAJournal h why = absurd why
same_cause k file at (OtherTable found asked) h why = absurd why
same_cause k file at (Damaged other) h why = ap Damaged (one_payload_stops_replay k file other at why h)
same_cause k file at (Memory error) h why = absurd why

-- where a payload is unlawful, that is the refusal
pub refused_unlawful : (k : ℕ) (file : List ℕ) (at : ℕ) (e : JournalRefusal) → HasUnlawfulPayload k file at → ExplainsAttach file k e → OnFalse (says_nothing_of_file e) (e ≡ Damaged at)
refused_unlawful k file at e h why =
    on_false (says_nothing_of_file e) _ (e ≡ Damaged at)
    (λ cause. ⊎_elim (λ journal. absurd (read_or_refused file k (h.front ++ h.payload ∷ h.rest) e h.payloads journal)) (λ replay. same_cause k file at e h replay) cause) why

-- ---- roots

pub sessions_have_roots_begun : SessionsHaveRootsBegun
sessions_have_roots_begun line core history =
    let stands = (history_stands line core history).0 in roots_are_those_begun core.state.settings.pieces _ core.state.forest stands.state.forest
