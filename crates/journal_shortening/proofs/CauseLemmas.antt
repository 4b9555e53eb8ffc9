-- Why no shorter journal is written, or none is chosen.
use Rattle.std.proofs.Common.{◌≡◌, ◌<◌, ◌≤◌, ◌⊎◌, inl, inr, ℕ, List, [], ◌∷◌, map, length, refl, sym, ap, ◌∙◌, subst, arith}
use Rattle.std.specs.Prelude.{Bool, true, false, IfErr, Result, Ok, Err}
use Rattle.std.proofs.lemmas.Bool.{false≢true}
use Rattle.std.specs.Bool.{OnFalse}
use Rattle.shared_words.proofs.Exactness.{on_false}
use Rattle.disk_journal.specs.Format.{HasPayloads, IsFresh}
use Rattle.disk_journal.specs.FormatLaws.{read_or_refused_any, refused_once_any}
use Rattle.disk_journal.specs.Refusals.{Explains as ExplainsAttach, ExplainsAny, says_nothing_of_file}
use Rattle.disk_journal.specs.declared.refusal.JournalRefusal.{JournalRefusal}
use Rattle.disk_journal.specs.declared.refusal.JournalRefusal.TheVariants as journal
use Rattle.bench_records.specs.declared.records.BenchRecord.{BenchRecord}
use Rattle.tree_manager.specs.Receipts.{ReadsRecords}
use Rattle.journal_looks.specs.Looks.{ExplainsUnread, IsUnread}
use Rattle.journal_looks.proofs.FileLemmas.{read_or_unread, unread_once}
use Rattle.journal_shortening.specs.Refusals.{Explains, ExplainsNoChoice, HasNoChoice, IsCause, is_of_from, of_from, of_into, says_nothing}
use Rattle.journal_shortening.specs.declared.refusals.CompactRefusal.{CompactRefusal}
use Rattle.journal_shortening.specs.declared.refusals.CompactRefusal.TheVariants.{FromDisk, NotAJournal, Damaged, IntoDisk, NotFresh, Memory}

-- ---- a fresh file

pub fresh_none : (k : ℕ) (file : List ℕ) (payloads : List (List ℕ)) → HasPayloads k file payloads → IsFresh file → payloads ≡ []
fresh_none k file payloads (inl a) fresh = a.1
fresh_none k file payloads (inr b) fresh = absurd (omega (arith, b.0, fresh))

-- it is refused for nothing that it says
pub fresh_blamed : (file : List ℕ) (k : ℕ) (e : JournalRefusal) → IsFresh file → OnFalse (says_nothing_of_file e) (ExplainsAttach file k e) → says_nothing_of_file e ≡ true
fresh_blamed file k journal.DiskFault fresh why = refl
fresh_blamed file k journal.NotAJournal fresh why = absurd (omega (arith, why.long, fresh))
fresh_blamed file k (journal.OtherTable found asked) fresh why = absurd (omega (arith, why.0, fresh))
fresh_blamed file k (journal.Damaged at) fresh why = absurd (omega (arith, why.long, fresh))
fresh_blamed file k (journal.Memory error) fresh why = refl

-- ---- the first journal is not read

pub from_disk : (r : JournalRefusal) → of_from r ≡ FromDisk → r ≡ journal.DiskFault
from_disk journal.DiskFault e = refl
from_disk journal.NotAJournal e = absurd cc
from_disk (journal.OtherTable found asked) e = absurd cc
from_disk (journal.Damaged at) e = absurd cc
from_disk (journal.Memory error) e = absurd cc

pub never_into : (r : JournalRefusal) → of_from r ≡ IntoDisk → ⊥
never_into journal.DiskFault e = cc
never_into journal.NotAJournal e = cc
never_into (journal.OtherTable found asked) e = cc
never_into (journal.Damaged at) e = cc
never_into (journal.Memory error) e = cc

pub not_read : (from into : List ℕ) (r : JournalRefusal) → ExplainsUnread from r → Explains from into (of_from r)
not_read from into journal.DiskFault why = tt
not_read from into journal.NotAJournal why = why
not_read from into (journal.OtherTable found asked) (inl why) = absurd why
not_read from into (journal.OtherTable found asked) (inr why) = absurd why.1
not_read from into (journal.Damaged at) why = why
not_read from into (journal.Memory error) why = tt

one_damage : (from into : List ℕ) (at : ℕ) (cause : CompactRefusal) → IsUnread from (journal.Damaged at) → IsCause from into cause → Damaged at ≡ cause
one_damage from into at FromDisk why h = absurd h
one_damage from into at NotAJournal why h = absurd (let e = unread_once from (journal.Damaged at) journal.NotAJournal why h in cc)
one_damage from into at (Damaged place) why h = (let e = unread_once from (journal.Damaged at) (journal.Damaged place) why h in let same : at ≡ place = cc in ap Damaged same)
one_damage from into at IntoDisk why h = absurd h
one_damage from into at (NotFresh n) why h = absurd (h.1.1 (journal.Damaged at) why)
one_damage from into at (Memory error) why h = absurd h

one_foreign : (from into : List ℕ) (cause : CompactRefusal) → IsUnread from journal.NotAJournal → IsCause from into cause → NotAJournal ≡ cause
one_foreign from into FromDisk why h = absurd h
one_foreign from into NotAJournal why h = refl
one_foreign from into (Damaged place) why h = absurd (let e = unread_once from journal.NotAJournal (journal.Damaged place) why h in cc)
one_foreign from into IntoDisk why h = absurd h
one_foreign from into (NotFresh n) why h = absurd (h.1.1 journal.NotAJournal why)
one_foreign from into (Memory error) why h = absurd h

pub not_read_once : (from into : List ℕ) (r : JournalRefusal) → ExplainsUnread from r → (cause : CompactRefusal) → IsCause from into cause → OnFalse (says_nothing (of_from r)) (of_from r ≡ cause)
not_read_once from into journal.DiskFault why cause h = tt
not_read_once from into journal.NotAJournal why cause h = one_foreign from into cause why h
not_read_once from into (journal.OtherTable found asked) (inl why) cause h = absurd why
not_read_once from into (journal.OtherTable found asked) (inr why) cause h = absurd why.1
not_read_once from into (journal.Damaged at) why cause h = one_damage from into at cause why h
not_read_once from into (journal.Memory error) why cause h = tt

-- ---- the new one is not fresh

-- once the first one is read, this is the one cause
pub only_not_fresh : (k : ℕ) (from into : List ℕ) (records : List BenchRecord) (cause : CompactRefusal) → ReadsRecords k from records → IsCause from into cause
    → (9 < length into) × (NotFresh (length into) ≡ cause)
only_not_fresh k from into records FromDisk read h = absurd h
only_not_fresh k from into records NotAJournal read h = absurd (read_or_unread k from records journal.NotAJournal read h)
only_not_fresh k from into records (Damaged at) read h = absurd (read_or_unread k from records (journal.Damaged at) read h)
only_not_fresh k from into records IntoDisk read h = absurd h
only_not_fresh k from into records (NotFresh n) read h = (subst (λ m. 9 < m) h.0 h.1.0, ap NotFresh (sym h.0))
only_not_fresh k from into records (Memory error) read h = absurd h

abbrev pub BlamesLength : List ℕ → CompactRefusal → Type 0
BlamesLength into e = OnFalse (says_nothing e) ((e ≡ NotFresh (length into)) × (9 < length into))

pub not_fresh : (k : ℕ) (from into : List ℕ) (records : List BenchRecord) (e : CompactRefusal) → ReadsRecords k from records → BlamesLength into e → Explains from into e
not_fresh k from into records e read why =
    on_false (says_nothing e) _ (IsCause from into e)
    (λ h. subst (IsCause from into) (sym h.0) (refl, (h.1, λ cause. read_or_unread k from records cause read))) why

pub not_fresh_once : (k : ℕ) (from into : List ℕ) (records : List BenchRecord) (e : CompactRefusal) → ReadsRecords k from records → BlamesLength into e
    → (cause : CompactRefusal) → IsCause from into cause → OnFalse (says_nothing e) (e ≡ cause)
not_fresh_once k from into records e read why cause h =
    on_false (says_nothing e) _ (e ≡ cause) (λ one. one.0 ∙ (only_not_fresh k from into records cause read h).1) why

-- where it is, no cause stands
pub fresh_blames : (k : ℕ) (from into : List ℕ) (records : List BenchRecord) (cause : CompactRefusal) → ReadsRecords k from records → IsFresh into → IsCause from into cause → ⊥
fresh_blames k from into records cause read fresh h = (let one = only_not_fresh k from into records cause read h in omega (arith, one.0, fresh))

-- a refusal that says nothing is explained
pub nothing_said : (b : Bool) (P : Type 0) → b ≡ true → OnFalse b P
nothing_said true P e = tt
nothing_said false P e = absurd (false≢true e)

-- ---- none is chosen

pub into_disk : (r : JournalRefusal) → of_into r ≡ IntoDisk → r ≡ journal.DiskFault
into_disk journal.DiskFault e = refl
into_disk journal.NotAJournal e = absurd cc
into_disk (journal.OtherTable found asked) e = absurd cc
into_disk (journal.Damaged at) e = absurd cc
into_disk (journal.Memory error) e = absurd cc

pub not_chosen : (into : List ℕ) (r : JournalRefusal) → OnFalse (says_nothing_of_file r) (ExplainsAny into r) → ExplainsNoChoice into (of_into r)
not_chosen into journal.DiskFault why = tt
not_chosen into journal.NotAJournal why = why
not_chosen into (journal.OtherTable found asked) why = absurd why
not_chosen into (journal.Damaged at) why = why
not_chosen into (journal.Memory error) why = tt

one_broken : (into : List ℕ) (at : ℕ) (cause : CompactRefusal) → ExplainsAny into (journal.Damaged at) → HasNoChoice into cause → Damaged at ≡ cause
one_broken into at FromDisk why h = absurd h
one_broken into at NotAJournal why h = absurd (let e = refused_once_any into (journal.Damaged at) journal.NotAJournal why h in cc)
one_broken into at (Damaged place) why h = (let e = refused_once_any into (journal.Damaged at) (journal.Damaged place) why h in let same : at ≡ place = cc in ap Damaged same)
one_broken into at IntoDisk why h = absurd h
one_broken into at (NotFresh n) why h = absurd h
one_broken into at (Memory error) why h = absurd h

one_headless : (into : List ℕ) (cause : CompactRefusal) → ExplainsAny into journal.NotAJournal → HasNoChoice into cause → NotAJournal ≡ cause
one_headless into FromDisk why h = absurd h
one_headless into NotAJournal why h = refl
one_headless into (Damaged place) why h = absurd (let e = refused_once_any into journal.NotAJournal (journal.Damaged place) why h in cc)
one_headless into IntoDisk why h = absurd h
one_headless into (NotFresh n) why h = absurd h
one_headless into (Memory error) why h = absurd h

pub not_chosen_once : (into : List ℕ) (r : JournalRefusal) → OnFalse (says_nothing_of_file r) (ExplainsAny into r) → (cause : CompactRefusal) → HasNoChoice into cause
    → OnFalse (says_nothing (of_into r)) (of_into r ≡ cause)
not_chosen_once into journal.DiskFault why cause h = tt
not_chosen_once into journal.NotAJournal why cause h = one_headless into cause why h
not_chosen_once into (journal.OtherTable found asked) why cause h = absurd why
not_chosen_once into (journal.Damaged at) why cause h = one_broken into at cause why h
not_chosen_once into (journal.Memory error) why cause h = tt

pub chosen_fault : {T : Type 0} (r : JournalRefusal) (e : CompactRefusal) → e ≡ of_into r → ◌≡◌ {A = Result T CompactRefusal} (Err e) (Err IntoDisk) → r ≡ journal.DiskFault
chosen_fault r e made is = (let same : e ≡ IntoDisk = cc in into_disk r (sym made ∙ same))

pub chosen_causes : (T : Type 0) (into : List ℕ) (r : JournalRefusal) (e : CompactRefusal) → e ≡ of_into r → OnFalse (says_nothing_of_file r) (ExplainsAny into r) → (cause : CompactRefusal)
    → HasNoChoice into cause → OnFalse (says_nothing e) (◌≡◌ {A = Result T CompactRefusal} (Err e) (Err cause))
chosen_causes T into r e made why cause h =
    on_false (says_nothing e) (e ≡ cause) _ (λ same. ap (λ (x : CompactRefusal). Err x) same)
    (subst (λ x. OnFalse (says_nothing x) (x ≡ cause)) (sym made) (not_chosen_once into r why cause h))

-- a file that is read as a journal has no cause
pub read_or_unchosen : (k : ℕ) (into : List ℕ) (payloads : List (List ℕ)) → HasPayloads k into payloads → (cause : CompactRefusal) → HasNoChoice into cause → ⊥
read_or_unchosen k into payloads has FromDisk h = h
read_or_unchosen k into payloads has NotAJournal h = read_or_refused_any into k payloads journal.NotAJournal has h
read_or_unchosen k into payloads has (Damaged at) h = read_or_refused_any into k payloads (journal.Damaged at) has h
read_or_unchosen k into payloads has IntoDisk h = h
read_or_unchosen k into payloads has (NotFresh n) h = h
read_or_unchosen k into payloads has (Memory error) h = h
