-- Faults of bytes, and what bytes are those of a table.
use Rattle.std.proofs.Common.{◌≡◌, ◌≢◌, inl, inr, ℕ, List, length, get_or, sym, ◌∙◌, ap, subst}
use Rattle.std.specs.Prelude.{slice_index}
use Rattle.std.proofs.lemmas.Bool.{cases_order}
use Rattle.endgame_table.specs.Bytes.{bytes_of}
use Rattle.endgame_table.specs.Entries.{Entries, IsTable}
use Rattle.table_checker.specs.declared.refusal.TableRefusal.{TableRefusal}
use Rattle.table_checker.specs.declared.refusal.TableRefusal.TheVariants.{BadHead, WrongLength, BadEntry, Memory}
use Rattle.table_checker.specs.Faults.{AreBytesOf, IsTableFault, BeginsTable, HasTableForm, FailsFirstAt, due_length}
use Rattle.table_checker.specs.Laws.{FaultyBytesAreNoTable, OneFault, OneTableOfBytes}
use Rattle.table_checker.proofs.ByteLemmas.{begins-form, length-form}
use Rattle.table_checker.proofs.RankLemmas.{table-words}
use Rattle.endgame_table.proofs.Sound.{tables_fit_everywhere}
use Rattle.endgame_table.proofs.BytesLemmas.{bytes_tell_apart}

-- ---- bytes of one head, and of one form

begins-one : (j k : ℕ) (bytes : List ℕ) → BeginsTable j bytes → BeginsTable k bytes → j ≡ k
begins-one j k bytes a b = ap (λ l. get_or l 7 0) (sym a.head ∙ b.head)

form-one : (j k : ℕ) (a b bytes : List ℕ) → HasTableForm j a bytes → HasTableForm k b bytes → (j ≡ k) × (a ≡ b)
form-one j k a b bytes fa fb = bytes_tell_apart j k a b fa.words fb.words (sym fa.written ∙ fb.written)

-- a wrong length is not that of the form
no_form : (j k found due : ℕ) (numbers bytes : List ℕ) → BeginsTable j bytes → found ≡ length bytes → due ≡ due_length j → found ≢ due
    → HasTableForm k numbers bytes → ⊥
no_form j k found due numbers bytes begins long due_is wrong form =
    let same : j ≡ k = begins-one j k bytes begins (begins-form k numbers bytes form) in
    wrong (long ∙ length-form k numbers bytes form ∙ sym (ap due_length same) ∙ sym due_is)

first-one : (k : ℕ) (numbers : List ℕ) (i j : ℕ) → FailsFirstAt k numbers i → FailsFirstAt k numbers j → i ≡ j
first-one k numbers i j a b =
    elim (cases_order i j) [
      | inl same ↦ same
      | inr other ↦ elim other [ inl lower ↦ absurd (a.fails (b.before i lower)) | inr higher ↦ absurd (b.fails (a.before j higher)) ]
    ]

-- ---- the laws

pub one_fault : OneFault
one_fault bytes (Memory e) b fa fb = absurd fa
one_fault bytes BadHead (Memory e) fa fb = absurd fb
one_fault bytes (WrongLength found due) (Memory e) fa fb = absurd fb
one_fault bytes (BadEntry index kept) (Memory e) fa fb = absurd fb
one_fault bytes BadHead BadHead fa fb = cc
one_fault bytes BadHead (WrongLength found due) fa fb = absurd (fa fb.0 fb.1.0)
one_fault bytes BadHead (BadEntry index kept) fa fb = absurd (fa fb.0 (begins-form fb.0 fb.1.0 bytes fb.1.1.0))
one_fault bytes (WrongLength found due) BadHead fa fb = absurd (fb fa.0 fa.1.0)
one_fault bytes (BadEntry index kept) BadHead fa fb = absurd (fb fa.0 (begins-form fa.0 fa.1.0 bytes fa.1.1.0))
one_fault bytes (WrongLength found due) (WrongLength found' due') fa fb =
    let pieces : fa.0 ≡ fb.0 = begins-one fa.0 fb.0 bytes fa.1.0 fb.1.0 in
    let lengths : found ≡ found' = fa.1.1.0 ∙ sym fb.1.1.0 in
    let dues : due ≡ due' = fa.1.1.1.0 ∙ ap due_length pieces ∙ sym fb.1.1.1.0 in
    cc
one_fault bytes (WrongLength found due) (BadEntry index kept) fa fb =
    absurd (no_form fa.0 fb.0 found due fb.1.0 bytes fa.1.0 fa.1.1.0 fa.1.1.1.0 fa.1.1.1.1 fb.1.1.0)
one_fault bytes (BadEntry index kept) (WrongLength found due) fa fb =
    absurd (no_form fb.0 fa.0 found due fa.1.0 bytes fb.1.0 fb.1.1.0 fb.1.1.1.0 fb.1.1.1.1 fa.1.1.0)
one_fault bytes (BadEntry index kept) (BadEntry index' kept') fa fb =
    let same = form-one fa.0 fb.0 fa.1.0 fb.1.0 bytes fa.1.1.0 fb.1.1.0 in
    let fails = subst (λ k. FailsFirstAt k fb.1.0 index) same.0 (subst (λ l. FailsFirstAt fa.0 l index) same.1 fa.1.1.1.0) in
    let indices : index ≡ index' = first-one fb.0 fb.1.0 index index' fails fb.1.1.1.0 in
    let numbers : kept ≡ kept' = fa.1.1.1.1 ∙ ap (λ l. slice_index l index) same.1 ∙ ap (slice_index fb.1.0) indices ∙ sym fb.1.1.1.1 in
    cc

-- the bytes of a table have its form
form-table : (k : ℕ) (numbers bytes : List ℕ) → IsTable k numbers → bytes ≡ bytes_of k numbers → HasTableForm k numbers bytes
form-table k numbers bytes table is = record { size = table.size; entries = table.entries; words = table-words k numbers table; written = is }

pub faulty_bytes_are_no_table : FaultyBytesAreNoTable
faulty_bytes_are_no_table bytes BadHead fault k numbers table is = fault k (begins-form k numbers bytes (form-table k numbers bytes table is))
faulty_bytes_are_no_table bytes (WrongLength found due) fault k numbers table is =
    no_form fault.0 k found due numbers bytes fault.1.0 fault.1.1.0 fault.1.1.1.0 fault.1.1.1.1 (form-table k numbers bytes table is)
faulty_bytes_are_no_table bytes (BadEntry index kept) fault k numbers table is =
    let form = form-table k numbers bytes table is in
    let same = form-one fault.0 k fault.1.0 numbers bytes fault.1.1.0 form in
    let fails = subst (λ k. FailsFirstAt k numbers index) same.0 (subst (λ l. FailsFirstAt fault.0 l index) same.1 fault.1.1.1.0) in
    fails.fails ((tables_fit_everywhere k numbers table.size table.entries).0 table index fails.below)
faulty_bytes_are_no_table bytes (Memory e) fault k numbers table is = absurd fault

pub one_table_of_bytes : OneTableOfBytes
one_table_of_bytes bytes j k a b ta tb is_a is_b = form-one j k a b bytes (form-table j a bytes ta is_a) (form-table k b bytes tb is_b)

-- ---- the same of tables

pub one_table : (bytes : List ℕ) (a b : Entries) → AreBytesOf bytes a → AreBytesOf bytes b → a ≡ b
one_table bytes a b x y = let same = one_table_of_bytes bytes a.pieces b.pieces a.numbers b.numbers x.0 y.0 x.1 y.1 in λ i. record { pieces = same.0 i; numbers = same.1 i }

pub table_or_fault : (bytes : List ℕ) (t : Entries) (fault : TableRefusal) → AreBytesOf bytes t → IsTableFault bytes fault → ⊥
table_or_fault bytes t fault x wrong = faulty_bytes_are_no_table bytes fault wrong t.pieces t.numbers x.0 x.1
