-- The records that payloads spell, as they are read again one by one.
use Rattle.std.proofs.Common.{◌≡◌, ℕ, zero, suc, ◌+◌, ◌<◌, ◌≤◌, arith, Bool, false, List, [], ◌∷◌, ◌++◌, map, take, length, get_or, Some, refl, sym, ap, ◌∙◌, subst, append_assoc, append-nil}
use Rattle.std.specs.Prelude.{slice_get, Result, Ok, Err}
use Rattle.std.specs.Bool.{OnFalse}
use Rattle.std.specs.Option.{option_map}
use Rattle.std.proofs.lemmas.List.{length-map}
use Rattle.std.proofs.lemmas.Option.{slice_get-get_or, slice_get-map}
use Rattle.draughts_board.specs.Board.{Board}
use Rattle.disk_journal.specs.declared.payload.Payload.{Payload}
use Rattle.bench_records.specs.declared.records.BenchRecord.{BenchRecord}
use Rattle.bench_records.specs.declared.refusal.RecordRefusal.{RecordRefusal}
use Rattle.bench_records.specs.Refusals.{record_wants_memory}
use Rattle.bench_records.specs.Names.{named_by}
use Rattle.bench_records.specs.Texts.{IsText, IsTextFor, named_in, record_sheet}
use Rattle.bench_core.proofs.NamingLemmas.{named_in_then}
use Rattle.tree_manager.specs.Receipts.{SpellsRecords}
use Rattle.tree_manager.specs.Replaying.{payload_texts}

-- the record at place i, of which these bytes are the text behind those before it
pub record IsRecordAt (k : ℕ) (before records : List BenchRecord) (i : ℕ) (bytes : List ℕ) : Type 0 where
  pub r : BenchRecord
  pub at : slice_get records i ≡ Some r
  pub text : IsText k (before ++ take i records) r bytes

spelled_at : (k : ℕ) (before records : List BenchRecord) (payloads : List (List ℕ)) (i : ℕ) (bytes : List ℕ) → SpellsRecords k before records payloads → slice_get payloads i ≡ Some bytes
    → IsRecordAt k before records i bytes
spelled_at k before [] [] i bytes s e = absurd cc
spelled_at k before [] (p ∷ ps) i bytes s e = absurd s
spelled_at k before (r ∷ rs) [] i bytes s e = absurd s
spelled_at k before (r ∷ rs) (p ∷ ps) zero bytes s e =
    (let same : p ≡ bytes = cc in
    record { r = r; at = refl; text = subst (λ (b : List BenchRecord). IsText k b r bytes) (sym (append-nil before)) (subst (IsText k before r) same s.0) })
spelled_at k before (r ∷ rs) (p ∷ ps) (suc i) bytes s e =
    let t = spelled_at k (before ++ r ∷ []) rs ps i bytes s.1 e in
    record { r = t.r; at = t.at; text = subst (λ (b : List BenchRecord). IsText k b t.r bytes) (append_assoc before (r ∷ []) (take i rs)) t.text }

pub record_at : (k : ℕ) (records : List BenchRecord) (payloads : List Payload) (i : ℕ) (item : Payload) (bytes : List ℕ) → SpellsRecords k [] records (payload_texts payloads)
    → i < length payloads → bytes ≡ (get_or payloads i item).bytes.items → IsRecordAt k [] records i bytes
record_at k records payloads i item bytes s l e =
    spelled_at k [] records (payload_texts payloads) i bytes s
    (slice_get-map (λ (p : Payload). p.bytes.items) payloads i ∙ (ap (option_map (λ (p : Payload). p.bytes.items)) (slice_get-get_or payloads i item l) ∙ ap Some (sym e)))

-- the same by what is known of the positions before it, and of the number of pieces
pub text_at : (k j : ℕ) (records : List BenchRecord) (i : ℕ) (bytes : List ℕ) (known : List Board) (t : IsRecordAt k [] records i bytes) → j ≡ k → known ≡ named_in [] (take i records) → IsTextFor j known t.r bytes
text_at k j records i bytes known t same is =
    subst (λ n. IsTextFor n known t.r bytes) (sym same) (subst (λ l. IsTextFor k l t.r bytes) (sym is) t.text)

pub not_refused : (refusal : RecordRefusal) (r : BenchRecord) → record_wants_memory refusal ≡ false
    → OnFalse (record_wants_memory refusal) (◌≡◌ {A = Result BenchRecord RecordRefusal} (Err refusal) (Ok r)) → ⊥
not_refused refusal r e h =
    let is : ◌≡◌ {A = Result BenchRecord RecordRefusal} (Err refusal) (Ok r) = subst (λ b. OnFalse b (◌≡◌ {A = Result BenchRecord RecordRefusal} (Err refusal) (Ok r))) e h in cc

pub taken_at : {X : Type 0} (xs : List X) (i : ℕ) (x : X) → slice_get xs i ≡ Some x → take i xs ++ x ∷ [] ≡ take (i + 1) xs
taken_at xs i x e = by xs i x e ∙ ap (λ n. take n xs) (let z : suc i ≡ i + 1 = omega arith in z)
  where
    by : {X : Type 0} (xs : List X) (i : ℕ) (x : X) → slice_get xs i ≡ Some x → take i xs ++ x ∷ [] ≡ take (suc i) xs
    by [] i x e = absurd cc
    by (y ∷ xs) zero x e = (let same : y ≡ x = cc in ap (λ z. z ∷ []) (sym same))
    by (y ∷ xs) (suc i) x e = ap (λ l. y ∷ l) (by xs i x e)

-- one record more names its positions
pub named_push : (made : List BenchRecord) (r : BenchRecord) (named : List Board) → named ≡ named_in [] made → named_by named (record_sheet r) ≡ named_in [] (made ++ r ∷ [])
named_push made r named is = ap (λ l. named_by l (record_sheet r)) is ∙ sym (named_in_then [] made (r ∷ []))

pub known_more : (records : List BenchRecord) (i : ℕ) (r : BenchRecord) (known known' : List Board) → slice_get records i ≡ Some r → known ≡ named_in [] (take i records) → known' ≡ named_by known (record_sheet r)
    → known' ≡ named_in [] (take (i + 1) records)
known_more records i r known known' at is more = more ∙ (named_push (take i records) r known is ∙ ap (named_in []) (taken_at records i r at))

pub as_many : (k : ℕ) (before records : List BenchRecord) (payloads : List (List ℕ)) → SpellsRecords k before records payloads → length records ≡ length payloads
as_many k before [] [] s = refl
as_many k before [] (p ∷ ps) s = absurd s
as_many k before (r ∷ rs) [] s = absurd s
as_many k before (r ∷ rs) (p ∷ ps) s = ap suc (as_many k (before ++ r ∷ []) rs ps s.1)

pub as_many_records : (k : ℕ) (records : List BenchRecord) (payloads : List Payload) → SpellsRecords k [] records (payload_texts payloads) → length records ≡ length payloads
as_many_records k records payloads s =
    let a = as_many k [] records (payload_texts payloads) s in
    let b = length-map payloads (λ (p : Payload). p.bytes.items) in
    omega (arith, a, b)

-- what the bytes of a place are the text of is the record there
pub read_at : (k j : ℕ) (records : List BenchRecord) (i : ℕ) (bytes : List ℕ) (known : List Board) → IsRecordAt k [] records i bytes → j ≡ k → known ≡ named_in [] (take i records)
    → (r : BenchRecord) → ((s : BenchRecord) → IsTextFor j known s bytes → r ≡ s) → slice_get records i ≡ Some r
read_at k j records i bytes known t e is r only = t.at ∙ ap Some (sym (only t.r (text_at k j records i bytes known t e is)))
