-- What is staged at a step, by the record that stands at a place of a journal's payloads.
use Rattle.std.proofs.Common.{◌≡◌, ℕ, ◌+◌, ◌<◌, ◌≤◌, arith, List, [], ◌∷◌, ◌++◌, take, length, sym, ap, ◌∙◌, inr, subst, append_assoc, append-nil}
use Rattle.std.specs.Prelude.{◌^◌, Result, Ok, Err, OnOk, OnErr}
use Rattle.disk_journal.specs.Log.{Log}
use Rattle.draughts_board.specs.Board.{Board}
use Rattle.disk_journal.specs.declared.payload.Payload.{Payload}
use Rattle.bench_records.specs.declared.records.BenchRecord.{BenchRecord}
use Rattle.bench_records.specs.Names.{Sheet, named_by, short_sheet}
use Rattle.bench_records.specs.Texts.{IsSoundRecord, IsText, IsTextFor, ShowsEnough, named_in, record_sheet, short_kind}
use Rattle.tree_manager.specs.Receipts.{SpellsRecords}
use Rattle.tree_manager.specs.Replaying.{payload_texts}
use Rattle.compaction_staging.specs.Progress.{AreSpelled}
use Rattle.record_reading.proofs.Readings.{IsRecordAt, as_many_records, named_push, text_at}

-- its text goes behind those of the others
spells_push : (k : ℕ) (before made : List BenchRecord) (staged : List (List ℕ)) (r : BenchRecord) (text : List ℕ) → SpellsRecords k before made staged → IsText k (before ++ made) r text
    → SpellsRecords k before (made ++ r ∷ []) (staged ++ text ∷ [])
spells_push k before [] [] r text s t = (subst (λ (b : List BenchRecord). IsText k b r text) (append-nil before) t, tt)
spells_push k before [] (p ∷ staged) r text s t = absurd s
spells_push k before (x ∷ made) [] r text s t = absurd s
spells_push k before (x ∷ made) (p ∷ staged) r text s t =
    (s.0, spells_push k (before ++ x ∷ []) made staged r text s.1 (subst (λ (b : List BenchRecord). IsText k b r text) (sym (append_assoc before (x ∷ []) made)) t))

pub spelled_push : (k : ℕ) (made : List BenchRecord) (named named' : List Board) (staged staged' : List (List ℕ)) (r : BenchRecord) (text : List ℕ) → AreSpelled k made named staged → IsTextFor k named r text
    → named' ≡ named_by named (record_sheet r) → staged' ≡ staged ++ text ∷ [] → AreSpelled k (made ++ r ∷ []) named' staged'
spelled_push k made named named' staged staged' r text s t is are = record {
  texts = subst (λ l. SpellsRecords k [] (made ++ r ∷ []) l) (sym are) (spells_push k [] made staged r text s.texts (subst (λ l. IsTextFor k l r text) s.names t));
  names = is ∙ named_push made r named s.names;
}

-- a text has at least its kind
pub some_text : (kind : ℕ) (rest bytes : List ℕ) → bytes ≡ kind ∷ rest → 0 < length bytes
some_text kind rest bytes is = let e = ap length is in omega (arith, e)

-- a sheet behind its kind is the text of its record
pub text_for : (k : ℕ) (named : List Board) (r : BenchRecord) (bytes : List ℕ) (sheet : Sheet) (kind : ℕ) → ShowsEnough k r → IsSoundRecord r → sheet ≡ record_sheet r → kind ≡ short_kind r
    → bytes ≡ kind ∷ short_sheet named sheet → (named' : List Board) → named' ≡ named_by named sheet → length named' < 2 ^ 32 → IsTextFor k named r bytes
text_for k named r bytes sheet kind enough sound is same text named' names few = record {
  shows = enough;
  sound = sound;
  spelled = inr (
    text ∙ (ap (λ n. n ∷ short_sheet named sheet) same ∙ ap (λ (s : Sheet). short_kind r ∷ short_sheet named s) is),
    subst (λ (s : Sheet). length (named_by named s) < 2 ^ 32) is (subst (λ (l : List Board). length l < 2 ^ 32) names few),
  );
}

pub all_done : (k : ℕ) (records : List BenchRecord) (payloads : List Payload) (i : ℕ) → SpellsRecords k [] records (payload_texts payloads) → length payloads ≤ i → length records ≤ i
all_done k records payloads i s l = let a = as_many_records k records payloads s in omega (arith, a, l)

-- ---- a journal, of which nothing but what is staged may change

pub staged_or_same : {D T E : Type 0} (r : Result T E) (old new : Log D) (more : List (List ℕ)) → OnOk r (new ≡ record old { staged = more }) → OnErr r (new ≡ old)
    → new ≡ record old { staged = new.staged }
staged_or_same (Ok v) old new more ok err = ok ∙ ap (λ (l : List (List ℕ)). record old { staged = l }) (sym (ap (λ (j : Log _). j.staged) ok))
staged_or_same (Err e) old new more ok err = err ∙ ap (λ (l : List (List ℕ)). record old { staged = l }) (sym (ap (λ (j : Log _). j.staged) err))

-- the record of which the bytes of a place are the text shows enough, as that which stands there
pub shows_at : (k j : ℕ) (records : List BenchRecord) (i : ℕ) (bytes : List ℕ) (known : List Board) → IsRecordAt k [] records i bytes → j ≡ k → known ≡ named_in [] (take i records)
    → (r : BenchRecord) → ((s : BenchRecord) → IsTextFor j known s bytes → r ≡ s) → ShowsEnough k r
shows_at k j records i bytes known t e is r only =
    let same : r ≡ t.r = only t.r (text_at k j records i bytes known t e is) in
    let text : IsTextFor k (named_in [] (take i records)) t.r bytes = t.text in
    subst (λ (x : BenchRecord). ShowsEnough k x) (sym same) text.shows

pub rest_then : {D : Type 0} (old mid new : Log D) → mid ≡ record old { staged = mid.staged } → new ≡ record mid { staged = new.staged } → new ≡ record old { staged = new.staged }
rest_then old mid new first second = second ∙ ap (λ (j : Log _). record j { staged = new.staged }) first
