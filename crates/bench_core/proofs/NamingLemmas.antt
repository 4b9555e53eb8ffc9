-- The list of names along the records of a bench.
use Rattle.std.proofs.Common.{◌≡◌, ◌≤◌, ◌<◌, ◌^◌, ◌+◌, inr, ℕ, List, [], ◌∷◌, ◌++◌, map, take, length, refl, ap, sym, ◌∙◌, subst, arith, append_assoc, append-nil}
use Rattle.std.specs.Prelude.{Result, Ok, Err, IfOk}
use Rattle.std.proofs.lemmas.List.{same_from_push, map-append, take-take}
use Rattle.std.proofs.Math.Seq.{take-length}
use Rattle.draughts_board.specs.Board.{Board}
use Rattle.bench_records.specs.Names.{Sheet, named_by, short_sheet}
use Rattle.bench_records.specs.Texts.{record_sheet, named_in, short_kind, ShowsEnough, IsSoundRecord, IsShortText, IsTextFor}
use Rattle.bench_records.specs.declared.records.BenchRecord.{BenchRecord}
use Rattle.bench_records.proofs.Numbering.{named_front}
use Rattle.bench_core.specs.Naming.{NamingState, AreRising, lists_before, naming_more, AreNamesOf}

-- ---- along records

pub named_in_then : (named : List Board) (rs qs : List BenchRecord) → named_in named (rs ++ qs) ≡ named_in (named_in named rs) qs
named_in_then named [] qs = refl
named_in_then named (r ∷ rs) qs = named_in_then (named_by named (record_sheet r)) rs qs

before_push : (named : List Board) (rs : List BenchRecord) (r : BenchRecord) → lists_before named (rs ++ r ∷ []) ≡ lists_before named rs ++ named_in named rs ∷ []
before_push named [] r = refl
before_push named (q ∷ rs) r = ap (λ (l : List (List Board)). named ∷ l) (before_push (named_by named (record_sheet q)) rs r)

-- one more record is staged
pub names_staged : (records staged : List BenchRecord) (r : BenchRecord) (old new : NamingState) → AreNamesOf records staged old → new ≡ naming_more old r → AreNamesOf records (staged ++ r ∷ []) new
names_staged records staged r old new h is = subst (AreNamesOf records (staged ++ r ∷ [])) (sym is) (record {
  now = ap (λ l. named_by l (record_sheet r)) h.now
      ∙ (sym (named_in_then [] (records ++ staged) (r ∷ [])) ∙ ap (named_in []) (append_assoc records staged (r ∷ [])));
  before = ap (λ l. l ++ old.now ∷ []) h.before
      ∙ (ap (λ l. lists_before (named_in [] records) staged ++ l ∷ []) (h.now ∙ named_in_then [] records staged)
      ∙ sym (before_push (named_in [] records) staged r));
})

-- the last one is staged no more
pub names_forgotten : (records staged : List BenchRecord) (r : BenchRecord) (old new : NamingState) → AreNamesOf records (staged ++ r ∷ []) old → old.before ≡ new.before ++ new.now ∷ [] → AreNamesOf records staged new
names_forgotten records staged r old new h is =
    let same = same_from_push (lists_before (named_in [] records) staged) new.before (named_in (named_in [] records) staged) new.now
    (sym (before_push (named_in [] records) staged r) ∙ (sym h.before ∙ is)) in
    record { now = sym same.1 ∙ sym (named_in_then [] records staged); before = sym same.0 }

-- there is a last one
pub names_some : (records staged : List BenchRecord) (r : BenchRecord) (old : NamingState) → AreNamesOf records (staged ++ r ∷ []) old → old.before ≡ [] → ⊥
names_some records staged r old h none =
    let long : length (lists_before (named_in [] records) (staged ++ r ∷ [])) ≡ 0 = ap length (sym h.before ∙ none) in
    by staged (named_in [] records) long
  where
    by : (staged : List BenchRecord) (named : List Board) → length (lists_before named (staged ++ r ∷ [])) ≡ 0 → ⊥
    by [] named long = absurd (omega (arith, long))
    by (q ∷ staged) named long = absurd (omega (arith, long))

-- all that are staged are applied
pub names_applied : (records staged : List BenchRecord) (old new : NamingState) → AreNamesOf records staged old → new ≡ record { now = old.now; before = [] } → AreNamesOf (records ++ staged) [] new
names_applied records staged old new h is = subst (AreNamesOf (records ++ staged) []) (sym is) (record {
  now = h.now ∙ ap (named_in []) (sym (append-nil (records ++ staged)));
  before = refl;
})

-- ---- how it is kept

rising_end : (from last : ℕ) (counts : List ℕ) → AreRising from counts last → from ≤ last
rising_end from last [] h = h
rising_end from last (count ∷ counts) h = let first = h.0 in let more = rising_end count last counts h.1 in omega (arith, first, more)

pub rising_push : (from last more : ℕ) (counts : List ℕ) → AreRising from counts last → last ≤ more → AreRising from (counts ++ last ∷ []) more
rising_push from last more [] h longer = (h, longer)
rising_push from last more (count ∷ counts) h longer = (h.0, rising_push count last more counts h.1 longer)

pub rising_pop : (from last count : ℕ) (counts : List ℕ) → AreRising from (counts ++ count ∷ []) last → AreRising from counts count × (count ≤ last)
rising_pop from last count [] h = h
rising_pop from last count (k ∷ counts) h = let rest = rising_pop k last count counts h.1 in ((h.0, rest.0), rest.1)

-- two lists that agree up to a place agree in each shorter front
fronts_same : (from last : ℕ) (counts : List ℕ) (xs ys : List Board) → AreRising from counts last → take last xs ≡ take last ys → map (λ count. take count xs) counts ≡ map (λ count. take count ys) counts
fronts_same from last [] xs ys h same = refl
fronts_same from last (count ∷ counts) xs ys h same = λ i. front i ∷ fronts_same count last counts xs ys h.1 same i
  where
    front : take count xs ≡ take count ys
    front = let within = rising_end count last counts h.1 in sym (take-take count last xs within) ∙ (ap (take count) same ∙ take-take count last ys within)

pub seen_staged : (named : List Board) (sheet : Sheet) (counts : List ℕ) → AreRising 0 counts (length named)
    → map (λ count. take count (named_by named sheet)) (counts ++ length named ∷ []) ≡ map (λ count. take count named) counts ++ named ∷ []
seen_staged named sheet counts rising =
    map-append (λ count. take count (named_by named sheet)) counts (length named ∷ [])
    ∙ (λ i. fronts_same 0 (length named) counts (named_by named sheet) named rising (named_front named sheet ∙ sym (take-length named)) i ++ named_front named sheet i ∷ [])

pub seen_forgotten : (named : List Board) (counts : List ℕ) (count : ℕ) → AreRising 0 (counts ++ count ∷ []) (length named)
    → map (λ k. take k named) (counts ++ count ∷ []) ≡ map (λ k. take k (take count named)) counts ++ take count named ∷ []
seen_forgotten named counts count rising =
    map-append (λ k. take k named) counts (count ∷ [])
    ∙ (λ i. fronts_same 0 count counts named (take count named) (rising_pop 0 (length named) count counts rising).0 (sym (take-take count count named (omega arith))) i ++ take count named ∷ [])

-- ---- in a bench

-- nothing of it changed
pub names_same : (records records' staged staged' : List BenchRecord) (names names' : NamingState) → records' ≡ records → staged' ≡ staged → names' ≡ names → AreNamesOf records staged names → AreNamesOf records' staged' names'
names_same records records' staged staged' names names' x y z h =
    subst (λ rs. AreNamesOf rs staged' names') (sym x) (subst (λ ss. AreNamesOf records ss names') (sym y) (subst (AreNamesOf records staged) (sym z) h))

-- the text that is given
pub short_text_of : (records staged : List BenchRecord) (r : BenchRecord) (kind : ℕ) (sheet : Sheet) (text : List ℕ) (old new : NamingState) → AreNamesOf records staged old → kind ≡ short_kind r → sheet ≡ record_sheet r
    → text ≡ kind ∷ short_sheet old.now sheet → new ≡ record { now = named_by old.now sheet; before = old.before ++ old.now ∷ [] } → length new.now < 2 ^ 32 → IsShortText (named_in [] (records ++ staged)) r text
short_text_of records staged r kind sheet text old new h is_kind is_sheet is_text is_new few = (
  is_text ∙ (λ i. is_kind i ∷ short_sheet (h.now i) (is_sheet i)),
  subst (λ l. length l < 2 ^ 32) (ap (λ (n : NamingState). n.now) is_new ∙ (λ i. named_by (h.now i) (is_sheet i))) few,
)

pub names_more : (old new : NamingState) (r : BenchRecord) (sheet : Sheet) → sheet ≡ record_sheet r → new ≡ record { now = named_by old.now sheet; before = old.before ++ old.now ∷ [] } → new ≡ naming_more old r
names_more old new r sheet is_sheet is = is ∙ ap (λ s. record { now = named_by old.now s; before = old.before ++ old.now ∷ [] }) is_sheet

-- a record with this text has it as one of its texts
pub text_of_short : {T E : Type 0} (answer : Result T E) (items : T → List ℕ) (k : ℕ) (named : List Board) (r : BenchRecord) → ShowsEnough k r → IsSoundRecord r → IfOk answer (λ text. IsShortText named r (items text))
    → IfOk answer (λ text. IsTextFor k named r (items text))
text_of_short (Ok text) items k named r shows sound short = record { shows = shows; sound = sound; spelled = inr short }
text_of_short (Err e) items k named r shows sound short = tt
