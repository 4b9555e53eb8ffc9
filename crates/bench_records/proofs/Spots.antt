-- Reading goes on, field by field.
use Rattle.std.proofs.Common.{◌≡◌, ◌≢◌, ◌≤◌, ℕ, ◌+◌, ◌^◌, zero, suc, Bool, true, false, List, [], ◌∷◌, ◌++◌, length, refl, sym, ◌∙◌, ap, subst, append_assoc, append-nil, arith, inl, inr, take, set, ◌<◌, Some, None}
use Rattle.std.specs.Prelude.{Contains, IsTrue, slice_get, Result, Ok, Err, IfErr}
use Rattle.std.proofs.lemmas.List.{length-append}
use Rattle.draughts_board.specs.Board.{Board, IsLawful}
use Rattle.bench_records.specs.Formats.{Field, byte, short, long, position, place, FieldValue, IsAllowed, field_text, BeginsField, Format, done, field, one, ◌>>=◌, SpellsValue, Fails, Trails}
use Rattle.std.specs.Bool.{OnFalse}
use Rattle.bench_records.specs.Refusals.{IsRecordRefusal, record_wants_memory}
use Rattle.bench_records.specs.declared.records.BenchRecord.{BenchRecord}
use Rattle.std.proofs.Math.Seq.{take-suc-set}
use Rattle.bench_records.specs.Orders.{is_between, is_move_count, many, square_order, path_order, choice_order, rows_order, kind_order, record_order}
use Rattle.bench_records.specs.Names.{noting, at_number, numbered}
use Rattle.bench_records.specs.Positions.{short_text, position_text}
use Rattle.bench_records.specs.Reading.{Spot, spelled_so, ReadsValue, FailsFrom, RefusesRecord, ReadsPlain, RefusesPlain}
use Rattle.bench_records.proofs.Noting.{noting-bind, bind-assoc}
use Rattle.bench_records.proofs.Numbers.{length-short_text, one_short}
use Rattle.std.proofs.lemmas.Option.{slice_get_within}
use Rattle.bench_records.specs.declared.refusal.RecordRefusal.{RecordRefusal}
use Rattle.bench_records.specs.declared.refusal.RecordRefusal.TheVariants.{BadKind, BadField, Trailing, Memory}
use Rattle.bench_records.proofs.Formats.{spells_then, spells_cut, fails_first, fails_behind}
use Rattle.bench_records.proofs.Texts.{is-between, count_some, some_count}
use Rattle.bench_records.proofs.Fields.{one_byte}
use Rattle.bench_records.proofs.Masks.{length-position_text}

-- ---- in full or by number

so_then : {A B : Type 0} (so : Bool) (named : List Board) (f : Format A) (g : A → Format B) → spelled_so so named (f >>= g) ≡ spelled_so so named f >>= (λ r. spelled_so so r.1 (g r.0))
so_then true named f g = noting-bind named f g
so_then false named f g = bind-assoc f g (λ b. done (b, named)) ∙ sym (bind-assoc f (λ a. done (a, named)) (λ r. g r.0 >>= (λ b. done (b, r.1))))

so_done : {A : Type 0} (so : Bool) (named : List Board) (a : A) → spelled_so so named (done a) ≡ done (a, named)
so_done true named a = refl
so_done false named a = refl

-- a field that is no position
abbrev pub IsPlain : Field → Type 0
IsPlain (position others) = ⊥
IsPlain f = Unit {0}

abbrev with_list : (f : Field) → List Board → Format (FieldValue f × List Board)
with_list f named = one f >>= (λ v. done (v, named))

so_one : (so : Bool) (named : List Board) (f : Field) → IsPlain f → spelled_so so named (one f) ≡ with_list f named
so_one true named (byte test) plain = refl
so_one true named short plain = refl
so_one true named (long most) plain = refl
so_one true named (place list others) plain = refl
so_one true named (position others) plain = absurd plain
so_one false named f plain = refl

-- ---- one field

-- a field is read
pub field_read : (f : Field) (old new : Spot) (v : FieldValue f) → IsPlain f → IsAllowed f v → old.left ≡ field_text f v ++ new.left → new.at ≡ old.at + length (field_text f v) → new.named ≡ old.named → new.by_number ≡ old.by_number
    → ReadsValue (one f) old v new
field_read f old new v plain allowed left at named so = record {
  front = field_text f v;
  spelled = subst (λ h. SpellsValue h (field_text f v) (v, new.named)) (sym (so_one old.by_number old.named f plain))
      (v, ([], (record { allowed = allowed; spelled = sym (append-nil (field_text f v)) }, (refl, λ i. (v, sym named i)))));
  left = left;
  at = at;
  so = so;
}

-- what was read
pub record IsRead (f : Field) (front : List ℕ) (v : FieldValue f) (old new : Spot) : Type 0 where
  pub allowed : IsAllowed f v
  pub text : front ≡ field_text f v
  pub named : new.named ≡ old.named

pub field_is : (f : Field) (old new : Spot) (v : FieldValue f) → IsPlain f → (reads : ReadsValue (one f) old v new) → IsRead f reads.front v old new
field_is f old new v plain reads = by (subst (λ h. SpellsValue h reads.front (v, new.named)) (so_one old.by_number old.named f plain) reads.spelled)
  where
    by : SpellsValue (with_list f old.named) reads.front (v, new.named) → IsRead f reads.front v old new
    by (u, (rest, (begins, (none, same)))) =
        let own : u ≡ v = ap (λ (r : FieldValue f × List Board). r.0) same in
        record {
          allowed = subst (IsAllowed f) own begins.allowed;
          text = begins.spelled ∙ ap (λ t. field_text f u ++ t) none ∙ append-nil (field_text f u) ∙ ap (field_text f) own;
          named = sym (ap (λ (r : FieldValue f × List Board). r.1) same);
        }

-- a field fails where it is due
pub field_fails : (f : Field) (old : Spot) → IsPlain f → ((v : FieldValue f) (rest : List ℕ) → IsAllowed f v → old.left ≡ field_text f v ++ rest → ⊥) → FailsFrom (one f) old old.at
field_fails f old plain none = record {
  later = 0;
  place = omega arith;
  fails = subst (λ h. Fails h old.left 0) (sym (so_one old.by_number old.named f plain)) (inl (refl, λ v rest begins. none v rest begins.allowed begins.spelled));
}

-- ---- one behind the other

pub reads_done : {A : Type 0} (a : A) (old : Spot) → ReadsValue (done a) old a old
reads_done a old = record { front = []; spelled = subst (λ h. SpellsValue h [] (a, old.named)) (sym (so_done old.by_number old.named a)) (refl, refl); left = refl; at = omega arith; so = refl }

-- what stands behind the first, behind what it reads
abbrev behind_so : {A B : Type 0} → Bool → (A → Format B) → A × List Board → Format (B × List Board)
behind_so so g r = spelled_so so r.1 (g r.0)

pub reads_then : {A B : Type 0} (f : Format A) (g : A → Format B) (old middle new : Spot) (a : A) (b : B) → ReadsValue f old a middle → ReadsValue (g a) middle b new → ReadsValue (f >>= g) old b new
reads_then f g old middle new a b first second = record {
  front = first.front ++ second.front;
  spelled = subst (λ h. SpellsValue h (first.front ++ second.front) (b, new.named)) (sym (so_then old.by_number old.named f g))
      (spells_then (spelled_so old.by_number old.named f) (behind_so old.by_number g) first.front second.front (a, middle.named) (b, new.named) first.spelled
      (subst (λ so. SpellsValue (spelled_so so middle.named (g a)) second.front (b, new.named)) first.so second.spelled));
  left = first.left ∙ ap (λ t. first.front ++ t) second.left ∙ sym (append_assoc first.front second.front new.left);
  at = let p = first.at in let q = second.at in omega (arith, length-append first.front second.front);
  so = second.so ∙ first.so;
}

pub fails_here : {A B : Type 0} (f : Format A) (g : A → Format B) (old : Spot) (at : ℕ) → FailsFrom f old at → FailsFrom (f >>= g) old at
fails_here f g old at fault = record {
  later = fault.later;
  place = fault.place;
  fails = subst (λ h. Fails h old.left fault.later) (sym (so_then old.by_number old.named f g)) (fails_first (spelled_so old.by_number old.named f) (behind_so old.by_number g) old.left fault.later fault.fails);
}

pub fails_later : {A B : Type 0} (f : Format A) (g : A → Format B) (old middle : Spot) (a : A) (at : ℕ) → ReadsValue f old a middle → FailsFrom (g a) middle at → FailsFrom (f >>= g) old at
fails_later f g old middle a at first fault = record {
  later = length first.front + fault.later;
  place = let p = first.at in let q = fault.place in omega arith;
  fails = subst (λ h. Fails h old.left (length first.front + fault.later)) (sym (so_then old.by_number old.named f g))
      (subst (λ t. Fails (spelled_so old.by_number old.named f >>= behind_so old.by_number g) t (length first.front + fault.later)) (sym first.left)
      (fails_behind (spelled_so old.by_number old.named f) (behind_so old.by_number g) first.front middle.left (a, middle.named) fault.later first.spelled
      (subst (λ so. Fails (spelled_so so middle.named (g a)) middle.left fault.later) first.so fault.fails)));
}

pub refuses_here : {A B : Type 0} (f : Format A) (g : A → Format B) (old : Spot) (r : RecordRefusal) → RefusesRecord f old r → RefusesRecord (f >>= g) old r
refuses_here f g old BadKind h = h
refuses_here f g old (BadField at) h = fails_here f g old at h
refuses_here f g old (Trailing at) h = h
refuses_here f g old (Memory e) h = h

pub refuses_later : {A B : Type 0} (f : Format A) (g : A → Format B) (old middle : Spot) (a : A) (r : RecordRefusal) → ReadsValue f old a middle → RefusesRecord (g a) middle r → RefusesRecord (f >>= g) old r
refuses_later f g old middle a BadKind first h = h
refuses_later f g old middle a (BadField at) first h = fails_later f g old middle a at first h
refuses_later f g old middle a (Trailing at) first h = h
refuses_later f g old middle a (Memory e) first h = h

-- ---- a loop over a number of items

-- what is still to be read leads to the whole
pub record GoesOn {A : Type 0} (whole : Format A) (start : Spot) (rest : Format A) (here : Spot) : Type 0 where
  pub reads : (a : A) (new : Spot) → ReadsValue rest here a new → ReadsValue whole start a new
  pub refuses : (r : RecordRefusal) → RefusesRecord rest here r → RefusesRecord whole start r

pub goes_on : {A : Type 0} (whole : Format A) (start : Spot) → GoesOn whole start whole start
goes_on whole start = record { reads = λ a new h. h; refuses = λ r h. h }

-- so after one more
pub one_more : {X : Type 0} (whole : Format (List X)) (next : List X → Format X) (start here later : Spot) (n left : ℕ) (before : List X) (x : X)
    → n ≡ suc left → GoesOn whole start (many n next before) here → ReadsValue (next before) here x later → GoesOn whole start (many left next (before ++ x ∷ [])) later
one_more whole next start here later n left before x count on first =
    let on_left = subst (λ k. GoesOn whole start (many k next before) here) count on in
    record {
      reads = λ a new h. on_left.reads a new (reads_then (next before) (λ y. many left next (before ++ y ∷ [])) here later new x a first h);
      refuses = λ r h. on_left.refuses r (refuses_later (next before) (λ y. many left next (before ++ y ∷ [])) here later x r first h);
    }

-- the next one is refused
pub next_refused : {X : Type 0} (whole : Format (List X)) (next : List X → Format X) (start here : Spot) (n left : ℕ) (before : List X) (r : RecordRefusal)
    → n ≡ suc left → GoesOn whole start (many n next before) here → RefusesRecord (next before) here r → RefusesRecord whole start r
next_refused whole next start here n left before r count on refused =
    let on_left = subst (λ k. GoesOn whole start (many k next before) here) count on in
    on_left.refuses r (refuses_here (next before) (λ y. many left next (before ++ y ∷ [])) here r refused)

-- all are read
pub all_read : {X : Type 0} (whole : Format (List X)) (next : List X → Format X) (start here : Spot) (n : ℕ) (all : List X)
    → n ≡ 0 → GoesOn whole start (many n next all) here → ReadsValue whole start all here
all_read whole next start here n all none on =
    let on_left = subst (λ k. GoesOn whole start (many k next all) here) none on in
    on_left.reads all here (reads_done all here)

-- ---- the number of rows, and the rows

module _ {R P : Type 0} (order : List R → Format R) (made : List R → P) where
  -- what is made of the rows, and what stands behind their number
  abbrev made_of : List R → Format P
  made_of rows = done (made rows)

  abbrev rows_behind : ℕ → Format P
  rows_behind count = many count order [] >>= made_of

  -- all rows are read
  pub rows_read : (start first here : Spot) (count left : ℕ) (rows : List R)
      → ReadsValue (one short) start count first → left ≡ 0 → GoesOn (many count order []) first (many left order rows) here
      → ReadsValue (rows_order order made) start (made rows) here
  rows_read start first here count left rows counted none on =
      reads_then (one short) rows_behind start first here count (made rows) counted
      (reads_then (many count order []) made_of first here here rows (made rows)
      (all_read (many count order []) order first here left rows none on) (reads_done (made rows) here))

  -- the next row is refused
  pub rows_refused : (start first here : Spot) (count left more : ℕ) (rows : List R) (r : RecordRefusal)
      → ReadsValue (one short) start count first → left ≡ suc more → GoesOn (many count order []) first (many left order rows) here
      → RefusesRecord (order rows) here r → RefusesRecord (rows_order order made) start r
  rows_refused start first here count left more rows r counted some on refused =
      refuses_later (one short) rows_behind start first count r counted
      (refuses_here (many count order []) made_of first r
      (next_refused (many count order []) order first here left more rows r some on refused))

-- ---- the number of a move's squares

-- the only field fails at its own place
pub fails_one : (f : Field) (old : Spot) (at : ℕ) → IsPlain f → FailsFrom (one f) old at → (at ≡ old.at) × ((v : FieldValue f) (rest : List ℕ) → ¬ BeginsField f old.left v rest)
fails_one f old at plain fault = by (subst (λ h. Fails h old.left fault.later) (so_one old.by_number old.named f plain) fault.fails)
  where
    by : Fails (with_list f old.named) old.left fault.later → (at ≡ old.at) × ((v : FieldValue f) (rest : List ℕ) → ¬ BeginsField f old.left v rest)
    by (inl here) = (let p = fault.place in let q = here.0 in omega arith, here.1)
    by (inr (v, (rest, (begins, (later, (from, fails)))))) = absurd fails

-- a byte is refused where one that passes more is
byte_refused : (test other : ℕ → Bool) (old : Spot) (r : RecordRefusal) → ((n : ℕ) → IsTrue (other n) → IsTrue (test n)) → RefusesRecord (one (byte test)) old r → RefusesRecord (one (byte other)) old r
byte_refused test other old BadKind wider h = h
byte_refused test other old (BadField at) wider h =
    let only = fails_one (byte test) old at tt h in
    subst (λ n. FailsFrom (one (byte other)) old n) (sym only.0) (field_fails (byte other) old tt (λ n rest allowed spelled. only.1 n rest (record { allowed = wider n allowed; spelled = spelled })))
byte_refused test other old (Trailing at) wider h = h
byte_refused test other old (Memory e) wider h = h

byte_as : (test other : ℕ → Bool) (old new : Spot) (n : ℕ) → ReadsValue (one (byte test)) old n new → IsTrue (other n) → ReadsValue (one (byte other)) old n new
byte_as test other old new n reads allowed =
    let known = field_is (byte test) old new n tt reads in
    field_read (byte other) old new n tt allowed (reads.left ∙ ap (λ t. t ++ new.left) known.text) (reads.at ∙ ap (λ t. old.at + length t) known.text) known.named reads.so

byte_not : (test other : ℕ → Bool) (old new : Spot) (n : ℕ) → ReadsValue (one (byte test)) old n new → ¬ IsTrue (other n) → FailsFrom (one (byte other)) old old.at
byte_not test other old new n reads refused =
    let known = field_is (byte test) old new n tt reads in
    field_fails (byte other) old tt (λ m rest allowed spelled.
    let same = one_byte m n rest new.left (sym spelled ∙ reads.left ∙ ap (λ t. t ++ new.left) known.text) in
    refused (subst (λ k. IsTrue (other k)) same.0 allowed))

is_count : (n : ℕ) → IsTrue (is_move_count n) → n ≤ 13
is_count zero h = omega arith
is_count (suc n) h = (count_some n h).1

pub count_refused : (old : Spot) (r : RecordRefusal) → RefusesRecord (one (byte (is_between 0 13))) old r → RefusesRecord (one (byte is_move_count)) old r
count_refused old r h = byte_refused (is_between 0 13) is_move_count old r (λ n allowed. is-between 0 13 n (omega arith) (is_count n allowed)) h

pub count_read : (old new : Spot) (n : ℕ) → ReadsValue (one (byte (is_between 0 13))) old n new → n ≢ 1 → n ≤ 13 → ReadsValue (one (byte is_move_count)) old n new
count_read old new n reads some most = by n reads some most
  where
    by : (n : ℕ) → ReadsValue (one (byte (is_between 0 13))) old n new → n ≢ 1 → n ≤ 13 → ReadsValue (one (byte is_move_count)) old n new
    by zero reads some most = byte_as (is_between 0 13) is_move_count old new 0 reads refl
    by (suc zero) reads some most = absurd (some refl)
    by (suc (suc n)) reads some most = byte_as (is_between 0 13) is_move_count old new (suc (suc n)) reads (some_count (suc (suc n)) (omega arith) most)

pub count_wrong : (old new : Spot) (n : ℕ) → ReadsValue (one (byte (is_between 0 13))) old n new → n ≡ 1 → FailsFrom (one (byte is_move_count)) old old.at
count_wrong old new n reads only = byte_not (is_between 0 13) is_move_count old new n reads (λ h. let k = (count_some 0 (subst (λ m. IsTrue (is_move_count m)) only h)).0 in omega arith)

-- ---- a position, of those that are not to come again

-- in full
pub full_read : (others : List Board) (old new : Spot) (p : Board) → old.by_number ≡ false → IsLawful p → ¬ Contains others p → old.left ≡ position_text p ++ new.left → new.at ≡ old.at + length (position_text p) → new.named ≡ old.named → new.by_number ≡ old.by_number
    → ReadsValue (one (position others)) old p new
full_read others old new p full lawful absent left at named so = record {
  front = position_text p;
  spelled = subst (λ b. SpellsValue (spelled_so b old.named (one (position others))) (position_text p) (p, new.named)) (sym full)
      (p, ([], (record { allowed = (lawful, absent); spelled = sym (append-nil (position_text p)) }, (refl, λ i. (p, sym named i)))));
  left = left;
  at = at;
  so = so;
}

pub full_fails : (others : List Board) (old : Spot) → old.by_number ≡ false → ((p : Board) (rest : List ℕ) → IsLawful p → ¬ Contains others p → old.left ≡ position_text p ++ rest → ⊥) → FailsFrom (one (position others)) old old.at
full_fails others old full none = record {
  later = 0;
  place = omega arith;
  fails = subst (λ b. Fails (spelled_so b old.named (one (position others))) old.left 0) (sym full) (inl (refl, λ p rest begins. none p rest begins.allowed.0 begins.allowed.1 begins.spelled));
}

-- by its number
pub number_read : (others : List Board) (old new : Spot) (n : ℕ) (p : Board) → old.by_number ≡ true → n + 1 < 2 ^ 32 → slice_get old.named n ≡ Some p → ¬ Contains others p → old.left ≡ short_text n ++ new.left → new.at ≡ old.at + 4 → new.named ≡ old.named → new.by_number ≡ old.by_number
    → ReadsValue (one (position others)) old p new
number_read others old new n p so few at absent left goes named own = record {
  front = short_text n;
  spelled = subst (λ b. SpellsValue (spelled_so b old.named (one (position others))) (short_text n) (p, new.named)) (sym so) (
    n,
    (
      [],
      (
        record { allowed = (few, (omega (arith, slice_get_within old.named n p at), λ q here. let same : q ≡ p = cc in subst (λ r. ¬ Contains others r) (sym same) absent)); spelled = sym (append-nil (short_text n)) },
        subst (λ o. SpellsValue (at_number old.named others o >>= (λ r. noting r.1 (done r.0))) [] (p, new.named)) (sym at) (refl, λ i. (p, sym named i)),
      ),
    ),
  );
  left = left;
  at = goes ∙ ap (λ k. old.at + k) (sym (length-short_text n));
  so = own;
}

-- no number begins that the field allows
pub number_fails : (others : List Board) (old : Spot) → old.by_number ≡ true → ((n : ℕ) (rest : List ℕ) → IsAllowed (place old.named others) n → old.left ≡ short_text n ++ rest → ⊥) → FailsFrom (one (position others)) old old.at
number_fails others old so none = record {
  later = 0;
  place = omega arith;
  fails = subst (λ b. Fails (spelled_so b old.named (one (position others))) old.left 0) (sym so) (inl (refl, λ n rest begins. none n rest begins.allowed begins.spelled));
}

-- a position that the number names may not come again
pub number_taken : (others : List Board) (old : Spot) (n : ℕ) (p : Board) (left : List ℕ) → old.by_number ≡ true → n < 2 ^ 32 → slice_get old.named n ≡ Some p → Contains others p → old.left ≡ short_text n ++ left → FailsFrom (one (position others)) old old.at
number_taken others old n p left so few at there is =
    number_fails others old so (λ m rest allowed spelled.
    let least = allowed.0 in
    let same = one_short m n rest left (omega arith) few (sym spelled ∙ is) in
    allowed.1.1 p (ap (slice_get old.named) same.0 ∙ at) there)

-- behind the number of none of the list a position that the list lacks
module _ (others : List Board) (old : Spot) (n : ℕ) (left : List ℕ) (so : old.by_number ≡ true) (few : n + 1 < 2 ^ 32) (most : n ≤ length old.named) (past : slice_get old.named n ≡ None) (is : old.left ≡ short_text n ++ left) where
  begins_number : BeginsField (place old.named others) old.left n left
  begins_number = record { allowed = (few, (most, λ q here. absurd (cc))); spelled = is }

  pub new_read : (new : Spot) (p : Board) → IsLawful p → ¬ Contains (old.named ++ others) p → left ≡ position_text p ++ new.left → new.at ≡ old.at + 21 → new.named ≡ old.named ++ p ∷ [] → new.by_number ≡ old.by_number → ReadsValue (one (position others)) old p new
  new_read new p lawful absent left_is at named own = record {
    front = short_text n ++ position_text p;
    spelled = subst (λ b. SpellsValue (spelled_so b old.named (one (position others))) (short_text n ++ position_text p) (p, new.named)) (sym so) (
      n,
      (
        position_text p,
        (
          record { allowed = begins_number.allowed; spelled = refl },
          subst (λ o. SpellsValue (at_number old.named others o >>= (λ r. noting r.1 (done r.0))) (position_text p) (p, new.named)) (sym past)
              (p, ([], (record { allowed = (lawful, absent); spelled = sym (append-nil (position_text p)) }, (refl, λ i. (p, sym named i))))),
        ),
      ),
    );
    left = is ∙ ap (λ t. short_text n ++ t) left_is ∙ sym (append_assoc (short_text n) (position_text p) new.left);
    at = omega (arith, at, length-append (short_text n) (position_text p), length-short_text n, length-position_text p);
    so = own;
  }

  pub new_fails : ((p : Board) (rest : List ℕ) → IsLawful p → ¬ Contains (old.named ++ others) p → left ≡ position_text p ++ rest → ⊥) → FailsFrom (one (position others)) old (old.at + 4)
  new_fails none = record {
    later = 4;
    place = refl;
    fails = subst (λ b. Fails (spelled_so b old.named (one (position others))) old.left 4) (sym so)
        (inr (
          n,
          (
            left,
            (
              begins_number,
              (
                0,
                (
                  omega (arith, length-short_text n),
                  subst (λ o. Fails (at_number old.named others o >>= (λ r. noting r.1 (done r.0))) left 0) (sym past)
                      (inl (refl, λ p rest begins. none p rest begins.allowed.0 begins.allowed.1 begins.spelled)),
                ),
              ),
            ),
          ),
        ));
  }

-- ---- a path square by square

pub path_longer : (path : List ℕ) (i s : ℕ) → i < length path → take (i + 1) (set path i s) ≡ take i path ++ s ∷ []
path_longer path i s lt = let next : suc i ≡ i + 1 = omega arith in ap (λ n. take n (set path i s)) (sym next) ∙ take-suc-set path i s lt

-- behind its number a path is a choice
pub path_choice : (old middle new : Spot) (n : ℕ) (path : List ℕ) → ReadsValue (one (byte is_move_count)) old n middle → n ≢ 0 → ReadsValue (many n square_order []) middle path new → ReadsValue choice_order old (Some path) new
path_choice old middle new n path count some reads = by n count some reads
  where
    by : (n : ℕ) → ReadsValue (one (byte is_move_count)) old n middle → n ≢ 0 → ReadsValue (many n square_order []) middle path new → ReadsValue choice_order old (Some path) new
    by zero count some reads = absurd (some refl)
    by (suc k) count some reads =
        reads_then (one (byte is_move_count)) path_order old middle new (suc k) (Some path) count
        (reads_then (many (suc k) square_order []) (λ p. done (Some p)) middle new new path (Some path) reads (reads_done (Some path) new))

pub no_choice : (old new : Spot) (n : ℕ) → ReadsValue (one (byte is_move_count)) old n new → n ≡ 0 → ReadsValue choice_order old None new
no_choice old new n count none =
    let zero_count = subst (λ k. ReadsValue (one (byte is_move_count)) old k new) none count in
    reads_then (one (byte is_move_count)) path_order old new new 0 None zero_count (reads_done None new)

pub choice_refused : (old middle : Spot) (n : ℕ) (r : RecordRefusal) → ReadsValue (one (byte is_move_count)) old n middle → n ≢ 0 → RefusesRecord (many n square_order []) middle r → RefusesRecord choice_order old r
choice_refused old middle n r count some refused = by n count some refused
  where
    by : (n : ℕ) → ReadsValue (one (byte is_move_count)) old n middle → n ≢ 0 → RefusesRecord (many n square_order []) middle r → RefusesRecord choice_order old r
    by zero count some refused = absurd (some refl)
    by (suc k) count some refused =
        refuses_later (one (byte is_move_count)) path_order old middle (suc k) r count (refuses_here (many (suc k) square_order []) (λ p. done (Some p)) middle r refused)

-- ---- whole records

no_bytes : (xs : List ℕ) → length xs ≡ 0 → xs ≡ []
no_bytes [] e = refl
no_bytes (x ∷ xs) e = absurd (omega arith)

-- what is read in full is read as it stands
pub plain_reads : {A : Type 0} (f : Format A) (old new : Spot) (a : A) → old.by_number ≡ false → ReadsValue f old a new → ReadsPlain f old a new
plain_reads {A} f old new a full reads =
    let cut = spells_cut f (λ b. done (b, old.named)) reads.front (a, new.named) (subst (λ b. SpellsValue (spelled_so b old.named f) reads.front (a, new.named)) full reads.spelled) in
    let own : cut.value ≡ a = ap (λ (r : A × List Board). r.0) cut.second.1 in
    let text : reads.front ≡ cut.front = cut.is ∙ ap (λ t. cut.front ++ t) cut.second.0 ∙ append-nil cut.front in
    record { front = reads.front; spelled = subst (λ t. SpellsValue f t a) (sym text) (subst (SpellsValue f cut.front) own cut.first); left = reads.left; at = reads.at }

fails_only : {A B : Type 0} (f : Format A) (g : A → B) (bytes : List ℕ) (at : ℕ) → Fails (f >>= (λ a. done (g a))) bytes at → Fails f bytes at
fails_only (done c) g bytes at fails = fails
fails_only (field f next) g bytes at (inl here) = inl here
fails_only (field f next) g bytes at (inr (v, (rest, (begins, (later, (from, fails)))))) = inr (v, (rest, (begins, (later, (from, fails_only (next v) g rest later fails)))))

pub plain_refuses : {A : Type 0} (f : Format A) (old : Spot) (r : RecordRefusal) → old.by_number ≡ false → RefusesRecord f old r → RefusesPlain f old r
plain_refuses f old BadKind full h = h
plain_refuses f old (BadField at) full h = record { later = h.later; place = h.place; fails = fails_only f (λ a. (a, old.named)) old.left h.later (subst (λ b. Fails (spelled_so b old.named f) old.left h.later) full h.fails) }
plain_refuses f old (Trailing at) full h = h
plain_refuses f old (Memory e) full h = h

-- what is read by numbers
abbrev pub with_numbers : Spot → Spot
with_numbers s = record { left = s.left; at = s.at; named = s.named; by_number = true }

pub number_reads : {A : Type 0} (f : Format A) (old new : Spot) (a : A) → ReadsValue f (with_numbers old) a new → ReadsPlain (numbered old.named f) old a new
number_reads f old new a reads = record {
  front = reads.front;
  spelled = subst (λ t. SpellsValue (numbered old.named f) t a) (append-nil reads.front) (spells_then (noting old.named f) (λ r. done r.0) reads.front [] (a, new.named) a reads.spelled (refl, refl));
  left = reads.left;
  at = reads.at;
}

pub number_refuses : {A : Type 0} (f : Format A) (old : Spot) (r : RecordRefusal) → RefusesRecord f (with_numbers old) r → RefusesPlain (numbered old.named f) old r
number_refuses f old BadKind h = h
number_refuses f old (BadField at) h = record { later = h.later; place = h.place; fails = fails_first (noting old.named f) (λ r. done r.0) old.left h.later h.fails }
number_refuses f old (Trailing at) h = h
number_refuses f old (Memory e) h = h

-- where a record's bytes begin
abbrev pub start_of : List Board → List ℕ → Spot
start_of named bytes = record { left = bytes; at = 0; named = named; by_number = false }

module _ (named : List Board) (pieces : ℕ) (bytes : List ℕ) where
  pub kind_fails : (r : RecordRefusal) → RefusesRecord (one (byte (is_between 1 5))) (start_of named bytes) r → r ≡ BadField 0 → Fails (record_order named pieces) bytes 0
  kind_fails r refused e =
      let fault = subst (RefusesRecord (one (byte (is_between 1 5))) (start_of named bytes)) e refused in
      inl (refl, (fails_one (byte (is_between 1 5)) (start_of named bytes) 0 tt fault).1)

  module _ (middle : Spot) (kind : ℕ) (reads : ReadsValue (one (byte (is_between 1 5))) (start_of named bytes) kind middle) where
    first : ReadsPlain (one (byte (is_between 1 5))) (start_of named bytes) kind middle
    first = plain_reads (one (byte (is_between 1 5))) (start_of named bytes) middle kind refl reads

    same_names : middle.named ≡ named
    same_names = (field_is (byte (is_between 1 5)) (start_of named bytes) middle kind tt reads).named

    one_byte_on : middle.at ≡ 1
    one_byte_on = let known = (field_is (byte (is_between 1 5)) (start_of named bytes) middle kind tt reads).text in let at = reads.at in omega (arith, ap length known)

    pub record_refused : (r : RecordRefusal) → RefusesPlain (kind_order middle.named pieces kind) middle r → OnFalse (record_wants_memory r) (IsRecordRefusal named pieces bytes r)
    record_refused BadKind refused = absurd refused
    record_refused (BadField at) refused =
        let fails = subst (λ l. Fails (kind_order l pieces kind) middle.left refused.later) same_names refused.fails in
        let moved = fails_behind (one (byte (is_between 1 5))) (kind_order named pieces) first.front middle.left kind refused.later first.spelled fails in
        let place : length first.front + refused.later ≡ at = let p = refused.place in let q = first.at in omega arith in
        let some : 1 ≤ at = let p = refused.place in let q = one_byte_on in omega arith in
        (some, subst (λ n. Fails (record_order named pieces) bytes n) place (subst (λ t. Fails (record_order named pieces) t (length first.front + refused.later)) (sym first.left) moved))
    record_refused (Trailing at) refused = absurd refused
    record_refused (Memory e) refused = tt

    module _ (end : Spot) (r : BenchRecord) (second : ReadsPlain (kind_order middle.named pieces kind) middle r end) where
      whole : SpellsValue (record_order named pieces) (first.front ++ second.front) r
      whole = spells_then (one (byte (is_between 1 5))) (kind_order named pieces) first.front second.front kind r first.spelled (subst (λ l. SpellsValue (kind_order l pieces kind) second.front r) same_names second.spelled)

      all_left : bytes ≡ (first.front ++ second.front) ++ end.left
      all_left = first.left ∙ ap (λ t. first.front ++ t) second.left ∙ sym (append_assoc first.front second.front end.left)

      pub record_trails : length end.left ≢ 0 → Trails (record_order named pieces) bytes end.at
      record_trails some = by end.left refl
        where
          by : (left : List ℕ) → end.left ≡ left → Trails (record_order named pieces) bytes end.at
          by [] e = absurd (some (ap length e))
          by (b ∷ left) e = record {
            front = first.front ++ second.front;
            value = r;
            next = b;
            rest = left;
            spelled = whole;
            is = all_left ∙ ap (λ t. (first.front ++ second.front) ++ t) e;
            place = let p = first.at in let q = second.at in omega (arith, length-append first.front second.front);
          }

      pub record_spelled : length end.left ≡ 0 → SpellsValue (record_order named pieces) bytes r
      record_spelled none = subst (λ t. SpellsValue (record_order named pieces) t r) (sym (all_left ∙ ap (λ t. (first.front ++ second.front) ++ t) (no_bytes end.left none) ∙ append-nil (first.front ++ second.front))) whole

-- ---- answers

pub err_weaker : {X Y : Type 0} (r : Result X Y) (P Q : Y → Type 0) → ((y : Y) → P y → Q y) → IfErr r P → IfErr r Q
err_weaker (Ok x) P Q h k = k
err_weaker (Err y) P Q h k = h y k
