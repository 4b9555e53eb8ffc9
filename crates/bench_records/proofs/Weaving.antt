-- How a sheet grows, and how it is filled.
use Rattle.std.proofs.Common.{◌≡◌, ℕ, suc, ◌+◌, ◌-◌, ◌<◌, ◌≤◌, List, [], ◌∷◌, ◌++◌, length, take, drop, sym, ◌∙◌, ap, subst, arith, append_assoc, append-nil, get_or, drop-cons}
use Rattle.std.proofs.lemmas.List.{length-drop, map-append, drop-append-le, take-append-le, take_all, nil_from_length}
use Rattle.std.proofs.Math.Seq.{drop-length}
use Rattle.draughts_board.specs.Board.{Board}
use Rattle.bench_records.specs.Names.{mark, name, marks, full_text, short_sheet, named_by, name_text, with_name}
use Rattle.bench_records.specs.Woven.{woven, AreRising}
use Rattle.bench_records.specs.Positions.{position_text}
use Rattle.bench_records.proofs.Sheets.{full_marks, short_marks, named_marks}

rising_end : (from last : ℕ) (names : List (Board × ℕ)) → AreRising from last names → from ≤ last
rising_end from last [] rising = rising
rising_end from last (row ∷ names) rising = let one = rising.0 in let more = rising_end row.1 last names rising.1 in omega arith

pub rising_longer : (from last later : ℕ) (names : List (Board × ℕ)) → last ≤ later → AreRising from last names → AreRising from later names
rising_longer from last later [] more rising = omega arith
rising_longer from last later (row ∷ names) more rising = (rising.0, rising_longer row.1 last later names more rising.1)

pub rising_name : (from last : ℕ) (names : List (Board × ℕ)) (p : Board) → AreRising from last names → AreRising from last (names ++ (p, last) ∷ [])
rising_name from last [] p rising = (rising, omega arith)
rising_name from last (row ∷ names) p rising = (rising.0, rising_name row.1 last names p rising.1)

-- bytes behind a sheet
pub woven_longer : (from : ℕ) (bytes more : List ℕ) (names : List (Board × ℕ)) → AreRising from (length bytes) names → woven from (bytes ++ more) names ≡ woven from bytes names ++ marks more
woven_longer from bytes more [] rising = ap marks (drop-append-le from bytes more rising) ∙ map-append mark (drop from bytes) more
woven_longer from bytes more (row ∷ names) rising =
    let end = rising_end row.1 (length bytes) names rising.1 in
    let first = rising.0 in
    let enough : row.1 - from ≤ length (drop from bytes) = omega (arith, length-drop from bytes) in
    let front : take (row.1 - from) (drop from (bytes ++ more)) ≡ take (row.1 - from) (drop from bytes) =
    ap (take (row.1 - from)) (drop-append-le from bytes more (omega arith)) ∙ take-append-le (row.1 - from) (drop from bytes) more enough in
    (λ i. marks (front i) ++ name row.0 ∷ woven_longer row.1 bytes more names rising.1 i)
    ∙ sym (append_assoc (marks (take (row.1 - from) (drop from bytes))) (name row.0 ∷ woven row.1 bytes names) (marks more))

-- a position behind a sheet
pub woven_name : (from : ℕ) (bytes : List ℕ) (names : List (Board × ℕ)) (p : Board) → AreRising from (length bytes) names → woven from bytes (names ++ (p, length bytes) ∷ []) ≡ woven from bytes names ++ name p ∷ []
woven_name from bytes [] p rising =
    let all : take (length bytes - from) (drop from bytes) ≡ drop from bytes = take_all (length bytes - from) (drop from bytes) (omega (arith, length-drop from bytes)) in
    λ i. marks (all i) ++ name p ∷ marks (drop-length bytes i)
woven_name from bytes (row ∷ names) p rising =
    ap (λ s. marks (take (row.1 - from) (drop from bytes)) ++ name row.0 ∷ s) (woven_name row.1 bytes names p rising.1)
    ∙ sym (append_assoc (marks (take (row.1 - from) (drop from bytes))) (name row.0 ∷ woven row.1 bytes names) (name p ∷ []))

-- ---- filling

-- what is filled, with the sheet that is left, is the whole
pub record Fills (whole : List ℕ) (after : List Board) (bytes : List ℕ) (text : List ℕ) (list : List Board) (from : ℕ) (rest : List (Board × ℕ)) : Type 0 where
  pub rising : AreRising from (length bytes) rest
  pub text_is : text ++ short_sheet list (woven from bytes rest) ≡ whole
  pub list_is : named_by list (woven from bytes rest) ≡ after

pub fills_more : (whole : List ℕ) (after : List Board) (bytes text : List ℕ) (list : List Board) (from : ℕ) (p : Board) (end : ℕ) (rest : List (Board × ℕ))
    → Fills whole after bytes text list from ((p, end) ∷ rest) → Fills whole after bytes ((text ++ take (end - from) (drop from bytes)) ++ name_text list p) (with_name list p) end rest
fills_more whole after bytes text list from p end rest f =
    let front = take (end - from) (drop from bytes) in
    let behind = woven end bytes rest in
    record {
      rising = f.rising.1;
      text_is =
          append_assoc (text ++ front) (name_text list p) (short_sheet (with_name list p) behind)
          ∙ append_assoc text front (name_text list p ++ short_sheet (with_name list p) behind)
          ∙ ap (λ t. text ++ t) (sym (short_marks list front (name p ∷ behind))) ∙ f.text_is;
      list_is = sym (named_marks list front (name p ∷ behind)) ∙ f.list_is;
    }

pub fills_all : (whole : List ℕ) (after : List Board) (bytes text : List ℕ) (list : List Board) (from : ℕ) → Fills whole after bytes text list from []
    → (text ++ drop from bytes ≡ whole) × (list ≡ after)
fills_all whole after bytes text list from f =
    let rest = drop from bytes in (
      ap (λ t. text ++ t) (sym (append-nil rest) ∙ sym (short_marks list rest []) ∙ ap (short_sheet list) (append-nil (marks rest))) ∙ f.text_is,
      sym (named_marks list rest []) ∙ ap (named_by list) (append-nil (marks rest)) ∙ f.list_is,
    )

-- one more of the names
pub fills_next : (whole : List ℕ) (after : List Board) (bytes text : List ℕ) (list : List Board) (from i : ℕ) (names : List (Board × ℕ)) (row : Board × ℕ)
    → i < length names → row ≡ get_or names i row → Fills whole after bytes text list from (drop i names)
    → (row.1 ≤ length bytes) × Fills whole after bytes ((text ++ take (row.1 - from) (drop from bytes)) ++ name_text list row.0) (with_name list row.0) row.1 (drop (i + 1) names)
fills_next whole after bytes text list from i names row lt is f =
    let next : suc i ≡ i + 1 = omega arith in
    let cut : drop i names ≡ row ∷ drop (i + 1) names = drop-cons names i row lt ∙ (λ j. sym is j ∷ drop (next j) names) in
    let here : Fills whole after bytes text list from ((row.0, row.1) ∷ drop (i + 1) names) = subst (Fills whole after bytes text list from) cut f in
    (rising_end row.1 (length bytes) (drop (i + 1) names) here.rising.1, fills_more whole after bytes text list from row.0 row.1 (drop (i + 1) names) here)

-- none is left
pub fills_end : (whole : List ℕ) (after : List Board) (bytes text : List ℕ) (list : List Board) (from i : ℕ) (names : List (Board × ℕ))
    → length names ≤ i → Fills whole after bytes text list from (drop i names) → (text ++ drop from bytes ≡ whole) × (list ≡ after)
fills_end whole after bytes text list from i names past f =
    let none : drop i names ≡ [] = nil_from_length (drop i names) (omega (arith, length-drop i names)) in
    fills_all whole after bytes text list from (subst (Fills whole after bytes text list from) none f)

-- ---- in full

pub record Spells (whole : List ℕ) (bytes : List ℕ) (text : List ℕ) (from : ℕ) (rest : List (Board × ℕ)) : Type 0 where
  pub rising : AreRising from (length bytes) rest
  pub text_is : text ++ full_text (woven from bytes rest) ≡ whole

spells_more : (whole bytes text : List ℕ) (from : ℕ) (p : Board) (end : ℕ) (rest : List (Board × ℕ)) → Spells whole bytes text from ((p, end) ∷ rest)
    → Spells whole bytes ((text ++ take (end - from) (drop from bytes)) ++ position_text p) end rest
spells_more whole bytes text from p end rest f =
    let front = take (end - from) (drop from bytes) in
    let behind = woven end bytes rest in
    record {
      rising = f.rising.1;
      text_is =
          append_assoc (text ++ front) (position_text p) (full_text behind)
          ∙ append_assoc text front (position_text p ++ full_text behind)
          ∙ ap (λ t. text ++ t) (sym (full_marks front (name p ∷ behind))) ∙ f.text_is;
    }

pub spells_rise : (whole bytes text : List ℕ) (from i : ℕ) (names : List (Board × ℕ)) (row : Board × ℕ) → i < length names → row ≡ get_or names i row → Spells whole bytes text from (drop i names) → from ≤ row.1
spells_rise whole bytes text from i names row lt is f =
    let next : suc i ≡ i + 1 = omega arith in
    let cut : drop i names ≡ row ∷ drop (i + 1) names = drop-cons names i row lt ∙ (λ j. sym is j ∷ drop (next j) names) in
    (subst (Spells whole bytes text from) cut f).rising.0

pub spells_next : (whole bytes text : List ℕ) (from i : ℕ) (names : List (Board × ℕ)) (row : Board × ℕ) → i < length names → row ≡ get_or names i row → Spells whole bytes text from (drop i names)
    → (row.1 ≤ length bytes) × Spells whole bytes ((text ++ take (row.1 - from) (drop from bytes)) ++ position_text row.0) row.1 (drop (i + 1) names)
spells_next whole bytes text from i names row lt is f =
    let next : suc i ≡ i + 1 = omega arith in
    let cut : drop i names ≡ row ∷ drop (i + 1) names = drop-cons names i row lt ∙ (λ j. sym is j ∷ drop (next j) names) in
    let here : Spells whole bytes text from ((row.0, row.1) ∷ drop (i + 1) names) = subst (Spells whole bytes text from) cut f in
    (rising_end row.1 (length bytes) (drop (i + 1) names) here.rising.1, spells_more whole bytes text from row.0 row.1 (drop (i + 1) names) here)

pub spells_end : (whole bytes text : List ℕ) (from i : ℕ) (names : List (Board × ℕ)) → length names ≤ i → Spells whole bytes text from (drop i names) → text ++ drop from bytes ≡ whole
spells_end whole bytes text from i names past f =
    let none : drop i names ≡ [] = nil_from_length (drop i names) (omega (arith, length-drop i names)) in
    let rest = drop from bytes in
    let end : Spells whole bytes text from [] = subst (Spells whole bytes text from) none f in
    ap (λ t. text ++ t) (sym (append-nil rest) ∙ sym (full_marks rest []) ∙ ap full_text (append-nil (marks rest))) ∙ end.text_is
