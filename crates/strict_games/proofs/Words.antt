-- What the words that are printed are read as.
use Rattle.std.proofs.Common.{◌≡◌, ◌≢◌, ◌∙◌, ℕ, ◌+◌, ◌/◌, ◌%◌, ◌^◌, ◌<◌, ◌≤◌, ◌==◌, Bool, false, true, cond, ltb, not, ◌&&◌, ◌||◌, List, [], ◌∷◌, ◌++◌, length, take, drop, map, Option, Some, None, refl, sym, ap, subst, arith, append-nil, inl, inr, decimal}
use Rattle.std.specs.Prelude.{codes, slice_index, All}
use Rattle.std.specs.Char.{is_ascii_digit}
use Rattle.std.specs.List.{list_all, position_or_len}
use Rattle.std.specs.Str.{bytes_eq}
use Rattle.std.proofs.Math.Seq.{take-append_seam}
use Rattle.std.proofs.lemmas.Bool.{and_from, cases_Bool, cases_lt, cond-true, cond-false, le-leb, le-ltb, lt-ltb, or_cases}
use Rattle.std.proofs.lemmas.Grind.{common_steps}
use Rattle.std.proofs.lemmas.Fmt.{decimal_nonempty, digits_decimal}
use Rattle.std.proofs.lemmas.List.{take_all}
use Rattle.std.proofs.lemmas.List.Elements.{All-head, All-tail}
use Rattle.std.proofs.lemmas.List.Folds.{list_all-append}
use Rattle.std.proofs.lemmas.List.Sums.{list_all-from_AllPass}
use Rattle.std.proofs.lemmas.Slice.Eq.{bytes_eq-Decides}
use Rattle.std.proofs.lemmas.Str.Parse.{IsNumeralModel, digit_at, numerals_by_value, tells_digits}
use Rattle.std.specs.Str.Parse.{AllDigits, digits_value}
use Rattle.draughts_board.specs.Geometry.{IsSquare, are_near, is_square}
use Rattle.pdn_text.specs.Bytes.{is_word_byte}
use Rattle.pdn_text.specs.Grammar.{digits_len}
use Rattle.pdn_text.specs.Words.{fields, is_crossed, is_dashed, is_number, is_result, move_of, move_or_bad, number, path_of, separated, word_of}
use Rattle.pdn_text.proofs.FirstPlaces.{behind_run, run_len}
use Rattle.pdn_text.proofs.WordFields.{fields_at, later, path_found}
use Rattle.strict_games.specs.Spelling.{move_text, square_text, squares_text}

-- ---- squares

digit_is : (d : ℕ) → d ≤ 9 → is_ascii_digit (48 + d) ≡ true
digit_is d le = and_from _ _ (le-leb 48 (48 + d) (omega arith)) (le-leb (48 + d) 57 (omega arith))

-- a square is printed as digits that are its number
record SquareIs (n : ℕ) (text : List ℕ) : Type 0 where
  digits : list_all is_ascii_digit text ≡ true
  first : is_ascii_digit (slice_index text 0) ≡ true
  is : number text ≡ n

square_is : (n : ℕ) → n ≤ 32 → SquareIs n (square_text n)
square_is n le =
    elim (cases_lt n 10) [
      | inl lt ↦ subst (SquareIs n) (sym (cond-true (ltb n 10) ((48 + n) ∷ []) ((48 + n / 10) ∷ (48 + n % 10) ∷ []) (lt-ltb n 10 lt)))
          (record { digits = and_from _ _ (digit_is n (omega arith)) refl; first = digit_is n (omega arith); is = omega arith })
      | inr ge ↦ subst (SquareIs n) (sym (cond-false (ltb n 10) ((48 + n) ∷ []) ((48 + n / 10) ∷ (48 + n % 10) ∷ []) (le-ltb n 10 ge)))
          (record {
            digits = and_from _ _ (digit_is (n / 10) (omega arith)) (and_from _ _ (digit_is (n % 10) (omega arith)) refl);
            first = digit_is (n / 10) (omega arith);
            is = omega arith;
          })
    ]

square_of : (n : ℕ) → IsSquare n → SquareIs n (square_text n)
square_of n square = square_is n square.1

-- ---- runs

halves : (a b : Bool) → (a && b) ≡ true → (a ≡ true) × (b ≡ true)
halves true b e = (refl, e)
halves false b e = cc

run_full : (p : ℕ → Bool) (run : List ℕ) → list_all p run ≡ true → position_or_len (λ b. not (p b)) run ≡ length run
run_full p [] e = refl
run_full p (x ∷ run) e =
    let h = halves (p x) (list_all p run) e in
    rw h.0 (rw (run_full p run h.1) (omega arith))

weaker : (p q : ℕ → Bool) → ((b : ℕ) → p b ≡ true → q b ≡ true) → (xs : List ℕ) → list_all p xs ≡ true → list_all q xs ≡ true
weaker p q h [] e = refl
weaker p q h (x ∷ xs) e =
    let parts = halves (p x) (list_all p xs) e in
    and_from _ _ (h x parts.0) (weaker p q h xs parts.1)

stopped : (p : ℕ → Bool) (xs : List ℕ) (y : ℕ) (more : List ℕ) → p y ≡ false → list_all p (xs ++ y ∷ more) ≡ false
stopped p [] y more e = rw e refl
stopped p (x ∷ xs) y more e = rw (stopped p xs y more e) (never (p x))
  where
    never : (a : Bool) → (a && false) ≡ false
    never true = refl
    never false = refl

-- ---- the fields of a move

fields_more : (run : List ℕ) (separator : ℕ) (more : List ℕ) → list_all is_ascii_digit run ≡ true → is_ascii_digit separator ≡ false → fields (run ++ separator ∷ more) ≡ run ∷ fields more
fields_more run separator more digits stop =
    let word : List ℕ = run ++ separator ∷ more in
    let len : digits_len word ≡ length run = run_len is_ascii_digit run separator more digits stop in
    let first : take (digits_len word) word ≡ run = ap (λ k. take k word) len ∙ take-append_seam run (separator ∷ more) in
    let rest : drop (digits_len word) word ≡ separator ∷ more = behind_run is_ascii_digit run separator more digits stop in
    fields_at word ∙ ap (λ f. f ∷ later (drop (digits_len word) word)) first ∙ ap (λ r. run ∷ later r) rest

fields_last : (run : List ℕ) → list_all is_ascii_digit run ≡ true → fields run ≡ run ∷ []
fields_last run digits =
    let len : digits_len run ≡ length run = run_full is_ascii_digit run digits in
    let first : take (digits_len run) run ≡ run = ap (λ k. take k run) len ∙ take_all (length run) run (omega arith) in
    let rest : drop (digits_len run) run ≡ [] = ap (λ k. drop k run) len ∙ none run in
    fields_at run ∙ ap (λ f. f ∷ later (drop (digits_len run) run)) first ∙ ap (λ r. run ∷ later r) rest
  where
    none : (xs : List ℕ) → drop (length xs) xs ≡ []
    none [] = refl
    none (x ∷ xs) = none xs

numbers_are : (separator : ℕ) → is_ascii_digit separator ≡ false → (x : ℕ) (more : List ℕ) → All IsSquare (x ∷ more)
    → map number (fields (square_text x ++ squares_text separator more)) ≡ x ∷ more
numbers_are separator stop x [] all =
    let s = square_of x (All-head IsSquare x [] all) in
    ap (λ w. map number (fields w)) (append-nil (square_text x)) ∙ ap (map number) (fields_last (square_text x) s.digits) ∙ ap (λ n. n ∷ []) s.is
numbers_are separator stop x (y ∷ more) all =
    let s = square_of x (All-head IsSquare x (y ∷ more) all) in
    let rest = numbers_are separator stop y more (All-tail IsSquare x (y ∷ more) all) in
    ap (map number) (fields_more (square_text x) separator (square_text y ++ squares_text separator more) s.digits stop)
    ∙ ap (λ n. n ∷ map number (fields (square_text y ++ squares_text separator more))) s.is ∙ ap (λ ns. x ∷ ns) rest

-- what holds of digits and of the separator holds of all bytes
bytes_are : (q : ℕ → Bool) (separator : ℕ) → ((b : ℕ) → is_ascii_digit b ≡ true → q b ≡ true) → q separator ≡ true → (x : ℕ) (more : List ℕ) → All IsSquare (x ∷ more)
    → list_all q (square_text x ++ squares_text separator more) ≡ true
bytes_are q separator digits is x [] all =
    let s = square_of x (All-head IsSquare x [] all) in
    ap (list_all q) (append-nil (square_text x)) ∙ weaker is_ascii_digit q digits (square_text x) s.digits
bytes_are q separator digits is x (y ∷ more) all =
    let s = square_of x (All-head IsSquare x (y ∷ more) all) in
    let rest = bytes_are q separator digits is y more (All-tail IsSquare x (y ∷ more) all) in
    list_all-append q (square_text x) (separator ∷ (square_text y ++ squares_text separator more))
    ∙ and_from _ _ (weaker is_ascii_digit q digits (square_text x) s.digits) (and_from _ _ is rest)

begins_as : (separator : ℕ) (x : ℕ) (more : List ℕ) → IsSquare x → is_ascii_digit (slice_index (square_text x ++ squares_text separator more) 0) ≡ true
begins_as separator x more square = front (square_text x) (squares_text separator more) (square_of x square).first
  where
    front : (w more : List ℕ) → is_ascii_digit (slice_index w 0) ≡ true → is_ascii_digit (slice_index (w ++ more) 0) ≡ true
    front [] more e = let none : is_ascii_digit 0 ≡ true = e in cc
    front (b ∷ w) more e = e

word_digit : (b : ℕ) → is_ascii_digit b ≡ true → is_word_byte b ≡ true
word_digit b e = rw e refl

crossed_digit : (b : ℕ) → is_ascii_digit b ≡ true → (is_ascii_digit b || b == 120) ≡ true
crossed_digit b e = rw e refl

dashed_digit : (b : ℕ) → is_ascii_digit b ≡ true → (is_ascii_digit b || b == 45) ≡ true
dashed_digit b e = rw e refl

-- ---- a word with a separator is no number and, with these, no result

-- one of the results
results : (P : List ℕ → Type 0) (w : List ℕ) → is_result w ≡ true → P (codes "1-0") → P (codes "0-1") → P (codes "1/2-1/2") → P (codes "2-0") → P (codes "0-2") → P (codes "1-1") → P (codes "0-0") → P w
results P w is a b c d e f g =
    elim (or_cases _ _ is) [
      | inl is ↦ elim (or_cases _ _ is) [
        | inl is ↦ elim (or_cases _ _ is) [
          | inl is ↦ elim (or_cases _ _ is) [
            | inl is ↦ elim (or_cases _ _ is) [
              | inl is ↦ elim (or_cases _ _ is) [ inl is ↦ at (codes "1-0") is a | inr is ↦ at (codes "0-1") is b ]
              | inr is ↦ at (codes "1/2-1/2") is c
            ]
            | inr is ↦ at (codes "2-0") is d
          ]
          | inr is ↦ at (codes "0-2") is e
        ]
        | inr is ↦ at (codes "1-1") is f
      ]
      | inr is ↦ at (codes "0-0") is g
    ]
  where
    at : (v : List ℕ) → bytes_eq w v ≡ true → P v → P w
    at v is h = subst P (sym ((bytes_eq-Decides w v).0 is)) h

-- no result has `x`, and the only one that is a move says 1 twice
crossed_not : (w : List ℕ) → is_crossed w ≡ true → is_result w ≡ true → true ≡ false
crossed_not w crossed is = results (λ v. is_crossed v ≡ true → true ≡ false) w is sym sym sym sym sym sym sym crossed

not_so : (b : Bool) → (b ≡ true → true ≡ false) → b ≡ false
not_so true h = h refl
not_so false h = refl

none_is : (squares : List ℕ) → ◌≡◌ {A = Option (List ℕ)} None (Some squares) → true ≡ false
none_is squares e = cc

dashed_not : (w : List ℕ) (x z : ℕ) → x ≢ z → move_of w ≡ Some (x ∷ z ∷ []) → is_result w ≡ true → true ≡ false
unfolding move_of path_of
dashed_not w x z other is result = results (λ v. move_of v ≡ Some (x ∷ z ∷ []) → true ≡ false) w result (none_is (x ∷ z ∷ [])) (none_is (x ∷ z ∷ [])) (none_is (x ∷ z ∷ [])) (none_is (x ∷ z ∷ [])) (none_is (x ∷ z ∷ [])) (λ e. absurd (other (twice e))) (none_is (x ∷ z ∷ [])) is
  where
    twice : ◌≡◌ {A = Option (List ℕ)} (Some (1 ∷ 1 ∷ [])) (Some (x ∷ z ∷ [])) → x ≡ z
    twice e = cc

-- ---- a move

pub record MoveIs (squares w : List ℕ) : Type 0 where
  pub digit : is_ascii_digit (slice_index w 0) ≡ true
  pub bytes : list_all is_word_byte w ≡ true
  pub is : word_of w ≡ move_or_bad (Some squares)

word_is : (w squares : List ℕ) → is_result w ≡ false → is_number w ≡ false → move_of w ≡ Some squares → word_of w ≡ move_or_bad (Some squares)
unfolding word_of
word_is w squares result number e = rw result (rw number (ap move_or_bad e))

all_squares : (s : List ℕ) → All IsSquare s → list_all is_square s ≡ true
all_squares [] all = refl
all_squares (x ∷ s) all =
    let square = All-head IsSquare x s all in
    and_from _ _ (and_from _ _ (le-leb 1 x square.0) (le-leb x 32 square.1)) (all_squares s (All-tail IsSquare x s all))

crossed_move : (w squares : List ℕ) → is_crossed w ≡ true → path_of w ≡ Some squares → move_of w ≡ Some squares
unfolding move_of
crossed_move w squares crossed path = ap (separated w) path ∙ rw crossed refl

either : (a b : Bool) (squares : List ℕ) → b ≡ true → cond (a || (true && b)) (Some squares) None ≡ Some squares
either true b squares e = refl
either false b squares e = rw e refl

dashed_move : (w : List ℕ) (x z : ℕ) → is_dashed w ≡ true → path_of w ≡ Some (x ∷ z ∷ []) → move_of w ≡ Some (x ∷ z ∷ [])
unfolding move_of
dashed_move w x z dashed path = ap (separated w) path ∙ either (is_crossed w) (is_dashed w) (x ∷ z ∷ []) dashed

crossed_is : (x : ℕ) (more : List ℕ) → All IsSquare (x ∷ more) → 1 ≤ length more → length more ≤ 12 → MoveIs (x ∷ more) (square_text x ++ squares_text 120 more)
crossed_is x [] all least most = absurd (omega arith)
crossed_is x (y ∷ more) all least most =
    let w : List ℕ = square_text x ++ squares_text 120 (y ∷ more) in
    let crossed : is_crossed w ≡ true = bytes_are (λ b. is_ascii_digit b || b == 120) 120 crossed_digit refl x (y ∷ more) all in
    let path : path_of w ≡ Some (x ∷ y ∷ more) = path_found w (x ∷ y ∷ more) (numbers_are 120 refl x (y ∷ more) all) (all_squares (x ∷ y ∷ more) all) (omega arith) (omega arith) in
    record {
      digit = begins_as 120 x (y ∷ more) (All-head IsSquare x (y ∷ more) all);
      bytes = bytes_are is_word_byte 120 word_digit refl x (y ∷ more) all;
      is = word_is w (x ∷ y ∷ more) (not_so (is_result w) (crossed_not w crossed)) (stopped is_ascii_digit (square_text x) 120 (square_text y ++ squares_text 120 more) refl) (crossed_move w (x ∷ y ∷ more) crossed path);
    }

near_other : (x z : ℕ) → are_near x z ≡ true → x ≢ z
near_other x z near e = let same : are_near z z ≡ true = subst (λ n. are_near n z ≡ true) e near in absurd (grind (arith, common_steps, same))

dashed_is : (x z : ℕ) → All IsSquare (x ∷ z ∷ []) → are_near x z ≡ true → MoveIs (x ∷ z ∷ []) (square_text x ++ squares_text 45 (z ∷ []))
dashed_is x z all near =
    let w : List ℕ = square_text x ++ squares_text 45 (z ∷ []) in
    let dashed : is_dashed w ≡ true = bytes_are (λ b. is_ascii_digit b || b == 45) 45 dashed_digit refl x (z ∷ []) all in
    let path : path_of w ≡ Some (x ∷ z ∷ []) = path_found w (x ∷ z ∷ []) (numbers_are 45 refl x (z ∷ []) all) (all_squares (x ∷ z ∷ []) all) (omega arith) (omega arith) in
    let is : move_of w ≡ Some (x ∷ z ∷ []) = dashed_move w x z dashed path in
    record {
      digit = begins_as 45 x (z ∷ []) (All-head IsSquare x (z ∷ []) all);
      bytes = bytes_are is_word_byte 45 word_digit refl x (z ∷ []) all;
      is = word_is w (x ∷ z ∷ []) (not_so (is_result w) (dashed_not w x z (near_other x z near) is)) (stopped is_ascii_digit (square_text x) 45 (square_text z ++ squares_text 45 []) refl) is;
    }

pub move_is : (squares : List ℕ) → All IsSquare squares → 2 ≤ length squares → length squares ≤ 13 → MoveIs squares (move_text squares)
move_is [] all least most = absurd (omega arith)
move_is (x ∷ []) all least most = absurd (omega arith)
move_is (x ∷ z ∷ []) all least most =
    elim (cases_Bool (are_near x z)) [
      | inl near ↦ subst (λ s. MoveIs (x ∷ z ∷ []) (square_text x ++ squares_text s (z ∷ []))) (sym (cond-true (are_near x z) 45 120 near)) (dashed_is x z all near)
      | inr far ↦ subst (λ s. MoveIs (x ∷ z ∷ []) (square_text x ++ squares_text s (z ∷ []))) (sym (cond-false (are_near x z) 45 120 far)) (crossed_is x (z ∷ []) all (omega arith) (omega arith))
    ]
move_is (x ∷ z ∷ w ∷ more) all least most = crossed_is x (z ∷ w ∷ more) all (omega arith) (omega arith)

-- ---- a number

pub record NumberIs (w : List ℕ) : Type 0 where
  pub digit : is_ascii_digit (slice_index w 0) ≡ true
  pub bytes : list_all is_word_byte w ≡ true
  pub is : word_of w ≡ word_of (codes "1")

digits_not : (w : List ℕ) → list_all is_ascii_digit w ≡ true → is_result w ≡ true → true ≡ false
digits_not w digits is = results (λ v. list_all is_ascii_digit v ≡ true → true ≡ false) w is sym sym sym sym sym sym sym digits

number_word : (w : List ℕ) → is_result w ≡ false → is_number w ≡ true → word_of w ≡ word_of (codes "1")
unfolding word_of
number_word w result e = rw result (rw e refl)

numerals : IsNumeralModel (AllDigits 10) (digits_value 10)
numerals = numerals_by_value (AllDigits 10) tells_digits

decimal_digits : (n : ℕ) → n < 2 ^ 64 → list_all is_ascii_digit (decimal n) ≡ true
decimal_digits n small =
    list_all-from_AllPass is_ascii_digit (decimal n) (λ k d h.
    let range = digit_at (decimal n) k (digits_decimal numerals n small) h in
    grind (arith, common_steps, range))

pub number_is : (n : ℕ) → n < 2 ^ 64 → NumberIs (decimal n)
number_is n small =
    let digits = decimal_digits n small in
    record {
      digit = first (decimal n) (decimal_nonempty n small) digits;
      bytes = weaker is_ascii_digit is_word_byte word_digit (decimal n) digits;
      is = number_word (decimal n) (not_so (is_result (decimal n)) (digits_not (decimal n) digits)) digits;
    }
  where
    first : (w : List ℕ) → 0 < length w → list_all is_ascii_digit w ≡ true → is_ascii_digit (slice_index w 0) ≡ true
    first [] some all = absurd (omega arith)
    first (b ∷ w) some all = (halves (is_ascii_digit b) (list_all is_ascii_digit w) all).0
