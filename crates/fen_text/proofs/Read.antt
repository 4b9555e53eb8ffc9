-- What is read keeps to the grammar, and where reading fails the text cannot go on: squares, items and lists.
use Rattle.std.proofs.Common.{◌≡◌, ℕ, suc, ◌+◌, ◌-◌, ◌*◌, ◌<◌, ◌≤◌, Bool, true, false, cond, ◌&&◌, ◌==◌, leb, List, [], ◌∷◌, ◌++◌, length, Option, Some, None, Result, Ok, Err, refl, sym, ◌∙◌, ap, subst, arith, append_assoc, ◌⊎◌, inl, inr}
use Rattle.std.specs.Prelude.{IfSome}
use Rattle.std.proofs.lemmas.Bool.{cases_Bool, leb-true, leb-false, eqb-true, and_parts, and_cases, and_from, not_from_false}
use Rattle.draughts_board.specs.declared.pieces.Side.{Side}
use Rattle.fen_text.specs.declared.fault.Fault.{Fault}
use Rattle.fen_text.specs.declared.fault.Fault.TheVariants.{Number, End}
use Rattle.fen_text.specs.Grammar.{Numeral, one, two, numeral_text, are_digits, value, IsSquareFrom, mark, range_text}
use Rattle.std.specs.Char.{is_ascii_digit}
use Rattle.fen_text.specs.Spelled.{Group, last_of}
use Rattle.fen_text.specs.Faults.{ends_before, Started, nothing, king_mark, range_sign, started_text, least_started, NumberWrong}
use Rattle.fen_text.specs.Reading.{◌>>=◌, second_digit, square_at, king_at, last_at, item_at}
use Rattle.fen_text.proofs.Parts.{begins, stops}

-- ---- squares

-- the number whose first digit stands there
record NumberRead (a : ℕ) (behind : List ℕ) (n : ℕ) (rest : List ℕ) : Type 0 where
  number : Numeral
  digits : are_digits number ≡ true
  value_is : value number ≡ n
  parts : a ∷ behind ≡ numeral_text number ++ rest
  whole : ends_before number rest ≡ true

number_read : (a : ℕ) (behind : List ℕ) → is_ascii_digit a ≡ true → NumberRead a behind (second_digit (a - 48) behind).0 (second_digit (a - 48) behind).1
number_read a [] digit = record { number = one a; digits = digit; value_is = refl; parts = refl; whole = refl }
number_read a (b ∷ behind) digit =
    elim (cases_Bool (is_ascii_digit b)) [
      | inl e ↦ subst (λ (n : ℕ × List ℕ). NumberRead a (b ∷ behind) n.0 n.1) (sym (ap (λ t. cond t (10 * (a - 48) + (b - 48), behind) (a - 48, b ∷ behind)) e))
          (record { number = two a b; digits = and_from _ _ digit e; value_is = refl; parts = refl; whole = refl })
      | inr e ↦ subst (λ (n : ℕ × List ℕ). NumberRead a (b ∷ behind) n.0 n.1) (sym (ap (λ t. cond t (10 * (a - 48) + (b - 48), behind) (a - 48, b ∷ behind)) e))
          (record { number = one a; digits = digit; value_is = refl; parts = refl; whole = not_from_false (is_ascii_digit b) e })
    ]

-- a byte stands there that is no digit
abbrev pub NoDigit : List ℕ → Type 0
NoDigit [] = ⊥
NoDigit (b ∷ behind) = is_ascii_digit b ≡ false

-- why no square was read
pub data SquareFails (least : ℕ) (bytes : List ℕ) : Fault → Type 0 where
  too_short : bytes ≡ [] → SquareFails least bytes End
  no_digit : NoDigit bytes → SquareFails least bytes (Number (length bytes))
  wrong_number : NumberWrong least bytes → SquareFails least bytes (Number (length bytes))

pub record SquareFound (least : ℕ) (bytes : List ℕ) (n : ℕ) (rest : List ℕ) : Type 0 where
  pub number : Numeral
  pub square : IsSquareFrom least number
  pub value_is : value number ≡ n
  pub parts : bytes ≡ numeral_text number ++ rest
  pub whole : ends_before number rest ≡ true

abbrev pub SquareRead : ℕ → List ℕ → Result (ℕ × List ℕ) Fault → Type 0
SquareRead least bytes (Ok x) = SquareFound least bytes x.0 x.1
SquareRead least bytes (Err f) = SquareFails least bytes f

pub square_read : (least : ℕ) (bytes : List ℕ) → SquareRead least bytes (square_at least bytes)
unfolding square_at
square_read least [] = too_short refl
square_read least (a ∷ behind) =
    let n : ℕ × List ℕ = second_digit (a - 48) behind in
    let test : Bool = leb least n.0 && leb n.0 32 in
    elim (cases_Bool (is_ascii_digit a)) [
      | inr e ↦ subst (λ b. SquareRead least (a ∷ behind) (cond (b && test) (Ok n) (Err (Number (suc (length behind)))))) (sym e) (no_digit e)
      | inl e ↦ (
          let read : NumberRead a behind n.0 n.1 = number_read a behind e in
          elim (cases_Bool test) [
            | inl t ↦ (
                let bounds = and_parts _ _ t in
                let low : least ≤ n.0 = leb-true _ _ bounds.0 in
                let high : n.0 ≤ 32 = leb-true _ _ bounds.1 in
                let is = read.value_is in
                let square : IsSquareFrom least read.number = record { digits = read.digits; low = omega (arith, is, low); high = omega (arith, is, high) } in
                let found : SquareFound least (a ∷ behind) n.0 n.1 = record { number = read.number; square = square; value_is = is; parts = read.parts; whole = read.whole } in
                subst (λ b. SquareRead least (a ∷ behind) (cond b (Ok n) (Err (Number (suc (length behind)))))) (sym (and_from _ _ e t)) found)
            | inr t ↦ (
                let is = read.value_is in
                let out : (value read.number < least) ⊎ (32 < value read.number) = elim (and_cases _ _ t) [
                  | inl x ↦ (let lt : n.0 < least = leb-false _ _ x in inl (omega (arith, is, lt)))
                  | inr x ↦ (let lt : 32 < n.0 = leb-false _ _ x in inr (omega (arith, is, lt)))
                ] in
                let wrong : NumberWrong least (a ∷ behind) = record { number = read.number; behind = n.1; stands = read.parts; digits = read.digits; whole = read.whole; wrong = out } in
                subst (λ b. SquareRead least (a ∷ behind) (cond b (Ok n) (Err (Number (suc (length behind)))))) (sym (ap (λ b. b && test) e ∙ t)) (wrong_number wrong))
          ])
    ]

-- ---- items

pub record KingRead (bytes : List ℕ) (king : Bool) (rest : List ℕ) : Type 0 where
  pub parts : bytes ≡ mark king ++ rest
  pub none : king ≡ false → begins 75 bytes ≡ false

king_read : (bytes : List ℕ) → KingRead bytes (king_at bytes).0 (king_at bytes).1
king_read [] = record { parts = refl; none = λ e. refl }
king_read (b ∷ behind) =
    elim (cases_Bool (b == 75)) [
      | inl e ↦ subst (λ (x : Bool × List ℕ). KingRead (b ∷ behind) x.0 x.1) (sym (ap (λ t. cond t (true, behind) (false, b ∷ behind)) e)) (record { parts = ap (λ k. k ∷ behind) (eqb-true b 75 e); none = λ x. absurd cc })
      | inr e ↦ subst (λ (x : Bool × List ℕ). KingRead (b ∷ behind) x.0 x.1) (sym (ap (λ t. cond t (true, behind) (false, b ∷ behind)) e)) (record { parts = refl; none = λ x. e })
    ]

-- an item has come so far, and no square stands behind that may stand there
abbrev pub IsStarted : Started → Type 0
IsStarted nothing = Unit {0}
IsStarted king_mark = Unit {0}
IsStarted (range_sign king first) = IsSquareFrom 1 first

pub record ItemFails (bytes : List ℕ) (f : Fault) : Type 0 where
  pub started : Started
  pub rest : List ℕ
  pub sound : IsStarted started
  pub parts : bytes ≡ started_text started ++ rest
  pub fails : SquareFails (least_started started) rest f
  pub no_king : started ≡ nothing → begins 75 rest ≡ false

-- an item but for the blanks before it
pub record ItemFound (side : Side) (bytes : List ℕ) (g : Group) (rest : List ℕ) : Type 0 where
  pub king : Bool
  pub first : Numeral
  pub last : Option Numeral
  pub square : IsSquareFrom 1 first
  pub range : IfSome last (IsSquareFrom (value first))
  pub group_is : g ≡ record { side = side; king = king; first = value first; last = last_of first last }
  pub parts : bytes ≡ mark king ++ (numeral_text first ++ (range_text last ++ rest))
  pub stop : stops first last rest ≡ true

abbrev pub ItemRead : Side → List ℕ → Result (Group × List ℕ) Fault → Type 0
ItemRead side bytes (Ok x) = ItemFound side bytes x.0 x.1
ItemRead side bytes (Err f) = ItemFails bytes f

module _ (side : Side) (bytes : List ℕ) (king : Bool) (behind : List ℕ) (mark_is : KingRead bytes king behind) where
  -- the first square was read: what the rest of the item gives
  one_square : (n : ℕ) (rest : List ℕ) → SquareFound 1 behind n rest → begins 45 rest ≡ false → ItemFound side bytes (record { side = side; king = king; first = n; last = n }) rest
  one_square n rest s none = record {
    king = king;
    first = s.number;
    last = None;
    square = s.square;
    range = tt;
    group_is = ap (λ k. record { side = side; king = king; first = k; last = k }) (sym s.value_is);
    parts = mark_is.parts ∙ ap (λ t. mark king ++ t) s.parts;
    stop = and_from _ _ s.whole (not_from_false (begins 45 rest) none);
  }

  range_read : (n : ℕ) (rest : List ℕ) (r : Result (ℕ × List ℕ) Fault) → SquareFound 1 behind n (45 ∷ rest) → SquareRead n rest r
      → ItemRead side bytes (r >>= λ last. Ok (record { side = side; king = king; first = n; last = last.0 }, last.1))
  range_read n rest (Ok x) s l =
      let sq : IsSquareFrom (value s.number) l.number = subst (λ k. IsSquareFrom k l.number) (sym s.value_is) l.square in
      record {
        king = king;
        first = s.number;
        last = Some l.number;
        square = s.square;
        range = sq;
        group_is = ap (λ k. record { side = side; king = king; first = k; last = x.0 }) (sym s.value_is) ∙ ap (λ k. record { side = side; king = king; first = value s.number; last = k }) (sym l.value_is);
        parts = mark_is.parts ∙ ap (λ t. mark king ++ t) (s.parts ∙ ap (λ t. numeral_text s.number ++ (45 ∷ t)) l.parts);
        stop = l.whole;
      }
  range_read n rest (Err f) s l = record {
    started = range_sign king s.number;
    rest = rest;
    sound = s.square;
    parts = mark_is.parts ∙ ap (λ t. mark king ++ t) s.parts ∙ sym (append_assoc (mark king) (numeral_text s.number ++ 45 ∷ []) rest ∙ ap (λ t. mark king ++ t) (append_assoc (numeral_text s.number) (45 ∷ []) rest));
    fails = subst (λ k. SquareFails k rest f) (sym s.value_is) l;
    no_king = λ e. absurd cc;
  }

  last_read : (n : ℕ) (rest : List ℕ) → SquareFound 1 behind n rest → ItemRead side bytes (last_at n rest >>= λ last. Ok (record { side = side; king = king; first = n; last = last.0 }, last.1))
  unfolding last_at
  last_read n [] s = one_square n [] s refl
  last_read n (b ∷ rest) s =
      elim (cases_Bool (b == 45)) [
        | inl e ↦ subst (λ t. ItemRead side bytes (cond t (square_at n rest) (Ok (n, b ∷ rest)) >>= λ last. Ok (record { side = side; king = king; first = n; last = last.0 }, last.1))) (sym e)
            (range_read n rest (square_at n rest) (subst (λ k. SquareFound 1 behind n (k ∷ rest)) (eqb-true b 45 e) s) (square_read n rest))
        | inr e ↦ subst (λ t. ItemRead side bytes (cond t (square_at n rest) (Ok (n, b ∷ rest)) >>= λ last. Ok (record { side = side; king = king; first = n; last = last.0 }, last.1))) (sym e) (one_square n (b ∷ rest) s e)
      ]

  first_fails : (f : Fault) → SquareFails 1 behind f → (k : Bool) → KingRead bytes k behind → ItemFails bytes f
  first_fails f s true m = record { started = king_mark; rest = behind; sound = tt; parts = m.parts; fails = s; no_king = λ e. absurd cc }
  first_fails f s false m = record { started = nothing; rest = behind; sound = tt; parts = m.parts; fails = s; no_king = λ e. subst (λ t. begins 75 t ≡ false) m.parts (m.none refl) }

  first_read : (r : Result (ℕ × List ℕ) Fault) → SquareRead 1 behind r
      → ItemRead side bytes (r >>= λ first. last_at first.0 first.1 >>= λ last. Ok (record { side = side; king = king; first = first.0; last = last.0 }, last.1))
  first_read (Ok x) s = last_read x.0 x.1 s
  first_read (Err f) s = first_fails f s king mark_is

pub item_read : (side : Side) (bytes : List ℕ) → ItemRead side bytes (item_at side bytes)
unfolding item_at
item_read side bytes = first_read side bytes (king_at bytes).0 (king_at bytes).1 (king_read bytes) (square_at 1 (king_at bytes).1) (square_read 1 (king_at bytes).1)
