-- The fields of a word between its separators.
use Rattle.std.proofs.Common.{nat_le, nat_eq, zero, ◌⊎◌, IsNone, IfSome, inl, inr, ◌≡◌, ◌∙◌, ℕ, ◌<◌, ◌≤◌, suc, Bool, true, false, cond, not, ◌&&◌, List, [], ◌∷◌, ◌++◌, map, length, take, drop, get_or, refl, sym, ap, arith, rules, Some, None, Option, length-append}
use Rattle.std.specs.List.{list_all, AllPass}
use Rattle.std.proofs.lemmas.Bool.{eqb-true, lt-leb, cases_lt}
use Rattle.std.proofs.lemmas.List.{get_or-take}
use Rattle.std.proofs.lemmas.List.Folds.{length-prefix_len}
use Rattle.std.proofs.lemmas.List.Sums.{prefix_len_passes}
use Rattle.std.proofs.lemmas.Grind.{common_steps}
use borrow.Author.Tests.{tests}
use Rattle.draughts_board.specs.Geometry.{is_square}
use Rattle.std.specs.Char.{is_ascii_digit}
use Rattle.pdn_text.specs.Grammar.{digits_len}
use Rattle.pdn_text.specs.Words.{fields, number, path_of}

-- the fields behind a separator at the front, if one stands there
abbrev pub later : List ℕ → List (List ℕ)
later [] = []
later (separator ∷ more) = fields more

-- one field more: a digit in front of it, or a separator
field_step : (x : ℕ) (xs : List ℕ) (digit : Bool) → is_ascii_digit x ≡ digit → fields xs ≡ take (digits_len xs) xs ∷ later (drop (digits_len xs) xs)
    → fields (x ∷ xs) ≡ take (digits_len (x ∷ xs)) (x ∷ xs) ∷ later (drop (digits_len (x ∷ xs)) (x ∷ xs))
field_step x xs true e h = rw e (rw h (grind (arith, common_steps)))
field_step x xs false e h = rw e refl

pub fields_at : (word : List ℕ) → fields word ≡ take (digits_len word) word ∷ later (drop (digits_len word) word)
fields_at [] = refl
fields_at (x ∷ xs) = field_step x xs (is_ascii_digit x) refl (fields_at xs)

not_not : (b : Bool) → not (not b) ≡ true → b ≡ true
not_not true e = refl
not_not false e = e

-- a field is digits alone
pub field_digits : (word : List ℕ) → AllPass is_ascii_digit (take (digits_len word) word)
field_digits word k d h =
    let short : k < digits_len word = omega (arith, length-prefix_len (λ b. not (not (is_ascii_digit b))) word) in
    rw (get_or-take (digits_len word) word k d short) (not_not (is_ascii_digit (get_or word k d)) (prefix_len_passes (λ b. not (not (is_ascii_digit b))) word k d short))

-- the first square behind a separator
pub later_square : (rest more : List ℕ) → 0 < length rest → more ≡ drop 1 rest
    → map number (later rest) ≡ number (take (digits_len more) more) ∷ map number (later (drop (digits_len more) more))
later_square [] more some e = absurd (omega arith)
later_square (b ∷ rest) more some e = rw e (ap (map number) (fields_at rest))

-- the answer from the squares
pub path_found : (word s : List ℕ) → map number (fields word) ≡ s → list_all is_square s ≡ true → 2 ≤ length s → length s ≤ 13 → path_of word ≡ Some s
unfolding path_of
path_found word s e h least most = rw e (rw h (search (rules, tests)))

neither : {A : Type 0} (a c : Bool) (x : Option A) → cond (a && false && c) x None ≡ None
neither true c x = refl
neither false c x = refl

nor : {A : Type 0} (a c : Bool) (x : Option A) → cond (a && c && false) x None ≡ None
nor true true x = refl
nor true false x = refl
nor false c x = refl

pub path_short : (word s : List ℕ) → map number (fields word) ≡ s → length s < 2 → path_of word ≡ None
unfolding path_of
path_short word s e short = rw e (rw (lt-leb 2 (length s) short) (neither (list_all is_square s) (nat_le (length s) 13) (Some s)))

path_long : (word s : List ℕ) → map number (fields word) ≡ s → 13 < length s → path_of word ≡ None
unfolding path_of
path_long word s e long = rw e (rw (lt-leb (length s) 13 long) (nor (list_all is_square s) (nat_le 2 (length s)) (Some s)))

-- a fourteenth square is one too many
pub path_fourteen : (word front rest : List ℕ) → map number (fields word) ≡ front ++ map number (later rest) → length front ≡ 13 → 0 < length rest
    → path_of word ≡ None
path_fourteen word front rest e thirteen some =
    let more = drop 1 rest in
    let s = later_square rest more some refl in
    path_long word _ (e ∙ ap (λ x. front ++ x) s) (omega (arith, length-append front (number (take (digits_len more) more) ∷ map number (later (drop (digits_len more) more)))))

bad_square : (front : List ℕ) (n : ℕ) (back : List ℕ) → is_square n ≡ false → list_all is_square (front ++ n ∷ back) ≡ false
bad_square [] n back e = rw e refl
bad_square (x ∷ front) n back e = rw (bad_square front n back e) (search (rules, tests))

pub path_bad : (word front : List ℕ) (n : ℕ) (back : List ℕ) → map number (fields word) ≡ front ++ n ∷ back → is_square n ≡ false → path_of word ≡ None
unfolding path_of
path_bad word front n back e bad = rw e (rw (bad_square front n back bad) refl)

pub not_empty : (n : ℕ) → false ≡ nat_eq n 0 → 0 < n
not_empty zero e = cc
not_empty (suc n) e = omega arith

pub empty_list : (xs : List ℕ) → true ≡ nat_eq (length xs) 0 → xs ≡ []
empty_list [] e = refl
empty_list (x ∷ xs) e = absurd (omega (arith, eqb-true (length (x ∷ xs)) 0 (sym e)))

-- what the end of the word answers
pub path_ends : (word s : List ℕ) (answer : Option (List ℕ)) → map number (fields word) ≡ s → list_all is_square s ≡ true → 1 ≤ length s → length s ≤ 13
    → (IsNone answer → (length s < 2) ⊎ (13 < length s)) → ((length s < 2) ⊎ (13 < length s) → IsNone answer) → IfSome answer (λ m. m ≡ s) → answer ≡ path_of word
path_ends word s None e all least most is_none is_short some =
    elim (is_none refl) [ inl short ↦ sym (path_short word s e short) | inr long ↦ absurd (omega arith) ]
path_ends word s (Some m) e all least most is_none is_short some =
    elim (cases_lt (length s) 2) [ inl short ↦ (let wrong : true ≡ false = is_short (inl short) in cc) | inr enough ↦ ap Some some ∙ sym (path_found word s e all enough most) ]
