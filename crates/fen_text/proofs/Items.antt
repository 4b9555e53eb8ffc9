-- Reading items one after the other, as the loop does.
use Rattle.std.proofs.Common.{◌≡◌, ℕ, zero, suc, ◌-◌, ◌<◌, ◌≤◌, ◌&&◌, ◌==◌, leb, inl, inr, List, [], ◌∷◌, ◌++◌, length, Option, Some, None, Result, Ok, Err, refl, sym, ◌∙◌, ap, arith, append_assoc}
use Rattle.std.specs.Prelude.{IfOk, IfSome}
use Rattle.std.specs.Option.{option_map_or}
use Rattle.std.proofs.lemmas.Bool.{cases_Bool}
use Rattle.draughts_board.specs.declared.pieces.Side.{Side}
use Rattle.fen_text.specs.declared.fault.Fault.{Fault}
use Rattle.fen_text.specs.declared.fault.Fault.TheVariants.{End}
use Rattle.std.specs.Char.{is_ascii_digit}
use Rattle.fen_text.specs.Spelled.{Group}
use Rattle.fen_text.specs.Reading.{◌>>=◌, second_digit, square_at, king_at, last_at, item_at, without_blanks, after_comma, items_within, items_at}

-- ---- an item takes at least one byte

second_digit-length : (tens : ℕ) (bytes : List ℕ) → length (second_digit tens bytes).1 ≤ length bytes
second_digit-length tens [] = omega arith
second_digit-length tens (b ∷ behind) = elim (cases_Bool (is_ascii_digit b)) [
  | inl e ↦ rw e (omega arith)
  | inr e ↦ rw e (omega arith)
]

king-length : (bytes : List ℕ) → length (king_at bytes).1 ≤ length bytes
king-length [] = omega arith
king-length (b ∷ behind) = elim (cases_Bool (b == 75)) [
  | inl e ↦ rw e (omega arith)
  | inr e ↦ rw e (omega arith)
]

square-shorter : (least : ℕ) (bytes : List ℕ) → IfOk (square_at least bytes) (λ x. length x.1 < length bytes)
unfolding square_at
square-shorter least [] = tt
square-shorter least (b ∷ behind) =
    let n = second_digit (b - 48) behind in
    elim (cases_Bool (is_ascii_digit b && (leb least n.0 && leb n.0 32))) [
      | inl e ↦ rw e (omega (arith, second_digit-length (b - 48) behind))
      | inr e ↦ rw e tt
    ]

last-length : (first : ℕ) (bytes : List ℕ) → IfOk (last_at first bytes) (λ x. length x.1 ≤ length bytes)
unfolding last_at
last-length first [] = omega arith
last-length first (b ∷ behind) = elim (cases_Bool (b == 45)) [
  | inl e ↦ rw e (shorter (square_at first behind) (square-shorter first behind))
  | inr e ↦ rw e (omega arith)
]
  where
    shorter : (r : Result (ℕ × List ℕ) Fault) → IfOk r (λ x. length x.1 < length behind) → IfOk r (λ x. length x.1 ≤ suc (length behind))
    shorter (Ok x) h = omega (arith, h)
    shorter (Err f) h = tt

pub item-shorter : (side : Side) (bytes : List ℕ) → IfOk (item_at side bytes) (λ x. length x.1 < length bytes)
unfolding item_at
item-shorter side bytes = two (square_at 1 (king_at bytes).1) (square-shorter 1 (king_at bytes).1)
  where
    one : (r : Result (ℕ × List ℕ) Fault) (first : ℕ) (k : ℕ) → IfOk r (λ x. length x.1 ≤ k) → k < length bytes → IfOk (r >>= λ last. Ok (record { side = side; king = (king_at bytes).0; first = first; last = last.0 }, last.1)) (λ (x : Group × List ℕ). length x.1 < length bytes)
    one (Ok x) first k h lt = omega (arith, h)
    one (Err f) first k h lt = tt

    two : (r : Result (ℕ × List ℕ) Fault) → IfOk r (λ x. length x.1 < length (king_at bytes).1) → IfOk (r >>= λ first. last_at first.0 first.1 >>= λ last. Ok (record { side = side; king = (king_at bytes).0; first = first.0; last = last.0 }, last.1)) (λ (x : Group × List ℕ). length x.1 < length bytes)
    two (Ok x) h = one (last_at x.0 x.1) x.0 (length x.1) (last-length x.0 x.1) (omega (arith, h, king-length bytes))
    two (Err f) h = tt

without_blanks-length : (bytes : List ℕ) → length (without_blanks bytes) ≤ length bytes
without_blanks-length [] = omega arith
without_blanks-length (b ∷ behind) = elim (cases_Bool (b == 32)) [
  | inl e ↦ rw e (omega (arith, without_blanks-length behind))
  | inr e ↦ rw e (omega arith)
]

pub after_comma-shorter : (bytes : List ℕ) → IfSome (after_comma bytes) (λ x. length x < length bytes)
after_comma-shorter [] = tt
after_comma-shorter (b ∷ behind) = elim (cases_Bool (b == 44)) [
  | inl e ↦ rw e (omega (arith, without_blanks-length behind))
  | inr e ↦ rw e tt
]

-- ---- the bound on items does not matter

-- an item that was read, and what is behind it
abbrev pub then_items : (List ℕ → Result (List Group × List ℕ) Fault) → Group × List ℕ → Result (List Group × List ℕ) Fault
then_items read item = option_map_or (λ next. read next >>= λ more. Ok (item.0 ∷ more.0, more.1)) (after_comma item.1) (Ok (item.0 ∷ [], item.1))

items_within-none : (n : ℕ) (side : Side) → items_within n side [] ≡ Err End
unfolding items_within item_at square_at
items_within-none zero side = refl
items_within-none (suc n) side = refl

item_at-none : (side : Side) → item_at side [] ≡ Err End
unfolding item_at square_at
item_at-none side = refl

-- two readers that agree on what is shorter agree behind an item
same_items : (f g : List ℕ → Result (List Group × List ℕ) Fault) (side : Side) (bytes : List ℕ) (m n : ℕ) → length bytes ≤ m → length bytes ≤ n
    → ((next : List ℕ) → length next < m → length next < n → f next ≡ g next) → (item_at side bytes >>= then_items f) ≡ (item_at side bytes >>= then_items g)
same_items f g side bytes m n hm hn agree = at_item (item_at side bytes) (item-shorter side bytes)
  where
    at_next : (item : Group × List ℕ) (o : Option (List ℕ)) → IfSome o (λ next. length next < length item.1) → length item.1 < length bytes
        → option_map_or {U = Result (List Group × List ℕ) Fault} (λ next. f next >>= λ more. Ok (item.0 ∷ more.0, more.1)) o (Ok (item.0 ∷ [], item.1))
        ≡ option_map_or {U = Result (List Group × List ℕ) Fault} (λ next. g next >>= λ more. Ok (item.0 ∷ more.0, more.1)) o (Ok (item.0 ∷ [], item.1))
    at_next item None h lt = refl
    at_next item (Some next) h lt = ap (λ r. r >>= λ more. Ok (item.0 ∷ more.0, more.1)) (agree next (omega (arith, h)) (omega (arith, h)))

    at_item : (r : Result (Group × List ℕ) Fault) → IfOk r (λ x. length x.1 < length bytes) → (r >>= then_items f) ≡ (r >>= then_items g)
    at_item (Ok item) h = at_next item (after_comma item.1) (after_comma-shorter item.1) h
    at_item (Err e) h = refl

enough : (m n : ℕ) (side : Side) (bytes : List ℕ) → length bytes ≤ m → length bytes ≤ n → items_within m side bytes ≡ items_within n side bytes
unfolding items_within
enough zero zero side bytes hm hn = refl
enough zero (suc n) side [] hm hn = sym (items_within-none (suc n) side)
enough zero (suc n) side (b ∷ behind) hm hn = absurd (omega arith)
enough (suc m) zero side [] hm hn = items_within-none (suc m) side
enough (suc m) zero side (b ∷ behind) hm hn = absurd (omega arith)
enough (suc m) (suc n) side bytes hm hn =
    same_items (items_within m side) (items_within n side) side bytes (suc m) (suc n) hm hn
    (λ next lm ln. enough m n side next (omega arith) (omega arith))

-- the items are the first one, and those behind its comma
pub items_at-step : (side : Side) (bytes : List ℕ) → items_at side bytes ≡ (item_at side bytes >>= then_items (items_at side))
unfolding items_within
items_at-step side [] = sym (ap (λ r. r >>= then_items (items_at side)) (item_at-none side))
items_at-step side (b ∷ behind) =
    same_items (items_within (length behind) side) (items_at side) side (b ∷ behind) (suc (length behind)) (suc (length behind)) (omega arith) (omega arith)
    (λ next lm ln. enough (length behind) (length next) side next (omega arith) (omega arith))

-- ---- one turn of the loop

-- what was read before, and what is still read
abbrev pub with_front : List Group → Result (List Group × List ℕ) Fault → Result (List Group × List ℕ) Fault
with_front front read = read >>= λ x. Ok (front ++ x.0, x.1)

regroup : (front : List Group) (g : Group) (read : Result (List Group × List ℕ) Fault) → with_front front (read >>= λ x. Ok (g ∷ x.0, x.1)) ≡ with_front (front ++ g ∷ []) read
regroup front g (Ok x) = ap (λ (gs : List Group). Ok (gs, x.1)) (simp append_assoc)
regroup front g (Err f) = refl

-- an item was read, and a comma stands behind it
pub goes_on : (side : Side) (front : List Group) (bytes behind next : List ℕ) (g : Group) (total : Result (List Group × List ℕ) Fault)
    → item_at side bytes ≡ Ok (g, behind) → after_comma behind ≡ Some next → with_front front (items_at side bytes) ≡ total
    → with_front (front ++ g ∷ []) (items_at side next) ≡ total
goes_on side front bytes behind next g total read comma so_far =
    let step : items_at side bytes ≡ (items_at side next >>= λ more. Ok (g ∷ more.0, more.1)) = items_at-step side bytes ∙ ap (λ r. r >>= then_items (items_at side)) read
    ∙ ap (λ o. option_map_or {U = Result (List Group × List ℕ) Fault} (λ next. items_at side next >>= λ more. Ok (g ∷ more.0, more.1)) o (Ok (g ∷ [], behind))) comma in
    sym (regroup front g (items_at side next)) ∙ ap (with_front front) (sym step) ∙ so_far

-- an item was read, and no comma stands behind it
pub stops : (side : Side) (front : List Group) (bytes behind : List ℕ) (g : Group) (total : Result (List Group × List ℕ) Fault)
    → item_at side bytes ≡ Ok (g, behind) → after_comma behind ≡ None → with_front front (items_at side bytes) ≡ total
    → total ≡ Ok (front ++ g ∷ [], behind)
stops side front bytes behind g total read comma so_far =
    let step : items_at side bytes ≡ Ok (g ∷ [], behind) = items_at-step side bytes ∙ ap (λ r. r >>= then_items (items_at side)) read
    ∙ ap (λ o. option_map_or {U = Result (List Group × List ℕ) Fault} (λ next. items_at side next >>= λ more. Ok (g ∷ more.0, more.1)) o (Ok (g ∷ [], behind))) comma in
    sym so_far ∙ ap (with_front front) step

-- no item was read
pub fails : (side : Side) (front : List Group) (bytes : List ℕ) (f : Fault) (total : Result (List Group × List ℕ) Fault)
    → item_at side bytes ≡ Err f → with_front front (items_at side bytes) ≡ total → total ≡ Err f
fails side front bytes f total read so_far =
    let step : items_at side bytes ≡ Err f = items_at-step side bytes ∙ ap (λ r. r >>= then_items (items_at side)) read in
    sym so_far ∙ ap (with_front front) step

pub with_no_front : (read : Result (List Group × List ℕ) Fault) → with_front [] read ≡ read
with_no_front (Ok x) = refl
with_no_front (Err f) = refl
