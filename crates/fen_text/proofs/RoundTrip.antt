-- The printed FEN of a position spells it.
use Rattle.std.proofs.Common.{◌≡◌, ◌≢◌, ℕ, zero, suc, ◌+◌, ◌-◌, ◌/◌, ◌%◌, ◌<◌, ◌≤◌, Bool, true, false, cond, ltb, List, [], ◌∷◌, ◌++◌, length, get_or, map, refl, sym, ◌∙◌, ap, subst, arith, inl, inr}
use Rattle.std.proofs.lemmas.Bool.{cases_Bool, cases_lt, and_from, and_left, and_right, le-leb, lt-leb, lt-ltb, le-ltb, cond-true, cond-false, false≢true}
use Rattle.std.proofs.lemmas.List.Sums.{sum_by-append}
use Rattle.draughts_board.specs.Geometry.{IsSquare}
use Rattle.draughts_board.specs.Board.{Board, IsLawful, belongs, is_empty}
use Rattle.draughts_board.specs.declared.pieces.Side.{Side}
use Rattle.draughts_board.specs.declared.pieces.Side.TheVariants.{Black, White}
use Rattle.draughts_board.specs.declared.pieces.Cell.{Cell}
use Rattle.draughts_board.specs.declared.pieces.Cell.TheVariants.{Empty, Man, King}
use Rattle.fen_text.specs.Grammar.{Numeral, one, two, are_digits, value, IsItem, AreItems, HasForm}
use Rattle.std.specs.Char.{is_ascii_digit}
use Rattle.fen_text.specs.Spelled.{Group, piece_of, group_of, groups_of, covers, times_named, cell_named, Spells}
use Rattle.fen_text.specs.Printed.{decimal, is_king, printed_item, printed_items, printed, fen_of}
use Rattle.fen_text.proofs.Naming.{times_named-cons, counted, not_counted}
use Rattle.fen_text.proofs.Verdict.{cells_are}

-- ---- the printed text has the form

digit_is : (d : ℕ) → d ≤ 9 → is_ascii_digit (48 + d) ≡ true
digit_is d le = and_from _ _ (le-leb 48 (48 + d) (omega arith)) (le-leb (48 + d) 57 (omega arith))

-- a decimal number is its own value
record DecimalIs (n : ℕ) (d : Numeral) : Type 0 where
  digits : are_digits d ≡ true
  is : value d ≡ n

decimal_is : (n : ℕ) → n ≤ 32 → DecimalIs n (decimal n)
decimal_is n le =
    elim (cases_lt n 10) [
      | inl lt ↦ subst (DecimalIs n) (sym (cond-true (ltb n 10) (one (48 + n)) (two (48 + n / 10) (48 + n % 10)) (lt-ltb n 10 lt))) (record { digits = digit_is n (omega arith); is = omega arith })
      | inr ge ↦ subst (DecimalIs n) (sym (cond-false (ltb n 10) (one (48 + n)) (two (48 + n / 10) (48 + n % 10)) (le-ltb n 10 ge)))
          (record { digits = and_from _ _ (digit_is (n / 10) (omega arith)) (digit_is (n % 10) (omega arith)); is = omega arith })
    ]

item_is : (n : ℕ) (c : Cell) → IsSquare n → IsItem (printed_item n c)
item_is n c square =
    let d = decimal_is n square.1 in
    let is = d.is in
    (record { digits = d.digits; low = omega (arith, is, square.0); high = omega (arith, is, square.1) }, tt)

pub items_are : (side : Side) (n : ℕ) (cells : List Cell) → 1 ≤ n → n + length cells ≤ 33 → AreItems (printed_items side n cells)
items_are side n [] low high = tt
items_are side n (c ∷ cells) low high =
    let rest = items_are side (n + 1) cells (omega arith) (omega arith) in
    elim (cases_Bool (belongs side c)) [
      | inl on ↦ subst (λ b. AreItems (cond b (printed_item n c ∷ printed_items side (n + 1) cells) (printed_items side (n + 1) cells))) (sym on) (item_is n c (low, omega arith), rest)
      | inr off ↦ subst (λ b. AreItems (cond b (printed_item n c ∷ printed_items side (n + 1) cells) (printed_items side (n + 1) cells))) (sym off) rest
    ]

-- ---- what it names

abbrev names : Side → ℕ → List Cell → List Group
names side n cells = map (group_of side) (printed_items side n cells)

group_is : (side : Side) (n : ℕ) (c : Cell) → n ≤ 32 → group_of side (printed_item n c) ≡ record { side = side; king = is_king c; first = n; last = n }
group_is side n c le = (let d = decimal_is n le in ap (λ k. record { side = side; king = is_king c; first = k; last = k }) d.is)

covers_here : (side : Side) (king : Bool) (n : ℕ) → covers n (record { side = side; king = king; first = n; last = n }) ≡ true
covers_here side king n = and_from _ _ (le-leb n n (omega arith)) (le-leb n n (omega arith))

covers_other : (side : Side) (king : Bool) (n m : ℕ) → m ≢ n → covers m (record { side = side; king = king; first = n; last = n }) ≡ false
covers_other side king n m other =
    elim (cases_lt m n) [
      | inl lt ↦ and_left _ _ (lt-leb n m lt)
      | inr ge ↦ and_right _ _ (lt-leb m n (omega arith))
    ]

piece_is : (side : Side) (c : Cell) → belongs side c ≡ true → piece_of side (is_king c) ≡ c
piece_is side Empty e = absurd (false≢true e)
piece_is Black (Man Black) e = refl
piece_is White (Man White) e = refl
piece_is Black (King Black) e = refl
piece_is White (King White) e = refl
piece_is Black (Man White) e = absurd (false≢true e)
piece_is White (Man Black) e = absurd (false≢true e)
piece_is Black (King White) e = absurd (false≢true e)
piece_is White (King Black) e = absurd (false≢true e)

-- the cell, if it is a piece of the side
abbrev of_side : Side → Cell → Cell
of_side side c = cond (belongs side c) c Empty

-- how a list names square m: so often, and with this cell
record NamesAt (groups : List Group) (m times : ℕ) (c : Cell) : Type 0 where
  often : times_named m groups ≡ times
  cell : cell_named m groups ≡ c

names-here : (side : Side) (n : ℕ) (c : Cell) (rest : List Group) → n ≤ 32 → belongs side c ≡ true → NamesAt rest n 0 Empty → NamesAt (group_of side (printed_item n c) ∷ rest) n 1 c
names-here side n c rest le on none =
    subst (λ g. NamesAt (g ∷ rest) n 1 c) (sym (group_is side n c le)) (
    let g : Group = record { side = side; king = is_king c; first = n; last = n } in
    let here = covers_here side (is_king c) n in
    record {
      often = (let e = times_named-cons n g rest in let o = none.often in let one = counted (covers n g) here in omega (arith, e, o, one));
      cell = ap (λ b. cond b (piece_of side (is_king c)) (cell_named n rest)) here ∙ piece_is side c on;
    })

names-other : (side : Side) (n m : ℕ) (c x : Cell) (times : ℕ) (rest : List Group) → n ≤ 32 → m ≢ n → NamesAt rest m times x → NamesAt (group_of side (printed_item n c) ∷ rest) m times x
names-other side n m c x times rest le other is =
    subst (λ g. NamesAt (g ∷ rest) m times x) (sym (group_is side n c le)) (
    let g : Group = record { side = side; king = is_king c; first = n; last = n } in
    let there = covers_other side (is_king c) n m other in
    record {
      often = (let e = times_named-cons m g rest in let o = is.often in let none = not_counted (covers m g) there in omega (arith, e, o, none));
      cell = ap (λ b. cond b (piece_of side (is_king c)) (cell_named m rest)) there ∙ is.cell;
    })

-- the group of the first cell, if there is one
names-cons : (side : Side) (n : ℕ) (c : Cell) (cells : List Cell) (P : List Group → Type 0) → (belongs side c ≡ true → P (group_of side (printed_item n c) ∷ names side (n + 1) cells)) → (belongs side c ≡ false → P (names side (n + 1) cells)) → P (names side n (c ∷ cells))
names-cons side n c cells P with_it without_it =
    elim (cases_Bool (belongs side c)) [
      | inl on ↦ subst (λ b. P (map (group_of side) (cond b (printed_item n c ∷ printed_items side (n + 1) cells) (printed_items side (n + 1) cells)))) (sym on) (with_it on)
      | inr off ↦ subst (λ b. P (map (group_of side) (cond b (printed_item n c ∷ printed_items side (n + 1) cells) (printed_items side (n + 1) cells)))) (sym off) (without_it off)
    ]

-- the squares before these cells are not named
names-before : (side : Side) (n : ℕ) (cells : List Cell) (m : ℕ) → n + length cells ≤ 33 → m < n → NamesAt (names side n cells) m 0 Empty
names-before side n [] m le lt = record { often = refl; cell = refl }
names-before side n (c ∷ cells) m le lt =
    let rest = names-before side (n + 1) cells m (omega arith) (omega arith) in
    names-cons side n c cells (λ gs. NamesAt gs m 0 Empty) (λ on. names-other side n m c Empty 0 (names side (n + 1) cells) (omega arith) (omega arith) rest) (λ off. rest)

-- each of their squares is named once, if a piece of the side stands there
names-at : (side : Side) (n : ℕ) (cells : List Cell) (k : ℕ) → n + length cells ≤ 33 → k < length cells
    → NamesAt (names side n cells) (n + k) (cond {A = ℕ} (belongs side (get_or cells k Empty)) 1 0) (of_side side (get_or cells k Empty))
names-at side n [] k le lt = absurd (omega arith)
names-at side n (c ∷ cells) zero le lt =
    let same : n ≡ n + 0 = omega arith in
    let rest = names-before side (n + 1) cells n (omega arith) (omega arith) in
    subst (λ m. NamesAt (names side n (c ∷ cells)) m (cond {A = ℕ} (belongs side c) 1 0) (of_side side c)) same
    (names-cons side n c cells (λ gs. NamesAt gs n (cond {A = ℕ} (belongs side c) 1 0) (of_side side c))
    (λ on. subst (λ b. NamesAt (group_of side (printed_item n c) ∷ names side (n + 1) cells) n (cond {A = ℕ} b 1 0) (cond b c Empty)) (sym on) (names-here side n c (names side (n + 1) cells) (omega arith) on rest))
    (λ off. subst (λ b. NamesAt (names side (n + 1) cells) n (cond {A = ℕ} b 1 0) (cond b c Empty)) (sym off) rest))
names-at side n (c ∷ cells) (suc k) le lt =
    let same : n + 1 + k ≡ n + suc k = omega arith in
    let d : Cell = get_or cells k Empty in
    let rest = subst (λ m. NamesAt (names side (n + 1) cells) m (cond {A = ℕ} (belongs side d) 1 0) (of_side side d)) same (names-at side (n + 1) cells k (omega arith) (omega arith)) in
    names-cons side n c cells (λ gs. NamesAt gs (n + suc k) (cond {A = ℕ} (belongs side d) 1 0) (of_side side d))
    (λ on. names-other side n (n + suc k) c (of_side side d) (cond {A = ℕ} (belongs side d) 1 0) (names side (n + 1) cells) (omega arith) (omega arith) rest) (λ off. rest)

-- ---- both lists

cell_named-append : (m : ℕ) (a b : List Group) → cell_named m (a ++ b) ≡ cond (is_empty (cell_named m a)) (cell_named m b) (cell_named m a)
cell_named-append m [] b = refl
cell_named-append m (g ∷ a) b =
    elim (cases_Bool (covers m g)) [
      | inl e ↦ rw e (full g.side g.king)
      | inr e ↦ rw e (cell_named-append m a b)
    ]
  where
    full : (side : Side) (king : Bool) → piece_of side king ≡ cond (is_empty (piece_of side king)) (cell_named m b) (piece_of side king)
    full side true = refl
    full side false = refl

both : (c : Cell) (m : ℕ) (white black : List Group) → NamesAt white m (cond {A = ℕ} (belongs White c) 1 0) (of_side White c) → NamesAt black m (cond {A = ℕ} (belongs Black c) 1 0) (of_side Black c)
    → (times_named m (white ++ black) ≤ 1) × (c ≡ cell_named m (white ++ black))
both c m white black w b =
    let times = sum_by-append (λ (g : Group). cond {A = ℕ} (covers m g) 1 0) white black in
    let often_w = w.often in
    let often_b = b.often in (
      (let most : cond {A = ℕ} (belongs White c) 1 0 + cond {A = ℕ} (belongs Black c) 1 0 ≤ 1 = one_owner c in omega (arith, times, often_w, often_b, most)),
      owner c ∙ sym (cell_named-append m white black ∙ ap (λ x. cond (is_empty x) (cell_named m black) x) w.cell ∙ ap (λ x. cond (is_empty (of_side White c)) x (of_side White c)) b.cell),
    )
  where
    one_owner : (x : Cell) → cond {A = ℕ} (belongs White x) 1 0 + cond {A = ℕ} (belongs Black x) 1 0 ≤ 1
    one_owner Empty = omega arith
    one_owner (Man White) = omega arith
    one_owner (Man Black) = omega arith
    one_owner (King White) = omega arith
    one_owner (King Black) = omega arith

    owner : (x : Cell) → x ≡ cond (is_empty (of_side White x)) (of_side Black x) (of_side White x)
    owner Empty = refl
    owner (Man White) = refl
    owner (Man Black) = refl
    owner (King White) = refl
    owner (King Black) = refl

at_square : (p : Board) → IsLawful p → (n : ℕ) → IsSquare n → (times_named n (groups_of (printed p)) ≤ 1) × (get_or p.cells (n - 1) Empty ≡ cell_named n (groups_of (printed p)))
at_square p lawful n square =
    let full = lawful.squares in
    let place : 1 + (n - 1) ≡ n = omega (arith, square.0) in
    let w = names-at White 1 p.cells (n - 1) (omega arith) (omega (arith, square.0, square.1)) in
    let b = names-at Black 1 p.cells (n - 1) (omega arith) (omega (arith, square.0, square.1)) in
    let c : Cell = get_or p.cells (n - 1) Empty in
    both c n (names White 1 p.cells) (names Black 1 p.cells)
    (subst (λ m. NamesAt (names White 1 p.cells) m (cond {A = ℕ} (belongs White c) 1 0) (of_side White c)) place w)
    (subst (λ m. NamesAt (names Black 1 p.cells) m (cond {A = ℕ} (belongs Black c) 1 0) (of_side Black c)) place b)

pub printed_has_form : (p : Board) → IsLawful p → HasForm (fen_of p) (printed p)
unfolding fen_of
printed_has_form p lawful = (let full = lawful.squares in record {
  first = items_are White 1 p.cells (omega arith) (omega arith);
  second = items_are Black 1 p.cells (omega arith) (omega arith);
  spelled = refl;
})

pub printed_spells : (p : Board) → IsLawful p → Spells (fen_of p) p
printed_spells p lawful = record {
  draft = printed p;
  form = printed_has_form p lawful;
  once = λ n square. (at_square p lawful n square).0;
  lawful = lawful;
  to_move = refl;
  cells = cells_are p.cells (groups_of (printed p)) lawful.squares (λ n square. (at_square p lawful n square).1);
}
