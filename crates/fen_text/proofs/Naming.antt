-- What a setup holds once one more square is named.
use Rattle.std.proofs.Common.{◌≡◌, ◌≢◌, ℕ, ◌+◌, ◌-◌, ◌<◌, ◌≤◌, Bool, true, false, cond, List, [], ◌∷◌, ◌++◌, length, get_or, set, Option, Some, None, refl, sym, ◌∙◌, ap, subst, arith, inl, inr, length-set, get_or-set_same, get_or-set_other, leb}
use Rattle.std.specs.Prelude.{MatchOption, nat_lt, replicate}
use Rattle.std.proofs.lemmas.Bool.{cases_eq, cases_lt, cases_Bool, lt-ltb, le-ltb, cond-true, cond-false, and_right, le-leb, lt-leb, false≢true}
use Rattle.std.proofs.lemmas.List.{get_or-replicate}
use Rattle.std.proofs.lemmas.List.Sums.{sum_by-append}
use Rattle.draughts_board.specs.Geometry.{IsSquare}
use Rattle.draughts_board.specs.Board.{is_empty}
use Rattle.draughts_board.specs.declared.pieces.Side.{Side}
use Rattle.draughts_board.specs.declared.pieces.Cell.{Cell}
use Rattle.draughts_board.specs.declared.pieces.Cell.TheVariants.{Empty, Man, King}
use Rattle.fen_text.specs.Spelled.{Group, piece_of, covers, times_named, NoneTwice, IsLeastTwice, cell_named}
use Rattle.fen_text.specs.Setup.{HoldsGroups, cells_with, lesser_square, twice_with}

piece-is_no_gap : (side : Side) (king : Bool) → is_empty (piece_of side king) ≡ false
piece-is_no_gap side true = refl
piece-is_no_gap side false = refl

-- ---- one more group

pub counted : (b : Bool) → b ≡ true → cond {A = ℕ} b 1 0 ≡ 1
counted true e = refl
counted false e = absurd (false≢true e)

pub not_counted : (b : Bool) → b ≡ false → cond {A = ℕ} b 1 0 ≡ 0
not_counted true e = absurd (false≢true (sym e))
not_counted false e = refl

times_named-push : (m : ℕ) (groups : List Group) (g : Group) → times_named m (groups ++ g ∷ []) ≡ times_named m groups + cond (covers m g) 1 0
times_named-push m groups g =
    let e = sum_by-append (λ (x : Group). cond (covers m x) 1 0) groups (g ∷ []) in omega (arith, e)

pub times_named-cons : (m : ℕ) (g : Group) (groups : List Group) → times_named m (g ∷ groups) ≡ cond {A = ℕ} (covers m g) 1 0 + times_named m groups
times_named-cons m g groups =
    let e = sum_by-append (λ (x : Group). cond {A = ℕ} (covers m x) 1 0) (g ∷ []) groups in omega (arith, e)

-- an empty square is one that is not named
none_if_empty : (m : ℕ) (groups : List Group) → is_empty (cell_named m groups) ≡ true → times_named m groups ≡ 0
none_if_empty m [] h = refl
none_if_empty m (g ∷ groups) h =
    elim (cases_Bool (covers m g)) [
      | inl e ↦ absurd (false≢true (sym (piece-is_no_gap g.side g.king) ∙ sym (ap (λ b. is_empty (cond b (piece_of g.side g.king) (cell_named m groups))) e) ∙ h))
      | inr e ↦ (
          let rest : is_empty (cell_named m groups) ≡ true = sym (ap (λ b. is_empty (cond b (piece_of g.side g.king) (cell_named m groups))) e) ∙ h in
          let none = none_if_empty m groups rest in
          let off = not_counted (covers m g) e in let c = times_named-cons m g groups in omega (arith, none, off, c))
    ]

some_if_not_empty : (m : ℕ) (groups : List Group) → is_empty (cell_named m groups) ≡ false → 1 ≤ times_named m groups
some_if_not_empty m [] h = absurd (false≢true (sym h))
some_if_not_empty m (g ∷ groups) h =
    elim (cases_Bool (covers m g)) [
      | inl e ↦ (let on = counted (covers m g) e in let c = times_named-cons m g groups in omega (arith, on, c))
      | inr e ↦ (
          let rest : is_empty (cell_named m groups) ≡ false = sym (ap (λ b. is_empty (cond b (piece_of g.side g.king) (cell_named m groups))) e) ∙ h in
          let some = some_if_not_empty m groups rest in let c = times_named-cons m g groups in omega (arith, some, c))
    ]

-- what is named first stays
cell_named-push : (m : ℕ) (groups : List Group) (g : Group) → cell_named m (groups ++ g ∷ []) ≡ cond (is_empty (cell_named m groups)) (cond (covers m g) (piece_of g.side g.king) Empty) (cell_named m groups)
cell_named-push m [] g = refl
cell_named-push m (f ∷ groups) g =
    elim (cases_Bool (covers m f)) [
      | inl e ↦ rw (e, piece-is_no_gap f.side f.king) refl
      | inr e ↦ rw e (cell_named-push m groups g)
    ]

-- ---- one more square of a group

-- the lists name the same, except that the second names square n once more
record NamesOneMore (old new : List Group) (n : ℕ) (piece : Cell) : Type 0 where
  others : (m : ℕ) → m ≢ n → times_named m new ≡ times_named m old
  other_cells : (m : ℕ) → m ≢ n → cell_named m new ≡ cell_named m old
  here : times_named n new ≡ times_named n old + 1
  cell_here : cell_named n new ≡ cond (is_empty (cell_named n old)) piece (cell_named n old)

module _ (cells : List Cell) (twice : Option ℕ) (old new : List Group) (n : ℕ) (piece : Cell) (square : IsSquare n) (more : NamesOneMore old new n piece) (held : HoldsGroups cells twice old) where
  place_below : n - 1 < length cells
  place_below = let f = held.full in omega (arith, square.0, square.1, f)

  on_empty : is_empty (get_or cells (n - 1) Empty) ≡ true → HoldsGroups (set cells (n - 1) piece) twice new
  on_empty e =
      let named : is_empty (cell_named n old) ≡ true = sym (ap is_empty (held.cells n square)) ∙ e in
      let none = none_if_empty n old named in
      let once = more.here in
      record {
        full = length-set cells (n - 1) piece ∙ held.full;
        cells = λ m sq. elim (cases_eq m n) [
          | inl same ↦ subst (λ k. get_or (set cells (n - 1) piece) (k - 1) Empty ≡ cell_named k new) (sym same)
              (get_or-set_same cells (n - 1) piece Empty place_below ∙ sym (more.cell_here ∙ ap (λ b. cond b piece (cell_named n old)) named))
          | inr other ↦ (let apart : m - 1 ≢ n - 1 = λ h. other (omega (arith, h, sq.0, square.0)) in
              get_or-set_other cells (n - 1) (m - 1) piece Empty apart ∙ held.cells m sq ∙ sym (more.other_cells m other))
        ];
        twice = still twice held.twice none once;
      }
    where
      still : (again : Option ℕ) → MatchOption again (NoneTwice old) (IsLeastTwice old) → times_named n old ≡ 0 → times_named n new ≡ times_named n old + 1 → MatchOption again (NoneTwice new) (IsLeastTwice new)
      still None h none once = λ m sq. elim (cases_eq m n) [
        | inl same ↦ subst (λ k. times_named k new ≤ 1) (sym same) (omega (arith, none, once))
        | inr other ↦ (let e = more.others m other in let b = h m sq in omega (arith, e, b))
      ]
      still (Some s) h none once =
          let apart : s ≢ n = λ same. (let t = subst (λ k. 2 ≤ times_named k old) same h.twice in omega (arith, t, none)) in
          record {
            square = h.square;
            twice = (let e = more.others s apart in let t = h.twice in omega (arith, e, t));
            least = λ m sq lt. elim (cases_eq m n) [
              | inl same ↦ subst (λ k. times_named k new ≤ 1) (sym same) (omega (arith, none, once))
              | inr other ↦ (let e = more.others m other in let b = h.least m sq lt in omega (arith, e, b))
            ];
          }

  on_piece : is_empty (get_or cells (n - 1) Empty) ≡ false → HoldsGroups cells (Some (lesser_square n twice)) new
  on_piece e =
      let named : is_empty (cell_named n old) ≡ false = sym (ap is_empty (held.cells n square)) ∙ e in
      let some = some_if_not_empty n old named in
      let again = more.here in
      let two : 2 ≤ times_named n new = omega arith in
      record {
        full = held.full;
        cells = λ m sq. elim (cases_eq m n) [
          | inl same ↦ subst (λ k. get_or cells (k - 1) Empty ≡ cell_named k new) (sym same)
              (held.cells n square ∙ sym (more.cell_here ∙ ap (λ b. cond b piece (cell_named n old)) named))
          | inr other ↦ held.cells m sq ∙ sym (more.other_cells m other)
        ];
        twice = least twice held.twice two;
      }
    where
      least : (again : Option ℕ) → MatchOption again (NoneTwice old) (IsLeastTwice old) → 2 ≤ times_named n new → IsLeastTwice new (lesser_square n again)
      least None h two = record {
        square = square;
        twice = two;
        least = λ m sq lt. (let e = more.others m (omega arith) in let b = h m sq in omega (arith, e, b));
      }
      least (Some s) h two =
          elim (cases_lt s n) [
            | inl lt ↦ subst (IsLeastTwice new) (sym (cond-true (nat_lt s n) s n (lt-ltb s n lt))) (record {
              square = h.square;
              twice = (let e = more.others s (omega arith) in let t = h.twice in omega (arith, e, t));
              least = λ m sq below. (let e = more.others m (omega arith) in let b = h.least m sq below in omega (arith, e, b));
            })
            | inr le ↦ subst (IsLeastTwice new) (sym (cond-false (nat_lt s n) s n (le-ltb s n le))) (record {
              square = square;
              twice = two;
              least = λ m sq below. (let e = more.others m (omega arith) in let b = h.least m sq (omega arith) in omega (arith, e, b));
            })
          ]

  holds_more : HoldsGroups (cells_with cells n piece) (twice_with cells twice n) new
  holds_more =
      elim (cases_Bool (is_empty (get_or cells (n - 1) Empty))) [
        | inl e ↦ rw e (on_empty e)
        | inr e ↦ rw e (on_piece e)
      ]

-- ---- a group, square by square

part : Side → Bool → ℕ → ℕ → Group
part side king first last = record { side = side; king = king; first = first; last = last }

-- two groups of one piece that cover the same
same_names : (groups : List Group) (side : Side) (king : Bool) (a b c d m : ℕ) → covers m (part side king a b) ≡ covers m (part side king c d)
    → (times_named m (groups ++ part side king a b ∷ []) ≡ times_named m (groups ++ part side king c d ∷ [])) × (cell_named m (groups ++ part side king a b ∷ []) ≡ cell_named m (groups ++ part side king c d ∷ []))
unfolding part
same_names groups side king a b c d m e = (
  times_named-push m groups (part side king a b) ∙ ap (λ t. times_named m groups + cond {A = ℕ} t 1 0) e ∙ sym (times_named-push m groups (part side king c d)),
  cell_named-push m groups (part side king a b) ∙ ap (λ t. cond (is_empty (cell_named m groups)) (cond t (piece_of side king) Empty) (cell_named m groups)) e ∙ sym (cell_named-push m groups (part side king c d)),
)

covers-next : (side : Side) (king : Bool) (a n m : ℕ) → 1 ≤ n → m ≢ n → covers m (part side king a n) ≡ covers m (part side king a (n - 1))
unfolding part
covers-next side king a n m least other =
    elim (cases_lt n m) [
      | inl lt ↦ rw (lt-leb m n lt, lt-leb m (n - 1) (omega arith)) refl
      | inr le ↦ (let below : m ≤ n - 1 = omega arith in rw (le-leb m n le, le-leb m (n - 1) below) refl)
    ]

one_more : (groups : List Group) (side : Side) (king : Bool) (a n : ℕ) → 1 ≤ n → a ≤ n
    → NamesOneMore (groups ++ part side king a (n - 1) ∷ []) (groups ++ part side king a n ∷ []) n (piece_of side king)
unfolding part
one_more groups side king a n least from =
    let before : Group = part side king a (n - 1) in
    let now : Group = part side king a n in
    let off : covers n before ≡ false = rw (lt-leb n (n - 1) (omega arith)) (and_right (leb a n) false refl) in
    let on : covers n now ≡ true = rw (le-leb a n from, le-leb n n (omega arith)) refl in
    let t0 = times_named-push n groups before in
    let t1 = times_named-push n groups now in
    let o0 = not_counted (covers n before) off in
    let o1 = counted (covers n now) on in
    record {
      others = λ m other. (same_names groups side king a n a (n - 1) m (covers-next side king a n m least other)).0;
      other_cells = λ m other. (same_names groups side king a n a (n - 1) m (covers-next side king a n m least other)).1;
      here = omega (arith, t0, t1, o0, o1);
      cell_here = here_cell (cell_named n groups) (cell_named-push n groups before ∙ ap (λ t. cond (is_empty (cell_named n groups)) (cond t (piece_of side king) Empty) (cell_named n groups)) off) (cell_named-push n groups now ∙ ap (λ t. cond (is_empty (cell_named n groups)) (cond t (piece_of side king) Empty) (cell_named n groups)) on);
    }
  where
    here_cell : (c : Cell) {x y : Cell} → x ≡ cond (is_empty c) Empty c → y ≡ cond (is_empty c) (piece_of side king) c → y ≡ cond (is_empty x) (piece_of side king) x
    here_cell Empty p q = q ∙ sym (ap (λ z. cond (is_empty z) (piece_of side king) z) p)
    here_cell (Man s) p q = q ∙ sym (ap (λ z. cond (is_empty z) (piece_of side king) z) p)
    here_cell (King s) p q = q ∙ sym (ap (λ z. cond (is_empty z) (piece_of side king) z) p)

-- a group of which no square is named yet
pub group_begins : (cells : List Cell) (twice : Option ℕ) (groups : List Group) (side : Side) (king : Bool) (a : ℕ) → 1 ≤ a
    → HoldsGroups cells twice groups → HoldsGroups cells twice (groups ++ record { side = side; king = king; first = a; last = a - 1 } ∷ [])
unfolding part
group_begins cells twice groups side king a least held =
    let g : Group = part side king a (a - 1) in
    let off : (m : ℕ) → covers m g ≡ false = λ m. elim (cases_lt m a) [
      | inl lt ↦ rw (lt-leb a m lt) refl
      | inr le ↦ rw (lt-leb m (a - 1) (omega arith)) (and_right (leb a m) false refl)
    ] in
    let times : (m : ℕ) → times_named m (groups ++ g ∷ []) ≡ times_named m groups = λ m. (let p = times_named-push m groups g in let o = not_counted (covers m g) (off m) in omega (arith, p, o)) in
    record {
      full = held.full;
      cells = λ m sq. held.cells m sq ∙ sym (cell_named-push m groups g ∙ same_cell_named (cell_named m groups) (covers m g) (off m));
      twice = same_twice twice groups (groups ++ g ∷ []) held.twice times;
    }
  where
    same_cell_named : (c : Cell) (b : Bool) → b ≡ false → cond (is_empty c) (cond b (piece_of side king) Empty) c ≡ c
    same_cell_named Empty b e = ap (λ t. cond t (piece_of side king) Empty) e
    same_cell_named (Man s) b e = refl
    same_cell_named (King s) b e = refl

    same_twice : (again : Option ℕ) (old new : List Group) → MatchOption again (NoneTwice old) (IsLeastTwice old) → ((m : ℕ) → times_named m new ≡ times_named m old) → MatchOption again (NoneTwice new) (IsLeastTwice new)
    same_twice None old new h e = λ m sq. (let x = e m in let b = h m sq in omega (arith, x, b))
    same_twice (Some s) old new h e = record {
      square = h.square;
      twice = (let x = e s in let b = h.twice in omega (arith, x, b));
      least = λ m sq lt. (let x = e m in let b = h.least m sq lt in omega (arith, x, b));
    }

-- one more square of a group
pub group_goes_on : (cells : List Cell) (twice : Option ℕ) (groups : List Group) (side : Side) (king : Bool) (a n : ℕ) → a ≤ n → IsSquare n
    → HoldsGroups cells twice (groups ++ record { side = side; king = king; first = a; last = n - 1 } ∷ [])
    → HoldsGroups (cells_with cells n (piece_of side king)) (twice_with cells twice n) (groups ++ record { side = side; king = king; first = a; last = n } ∷ [])
unfolding part
group_goes_on cells twice groups side king a n from square held =
    holds_more cells twice (groups ++ part side king a (n - 1) ∷ []) (groups ++ part side king a n ∷ []) n (piece_of side king) square (one_more groups side king a n square.0 from) held

-- ---- nothing is named yet

pub nothing_held : (cells : List Cell) → cells ≡ replicate 32 Empty → HoldsGroups cells None []
nothing_held cells e = record {
  full = ap length e;
  cells = λ m sq. rw e (get_or-replicate 32 (m - 1) Empty Empty (omega (arith, sq.0, sq.1)));
  twice = λ m sq. omega arith;
}
