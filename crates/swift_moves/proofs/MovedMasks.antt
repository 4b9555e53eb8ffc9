-- The masks after a legal move hold what stands there then.
use Rattle.std.proofs.Common.{◌≡◌, ℕ, ◌<◌, ◌^◌, Bool, true, false, cond, not, ◌&&◌, ◌||◌, ◌==◌, List, [], ◌∷◌, ◌-◌, get_or, refl, sym, ◌∙◌, ap, subst, arith, inl, inr}
use Rattle.std.specs.Cmp.{first_so, second_so}
use Rattle.std.proofs.lemmas.Bool.{or_cases, or_left, eqb-true, false≢true, leb-true}
use Rattle.std.proofs.lemmas.Nat.Bits.{bit_at-zero}
use Rattle.draughts_board.specs.declared.pieces.Side.{Side}
use Rattle.draughts_board.specs.declared.pieces.Side.TheVariants.{Black, White}
use Rattle.draughts_board.specs.declared.pieces.Cell.{Cell}
use Rattle.draughts_board.specs.declared.pieces.Cell.TheVariants.{Empty, Man, King}
use Rattle.draughts_board.specs.Geometry.{IsSquare, is_square, row, column, distance, are_near, are_jump_apart, between}
use Rattle.draughts_board.specs.Board.{Board, IsLawful, cell_at, belongs, other, is_empty, same_cell, farthest_row}
use Rattle.draughts_board.specs.Rules.{IsLegal, after, at_rest, first_square, last_square, jumped, contains, all_following, is_jump, is_step}
use Rattle.draughts_board.proofs.Growth.{Each, IsPieceOf, jumped-pieces}
use Rattle.draughts_board.proofs.After.{legal-own, legal-last, at_rest-belongs, after_is_lawful}
use Rattle.draughts_board.proofs.FourMasks.{make_position}
use Rattle.draughts_board.specs.Masks.{IsMaskOf, AreMasksOf, are_apart, board_in}
use Rattle.swift_moves.specs.Moved.{in_turn, is_king_at_rest, AreMoved}
use Rattle.swift_moves.proofs.CaptureMasks.{eqb_turned}
use Rattle.swift_moves.proofs.CellsAfter.{cell_moved, cell_at-after}

-- ---- what a legal path says of its squares

-- the piece on x may go to z over these squares: it is the mover's, z is free for it, and they hold enemies
pub record IsMovable (p : Board) (x z : ℕ) (over : List ℕ) : Type 0 where
  pub own : belongs p.to_move (cell_at p x) ≡ true
  pub free : (is_empty (cell_at p z) || z == x) ≡ true
  pub enemies : (n : ℕ) → contains over n ≡ true → belongs (other p.to_move) (cell_at p n) ≡ true

last_free : (p : Board) (s x z : ℕ) (rest : List ℕ) → all_following (is_jump p s) (x ∷ z ∷ rest) ≡ true → (is_empty (cell_at p (last_square (z ∷ rest))) || last_square (z ∷ rest) == s) ≡ true
last_free p s x z [] h = second_so _ _ (first_so _ _ h)
last_free p s x z (y ∷ rest) h = last_free p s z y rest (second_so _ _ h)

pieces_on : (s : Side) (cells : List Cell) (ns : List ℕ) (n : ℕ) → Each (IsPieceOf s cells) ns → contains ns n ≡ true → belongs s (get_or cells (n - 1) Empty) ≡ true
unfolding Each IsPieceOf
pieces_on s cells [] n h c = absurd (false≢true c)
pieces_on s cells (m ∷ ns) n h c =
    elim (or_cases (m == n) (contains ns n) c) [
      | inl e ↦ ap (λ k. belongs s (get_or cells (k - 1) Empty)) (sym (eqb-true m n e)) ∙ h.0.1
      | inr t ↦ pieces_on s cells ns n h.1 t
    ]

-- near squares are no jump apart
pub near_not_apart : (x z : ℕ) → are_near x z ≡ true → are_jump_apart x z ≡ false
near_not_apart x z h = by (distance (row x) (row z)) (distance (column x) (column z)) (first_so (distance (row x) (row z) == 1) (distance (column x) (column z) == 1) h)
  where
    by : (d e : ℕ) → (d == 1) ≡ true → ((d == 2) && (e == 2)) ≡ false
    by d e t = ap (λ k. (k == 2) && (e == 2)) (eqb-true d 1 t)

pub legal_is_movable : (p : Board) (path : List ℕ) → IsLegal p path → IsMovable p (first_square path) (last_square path) (jumped path)
legal_is_movable p [] (inl c) = let l = c.long in absurd (omega arith)
legal_is_movable p (x ∷ []) (inl c) = let l = c.long in absurd (omega arith)
legal_is_movable p (x ∷ z ∷ rest) (inl c) = record {
  own = second_so _ _ c.own;
  free = last_free p x x z rest c.jumps;
  enemies = λ n. pieces_on (other p.to_move) p.cells (jumped (x ∷ z ∷ rest)) n (jumped-pieces p x x (z ∷ rest) c.jumps);
}
legal_is_movable p [] (inr s) = let l = s.two in absurd (omega arith)
legal_is_movable p (x ∷ []) (inr s) = let l = s.two in absurd (omega arith)
legal_is_movable p (x ∷ z ∷ y ∷ rest) (inr s) = let l = s.two in absurd (omega arith)
legal_is_movable p (x ∷ z ∷ []) (inr s) =
    let near : are_near x z ≡ true = second_so _ _ (first_so _ _ (first_so _ _ s.step)) in record {
      own = second_so _ _ s.own;
      free = or_left (is_empty (cell_at p z)) (z == x) (second_so _ _ s.step);
      enemies = λ n c. absurd (false≢true (sym (ap (λ b. contains (cond b (between x z ∷ []) []) n) (near_not_apart x z near)) ∙ c));
    }

-- ---- one square after the move

pub is_nothing : (c : Cell) → is_empty c ≡ true → c ≡ Empty
is_nothing Empty e = refl
is_nothing (Man s) e = absurd (false≢true e)
is_nothing (King s) e = absurd (false≢true e)

and_false : (b : Bool) → (b && false) ≡ false
and_false true = refl
and_false false = refl

or_false : (b : Bool) → (b || false) ≡ b
or_false true = refl
or_false false = refl

and_true : (b : Bool) → (b && true) ≡ b
and_true true = refl
and_true false = refl

module _ (p : Board) (x z : ℕ) (over : List ℕ) (m : IsMovable p x z over) (test : Cell → Bool) (nothing : test Empty ≡ false) where
  -- a test that no enemy passes: of the mover's men, or of its kings
  module _ (not_enemy : (d : Cell) → belongs (other p.to_move) d ≡ true → test d ≡ false) where
    ended : (n : ℕ) → (n == z) ≡ true → (test (cell_at p n) && not (n == x)) ≡ false
    ended n e =
        let same : n ≡ z = eqb-true n z e in
        elim (or_cases (is_empty (cell_at p z)) (z == x) m.free) [
          | inl free ↦ ap (λ d. test d && not (n == x)) (ap (cell_at p) same ∙ is_nothing (cell_at p z) free) ∙ ap (λ b. b && not (n == x)) nothing
          | inr back ↦ ap (λ k. test (cell_at p n) && not (k == x)) same ∙ ap (λ b. test (cell_at p n) && not b) back ∙ and_false (test (cell_at p n))
        ]

    pub own_after : (n : ℕ) → test (cell_moved p x z over n) ≡ ((test (cell_at p n) && not (n == x)) || (n == z && test (at_rest (cell_at p x) z)))
    own_after n = by (n == z) refl (contains over n) refl (x == n) refl
      where
        by : (a : Bool) → (n == z) ≡ a → (o : Bool) → contains over n ≡ o → (b : Bool) → (x == n) ≡ b
            → test (cond a (at_rest (cell_at p x) z) (cond o Empty (cond b Empty (cell_at p n)))) ≡ ((test (cell_at p n) && not (n == x)) || (a && test (at_rest (cell_at p x) z)))
        by true e o f b g = ap (λ t. t || test (at_rest (cell_at p x) z)) (sym (ended n e))
        by false e true f b g = nothing ∙ sym (or_false _ ∙ ap (λ t. t && not (n == x)) (not_enemy (cell_at p n) (m.enemies n f)))
        by false e false f true g = nothing ∙ sym (or_false _ ∙ ap (λ t. test (cell_at p n) && not t) (eqb_turned n x ∙ g) ∙ and_false _)
        by false e false f false g = sym (or_false _ ∙ ap (λ t. test (cell_at p n) && not t) (eqb_turned n x ∙ g) ∙ and_true _)

  -- a test that no piece of the mover passes: of the enemy's men, or of its kings
  module _ (not_own : (d : Cell) → belongs p.to_move d ≡ true → test d ≡ false) where
    ends_none : (n : ℕ) → (n == z) ≡ true → test (cell_at p n) ≡ false
    ends_none n e =
        let same : n ≡ z = eqb-true n z e in
        elim (or_cases (is_empty (cell_at p z)) (z == x) m.free) [
          | inl free ↦ ap test (ap (cell_at p) same ∙ is_nothing (cell_at p z) free) ∙ nothing
          | inr back ↦ ap (λ k. test (cell_at p k)) (same ∙ eqb-true z x back) ∙ not_own (cell_at p x) m.own
        ]

    pub left_after : (n : ℕ) → test (cell_moved p x z over n) ≡ (test (cell_at p n) && not (contains over n))
    left_after n = by (n == z) refl (contains over n) refl (x == n) refl
      where
        by : (a : Bool) → (n == z) ≡ a → (o : Bool) → contains over n ≡ o → (b : Bool) → (x == n) ≡ b
            → test (cond a (at_rest (cell_at p x) z) (cond o Empty (cond b Empty (cell_at p n)))) ≡ (test (cell_at p n) && not o)
        by true e o f b g =
            not_own (at_rest (cell_at p x) z) (at_rest-belongs p.to_move (cell_at p x) z ∙ m.own)
            ∙ sym (ap (λ t. t && not o) (ends_none n e))
        by false e true f b g = nothing ∙ sym (and_false _)
        by false e false f true g = nothing ∙ sym (and_true _ ∙ ap (λ k. test (cell_at p k)) (sym (eqb-true x n g)) ∙ not_own (cell_at p x) m.own)
        by false e false f false g = sym (and_true _)

-- ---- the tests of men and kings

man_no_enemy : (s : Side) (d : Cell) → belongs (other s) d ≡ true → same_cell (Man s) d ≡ false
man_no_enemy s Empty e = refl
man_no_enemy s (King t) e = refl
man_no_enemy Black (Man Black) e = absurd (false≢true e)
man_no_enemy Black (Man White) e = refl
man_no_enemy White (Man Black) e = refl
man_no_enemy White (Man White) e = absurd (false≢true e)

king_no_enemy : (s : Side) (d : Cell) → belongs (other s) d ≡ true → same_cell (King s) d ≡ false
king_no_enemy s Empty e = refl
king_no_enemy s (Man t) e = refl
king_no_enemy Black (King Black) e = absurd (false≢true e)
king_no_enemy Black (King White) e = refl
king_no_enemy White (King Black) e = refl
king_no_enemy White (King White) e = absurd (false≢true e)

enemy_man_not_own : (s : Side) (d : Cell) → belongs s d ≡ true → same_cell (Man (other s)) d ≡ false
enemy_man_not_own s Empty e = refl
enemy_man_not_own s (King t) e = refl
enemy_man_not_own Black (Man Black) e = refl
enemy_man_not_own Black (Man White) e = absurd (false≢true e)
enemy_man_not_own White (Man Black) e = absurd (false≢true e)
enemy_man_not_own White (Man White) e = refl

enemy_king_not_own : (s : Side) (d : Cell) → belongs s d ≡ true → same_cell (King (other s)) d ≡ false
enemy_king_not_own s Empty e = refl
enemy_king_not_own s (Man t) e = refl
enemy_king_not_own Black (King Black) e = refl
enemy_king_not_own Black (King White) e = absurd (false≢true e)
enemy_king_not_own White (King Black) e = absurd (false≢true e)
enemy_king_not_own White (King White) e = refl

crowned_by : (s : Side) (b : Bool) → (same_cell (King s) (cond b (King s) (Man s)) ≡ b) × (same_cell (Man s) (cond b (King s) (Man s)) ≡ not b)
crowned_by Black true = (refl, refl)
crowned_by Black false = (refl, refl)
crowned_by White true = (refl, refl)
crowned_by White false = (refl, refl)

-- the mover's piece at rest is a king where it was one or has come to its farthest row, and else a man
rests : (s : Side) (c : Cell) (z : ℕ) → belongs s c ≡ true
    → (same_cell (King s) (at_rest c z) ≡ (same_cell (King s) c || row z == farthest_row s)) × (same_cell (Man s) (at_rest c z) ≡ not (same_cell (King s) c || row z == farthest_row s))
rests s Empty z e = absurd (false≢true e)
rests Black (Man Black) z e = crowned_by Black (row z == farthest_row Black)
rests Black (Man White) z e = absurd (false≢true e)
rests White (Man Black) z e = absurd (false≢true e)
rests White (Man White) z e = crowned_by White (row z == farthest_row White)
rests Black (King Black) z e = (refl, refl)
rests Black (King White) z e = absurd (false≢true e)
rests White (King Black) z e = absurd (false≢true e)
rests White (King White) z e = (refl, refl)

-- ---- the masks

pub legal-first : (p : Board) (path : List ℕ) → IsLegal p path → IsSquare (first_square path)
legal-first p path legal =
    let own : is_square (first_square path) ≡ true = first_so _ _ (legal-own p path legal) in
    (leb-true _ _ (first_so _ _ own), leb-true _ _ (second_so _ _ own))

pub legal-end : (p : Board) (path : List ℕ) → IsLegal p path → IsSquare (last_square path)
legal-end p path legal = let there = legal-last p path legal in (leb-true _ _ (first_so _ _ there), leb-true _ _ (second_so _ _ there))

abbrev pub IsMaskOfPieces : Board → Cell → ℕ → Type 0
IsMaskOfPieces p piece m = IsMaskOf (λ n. same_cell piece (cell_at p n)) m

-- the masks of the side's and of the other side's pieces
pub record AreArmies (p : Board) (s : Side) (masks : List ℕ) : Type 0 where
  pub own_men : IsMaskOfPieces p (Man s) (get_or masks 0 0)
  pub own_kings : IsMaskOfPieces p (King s) (get_or masks 1 0)
  pub left_men : IsMaskOfPieces p (Man (other s)) (get_or masks 2 0)
  pub left_kings : IsMaskOfPieces p (King (other s)) (get_or masks 3 0)

armies_after : (p : Board) (path : List ℕ) (taken : ℕ) (old new : List ℕ) → IsLawful p → IsLegal p path → IsMaskOf (contains (jumped path)) taken
    → AreArmies p p.to_move old → AreMoved p.to_move (first_square path) (last_square path) taken old new → AreArmies (after p path) p.to_move new
armies_after p path taken old new lawful legal over before moved =
    let s : Side = p.to_move in
    let x : ℕ = first_square path in
    let z : ℕ = last_square path in
    let m : IsMovable p x z (jumped path) = legal_is_movable p path legal in
    let hx : IsSquare x = legal-first p path legal in
    let hz : IsSquare z = legal-end p path legal in
    let there : (n : ℕ) → IsSquare n → cell_moved p x z (jumped path) n ≡ cell_at (after p path) n = λ n h. sym (cell_at-after p path n lawful.squares hx hz h) in
    let rest = rests s (cell_at p x) z m.own in
    let king : is_king_at_rest s (get_or old 1 0) x z ≡ (same_cell (King s) (cell_at p x) || row z == farthest_row s) = ap (λ b. b || row z == farthest_row s) (before.own_kings x hx) in record {
      own_men = λ n h. moved.own_men n h
          ∙ (λ i. (before.own_men n h i && not (n == x)) || (n == z && (ap not king ∙ sym rest.1) i))
          ∙ sym (own_after p x z (jumped path) m (same_cell (Man s)) refl (man_no_enemy s) n) ∙ ap (same_cell (Man s)) (there n h);
      own_kings = λ n h. moved.own_kings n h
          ∙ (λ i. (before.own_kings n h i && not (n == x)) || (n == z && (king ∙ sym rest.0) i))
          ∙ sym (own_after p x z (jumped path) m (same_cell (King s)) refl (king_no_enemy s) n) ∙ ap (same_cell (King s)) (there n h);
      left_men = λ n h. moved.left_men n h
          ∙ (λ i. before.left_men n h i && not (over n h i))
          ∙ sym (left_after p x z (jumped path) m (same_cell (Man (other s))) refl (enemy_man_not_own s) n) ∙ ap (same_cell (Man (other s))) (there n h);
      left_kings = λ n h. moved.left_kings n h
          ∙ (λ i. before.left_kings n h i && not (over n h i))
          ∙ sym (left_after p x z (jumped path) m (same_cell (King (other s))) refl (enemy_king_not_own s) n) ∙ ap (same_cell (King (other s))) (there n h);
    }

-- in turn, and back
armies-in_turn : (p : Board) (s : Side) (masks : List ℕ) → AreMasksOf p masks → AreArmies p s (in_turn s masks)
armies-in_turn p Black masks m = record { own_men = m.black_men; own_kings = m.black_kings; left_men = m.white_men; left_kings = m.white_kings }
armies-in_turn p White masks m = record { own_men = m.white_men; own_kings = m.white_kings; left_men = m.black_men; left_kings = m.black_kings }

masks-in_turn : (p : Board) (s : Side) (masks : List ℕ) → AreArmies p s masks → AreMasksOf p (in_turn s masks)
masks-in_turn p Black masks a = record { black_men = a.own_men; black_kings = a.own_kings; white_men = a.left_men; white_kings = a.left_kings }
masks-in_turn p White masks a = record { black_men = a.left_men; black_kings = a.left_kings; white_men = a.own_men; white_kings = a.own_kings }

masks_after : (p : Board) (path : List ℕ) (taken : ℕ) (masks new : List ℕ) → IsLawful p → IsLegal p path → IsMaskOf (contains (jumped path)) taken
    → AreMasksOf p masks → AreMoved p.to_move (first_square path) (last_square path) taken (in_turn p.to_move masks) new → AreMasksOf (after p path) (in_turn p.to_move new)
masks_after p path taken masks new lawful legal over before moved =
    masks-in_turn (after p path) p.to_move new (armies_after p path taken (in_turn p.to_move masks) new lawful legal over (armies-in_turn p p.to_move masks before) moved)

-- four masks, as a list of their own
abbrev pub listed : List ℕ → List ℕ
listed masks = get_or masks 0 0 ∷ get_or masks 1 0 ∷ get_or masks 2 0 ∷ get_or masks 3 0 ∷ []

-- what the calls of the code gave holds what stands there after the path
pub held_after : (p : Board) (path : List ℕ) (mover : Side) (x z taken : ℕ) (masks before moved made : List ℕ) → IsLawful p → IsLegal p path → IsMaskOf (contains (jumped path)) taken
    → mover ≡ p.to_move → x ≡ first_square path → z ≡ last_square path → AreMasksOf p masks → before ≡ in_turn mover masks → AreMoved mover x z taken before moved → made ≡ in_turn mover moved
    → AreMasksOf (after p path) (listed made)
held_after p path mover x z taken masks before moved made lawful legal over em ex ez held eb step en =
    let turned : before ≡ in_turn p.to_move masks = eb ∙ ap (λ (t : Side). in_turn t masks) em in
    let by_mover : AreMoved p.to_move x z taken before moved = subst (λ (t : Side). AreMoved t x z taken before moved) em step in
    let by_ends : AreMoved p.to_move (first_square path) (last_square path) taken before moved = subst (λ (w : ℕ). AreMoved p.to_move (first_square path) w taken before moved) ez (subst (λ (v : ℕ). AreMoved p.to_move v z taken before moved) ex by_mover) in
    let whole : AreMoved p.to_move (first_square path) (last_square path) taken (in_turn p.to_move masks) moved = subst (λ (l : List ℕ). AreMoved p.to_move (first_square path) (last_square path) taken l moved) turned by_ends in
    let there : AreMasksOf (after p path) made = subst (AreMasksOf (after p path)) (sym (en ∙ ap (λ (t : Side). in_turn t moved) em)) (masks_after p path taken masks moved lawful legal over held whole) in
    record { black_men = there.black_men; black_kings = there.black_kings; white_men = there.white_men; white_kings = there.white_kings }

-- four masks of 32 bits that hold it make the position
pub made_after : (p : Board) (path : List ℕ) (s : Side) (a b c d : ℕ) → IsLawful p → IsLegal p path → s ≡ other p.to_move → a < 2 ^ 32 → b < 2 ^ 32 → c < 2 ^ 32 → d < 2 ^ 32 → AreMasksOf (after p path) (a ∷ b ∷ c ∷ d ∷ [])
    → (are_apart (a ∷ b ∷ c ∷ d ∷ []) ≡ true) × IsLawful (board_in (a ∷ b ∷ c ∷ d ∷ []) s) × (board_in (a ∷ b ∷ c ∷ d ∷ []) s ≡ after p path)
made_after p path s a b c d lawful legal turn fa fb fc fd held =
    let made = make_position (after p path) a b c d fa fb fc fd held (after_is_lawful p path lawful legal) in (
      made.0.apart,
      subst (λ (v : Side). IsLawful (board_in (a ∷ b ∷ c ∷ d ∷ []) v)) (sym turn) made.0.lawful,
      (λ i. board_in (a ∷ b ∷ c ∷ d ∷ []) (turn i)) ∙ made.1,
    )

-- a step takes nothing
pub step_takes_nothing : (p : Board) (x z : ℕ) → is_step p x z ≡ true → IsMaskOf (contains (jumped (x ∷ z ∷ []))) 0
step_takes_nothing p x z step n h =
    let near : are_near x z ≡ true = second_so (is_square z) _ (first_so _ _ (first_so _ _ step)) in
    ap (λ b. b == 1) (bit_at-zero (n - 1)) ∙ sym (ap (λ b. contains (cond b (between x z ∷ []) []) n) (near_not_apart x z near))
