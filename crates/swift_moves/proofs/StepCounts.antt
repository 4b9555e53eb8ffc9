-- How many steps there are, counted way by way.
use Rattle.std.proofs.Common.{◌≡◌, ℕ, suc, ◌+◌, ◌-◌, ◌<◌, ◌^◌, Bool, true, false, cond, ◌&&◌, ◌||◌, ◌==◌, List, [], ◌∷◌, length, map, get_or, refl, sym, ◌∙◌, ap, arith}
use Rattle.std.specs.Prelude.{filter, flat_map}
use Rattle.std.specs.List.{list_any, range_with_len}
use Rattle.std.specs.Int.RustNames.{count_ones}
use Rattle.std.proofs.Math.Bool.{or-false}
use Rattle.std.proofs.lemmas.List.{length-append}
use Rattle.std.proofs.lemmas.List.Sums.{length-filter}
use Rattle.std.proofs.lemmas.List.FromFn.{get_or-map-range_with_len}
use Rattle.std.proofs.lemmas.Nat.Bits.{bit_at-zero}
use Rattle.draughts_board.specs.Geometry.{IsSquare, squares, is_square, are_near}
use Rattle.draughts_board.specs.Board.{Board, cell_at}
use Rattle.draughts_board.specs.Rules.{is_own, is_step, may_go}
use Rattle.draughts_board.specs.Play.{steps, steps_from}
use Rattle.draughts_board.specs.Masks.{IsMaskOf, stands_in}
use Rattle.draughts_board.specs.declared.pieces.Side.TheVariants.{Black, White}
use Rattle.draughts_board.specs.declared.pieces.Cell.{Cell}
use Rattle.draughts_board.specs.declared.pieces.Cell.TheVariants.{Empty, Man, King}
use Rattle.draughts_board.proofs.CountMasks.{ones-stands_in}
use Rattle.draughts_board.proofs.OnSquares.{filter-on_squares, square_so}
use Rattle.std.specs.Cmp.{first_so}
use Rattle.swift_moves.specs.declared.ways.Way.{Way}
use Rattle.swift_moves.specs.declared.ways.Way.TheVariants.{UpLeft, UpRight, DownLeft, DownRight}
use Rattle.swift_moves.specs.declared.forces.Forces.{Forces}
use Rattle.swift_moves.specs.Ways.{forward, next, next_is, ways_of}
use Rattle.swift_moves.specs.Forces.{AreForces, is_free}
use Rattle.swift_moves.proofs.Going.{going_pieces}
use Rattle.swift_moves.proofs.Shifts.{next_is-same}

-- ---- counting

-- how many elements pass the test
abbrev tally : {X : Type 0} → (X → Bool) → List X → ℕ
tally f [] = 0
tally f (x ∷ xs) = cond (f x) (suc (tally f xs)) (tally f xs)

length-kept : (b : Bool) (x : ℕ) (xs : List ℕ) → length (cond b (x ∷ xs) xs) ≡ cond b (suc (length xs)) (length xs)
length-kept true x xs = refl
length-kept false x xs = refl

length-tally : (f : ℕ → Bool) (xs : List ℕ) → length (filter f xs) ≡ tally f xs
length-tally f [] = refl
length-tally f (x ∷ xs) = length-kept (f x) x (filter f xs) ∙ ap (λ n. cond (f x) (suc n) n) (length-tally f xs)

-- the ones of a mask are the squares that pass its test
ones-test : (test : ℕ → Bool) (m : ℕ) → m < 2 ^ 32 → IsMaskOf test m → count_ones m ≡ tally test squares
ones-test test m fits h = ones-stands_in m fits ∙ sym (length-filter (stands_in m) squares) ∙ ap length (filter-on_squares (stands_in m) test h) ∙ length-tally test squares

-- a list of one for each is as long
length-singles : {Y : Type 0} (g : ℕ → Y) (zs : List ℕ) → length (flat_map (λ z. g z ∷ []) zs) ≡ length zs
length-singles g [] = refl
length-singles g (z ∷ zs) = ap suc (length-singles g zs)

-- ---- one piece

-- of four, that of the way
abbrev at_way : {A : Type 0} → A → A → A → A → Way → A
at_way a b c d UpLeft = a
at_way a b c d UpRight = b
at_way a b c d DownLeft = c
at_way a b c d DownRight = d

number_at : (f g : ℕ → ℕ) → map f (range_with_len 1 32) ≡ map g (range_with_len 1 32) → (x : ℕ) → IsSquare x → f x ≡ g x
number_at f g e x h =
    let place : x - 1 < 32 = omega (arith, h.0, h.1) in
    let back : 1 + (x - 1) ≡ x = omega (arith, h.0) in
    sym (get_or-map-range_with_len f 1 32 (x - 1) x 0 place back) ∙ ap (λ l. get_or l (x - 1) 0) e ∙ get_or-map-range_with_len g 1 32 (x - 1) x 0 place back

-- how many steps a piece on x has, and how many of its ways are open
abbrev steps_at : Cell → (ℕ → Bool) → ℕ → ℕ
steps_at c free x = tally (λ z. is_square z && are_near x z && may_go c x z && free z) squares

abbrev ways_at : Cell → (ℕ → Bool) → ℕ → ℕ
ways_at c free x = tally (λ w. next_is w free x) (ways_of c)

steps_are_ways : (c : Cell) (free : ℕ → Bool) (x : ℕ) → IsSquare x → steps_at c free x ≡ ways_at c free x
unfolding squares next
steps_are_ways Empty free = number_at (steps_at Empty free) (ways_at Empty free) refl
steps_are_ways (Man Black) free = number_at (steps_at (Man Black) free) (ways_at (Man Black) free) refl
steps_are_ways (Man White) free = number_at (steps_at (Man White) free) (ways_at (Man White) free) refl
steps_are_ways (King s) free = number_at (steps_at (King s) free) (ways_at (King s) free) refl

none : (m k : ℕ) → m ≡ k → 0 + m ≡ k
none m k e = omega (arith, e)

one : (b : Bool) (m k : ℕ) → m ≡ k → cond (b || false) 1 0 + m ≡ cond b (suc k) k
one true m k e = omega (arith, e)
one false m k e = omega (arith, e)

last_one : (b : Bool) → ◌≡◌ {A = ℕ} (cond (b || false) 1 0) (cond b (suc 0) 0)
last_one true = refl
last_one false = refl

-- a piece's open ways, one way after the other
ways_apart : (c : Cell) (o : Way → Bool)
    → cond (list_any (at_way (o UpLeft) false false false) (ways_of c)) 1 0
    + (cond (list_any (at_way false (o UpRight) false false) (ways_of c)) 1 0
    + (cond (list_any (at_way false false (o DownLeft) false) (ways_of c)) 1 0
    + cond (list_any (at_way false false false (o DownRight)) (ways_of c)) 1 0))
    ≡ tally o (ways_of c)
ways_apart Empty o = refl
ways_apart (Man Black) o = none _ _ (none _ _ (one (o DownLeft) _ _ (last_one (o DownRight))))
ways_apart (Man White) o = one (o UpLeft) _ _ (one (o UpRight) 0 0 refl)
ways_apart (King s) o = one (o UpLeft) _ _ (one (o UpRight) _ _ (one (o DownLeft) _ _ (last_one (o DownRight))))

-- ---- all pieces

-- the piece on x is the mover's and may step the one way that stands in the tests
abbrev goes_by : Board → (Way → ℕ → Bool) → ℕ → Bool
goes_by p open_way x = is_own p x && list_any (λ w. open_way w x) (ways_of (cell_at p x))

abbrev up_left : Board → Way → ℕ → Bool
up_left p w x = at_way (next_is UpLeft (is_free p) x) false false false w

abbrev up_right : Board → Way → ℕ → Bool
up_right p w x = at_way false (next_is UpRight (is_free p) x) false false w

abbrev down_left : Board → Way → ℕ → Bool
down_left p w x = at_way false false (next_is DownLeft (is_free p) x) false w

abbrev down_right : Board → Way → ℕ → Bool
down_right p w x = at_way false false false (next_is DownRight (is_free p) x) w

shared : (b : Bool) (n : ℕ) (t u v w : Bool) → (b ≡ true → n ≡ cond t 1 0 + (cond u 1 0 + (cond v 1 0 + cond w 1 0)))
    → cond b n 0 ≡ cond (b && t) 1 0 + (cond (b && u) 1 0 + (cond (b && v) 1 0 + cond (b && w) 1 0))
shared true n t u v w h = h refl
shared false n t u v w h = refl

shares : (p : Board) (x : ℕ) → cond (is_own p x) (length (steps_from p x)) 0
    ≡ cond (goes_by p (up_left p) x) 1 0 + (cond (goes_by p (up_right p) x) 1 0 + (cond (goes_by p (down_left p) x) 1 0 + cond (goes_by p (down_right p) x) 1 0))
shares p x =
    shared (is_own p x) (length (steps_from p x)) _ _ _ _ (λ own.
    length-singles (λ z. x ∷ z ∷ []) (filter (is_step p x) squares) ∙ length-tally (is_step p x) squares
    ∙ steps_are_ways (cell_at p x) (is_free p) x (square_so x (first_so _ _ own))
    ∙ sym (ways_apart (cell_at p x) (λ w. next_is w (is_free p) x)))

length-flat_map-kept : {Y : Type 0} (f : ℕ → List Y) (b : Bool) (x : ℕ) (xs : List ℕ) → length (flat_map f (cond b (x ∷ xs) xs)) ≡ cond b (length (f x)) 0 + length (flat_map f xs)
length-flat_map-kept f true x xs = length-append (f x) (flat_map f xs)
length-flat_map-kept f false x xs = omega arith

four_more : (a b c d k l m n : ℕ) → (a + (b + (c + d))) + (k + (l + (m + n))) ≡ (a + k) + ((b + l) + ((c + m) + (d + n)))
four_more a b c d k l m n = omega arith

tally-more : (b : Bool) (m : ℕ) → cond b 1 0 + m ≡ cond b (suc m) m
tally-more true m = omega arith
tally-more false m = omega arith

counted : {Y : Type 0} (f : ℕ → List Y) (a t u v w : ℕ → Bool) → ((x : ℕ) → cond (a x) (length (f x)) 0 ≡ cond (t x) 1 0 + (cond (u x) 1 0 + (cond (v x) 1 0 + cond (w x) 1 0)))
    → (xs : List ℕ) → length (flat_map f (filter a xs)) ≡ tally t xs + (tally u xs + (tally v xs + tally w xs))
counted f a t u v w h [] = refl
counted f a t u v w h (x ∷ xs) =
    length-flat_map-kept f (a x) x (filter a xs) ∙ (λ i. h x i + counted f a t u v w h xs i)
    ∙ four_more (cond (t x) 1 0) (cond (u x) 1 0) (cond (v x) 1 0) (cond (w x) 1 0) (tally t xs) (tally u xs) (tally v xs) (tally w xs)
    ∙ (λ i. tally-more (t x) (tally t xs) i + (tally-more (u x) (tally u xs) i + (tally-more (v x) (tally v xs) i + tally-more (w x) (tally w xs) i)))

steps_tallied : (p : Board) → length (steps p) ≡ tally (goes_by p (up_left p)) squares + (tally (goes_by p (up_right p)) squares + (tally (goes_by p (down_left p)) squares + tally (goes_by p (down_right p)) squares))
unfolding steps
steps_tallied p = counted (steps_from p) (is_own p) (goes_by p (up_left p)) (goes_by p (up_right p)) (goes_by p (down_left p)) (goes_by p (down_right p)) (shares p) squares

-- ---- the masks

none_stand : IsMaskOf (λ n. false) 0
none_stand n h = ap (λ b. b == 1) (bit_at-zero (n - 1))

-- what `going` says of the masks that it is given
abbrev pub GoesBy : Forces → ℕ → ℕ → ℕ → Type 0
GoesBy f up down r = IsMaskOf (λ n. (stands_in f.men n && stands_in (forward f.mover up down) n) || (stands_in f.kings n && (stands_in up n || stands_in down n))) r

module _ (p : Board) (f : Forces) (forces : AreForces p f) where
  from_free : (w : Way) (r : ℕ) → IsMaskOf (next_is w (stands_in f.free)) r → IsMaskOf (next_is w (is_free p)) r
  from_free w r e y s = e y s ∙ next_is-same w (stands_in f.free) (is_free p) y forces.free

  ones_up : (open_way : Way → ℕ → Bool) (up r : ℕ) → r < 2 ^ 32 → IsMaskOf (λ n. open_way UpLeft n || open_way UpRight n) up → IsMaskOf (λ n. open_way DownLeft n || open_way DownRight n) 0 → GoesBy f up 0 r → count_ones r ≡ tally (goes_by p open_way) squares
  ones_up open_way up r fits hu hd hr = ones-test (goes_by p open_way) r fits (going_pieces p f open_way up 0 r forces hu hd hr)

  ones_down : (open_way : Way → ℕ → Bool) (down r : ℕ) → r < 2 ^ 32 → IsMaskOf (λ n. open_way UpLeft n || open_way UpRight n) 0 → IsMaskOf (λ n. open_way DownLeft n || open_way DownRight n) down → GoesBy f 0 down r → count_ones r ≡ tally (goes_by p open_way) squares
  ones_down open_way down r fits hu hd hr = ones-test (goes_by p open_way) r fits (going_pieces p f open_way 0 down r forces hu hd hr)

  pub steps_counted : (a b c d : ℕ) (ra rb rc rd : ℕ) → ra < 2 ^ 32 → rb < 2 ^ 32 → rc < 2 ^ 32 → rd < 2 ^ 32
      → IsMaskOf (next_is UpLeft (stands_in f.free)) a → IsMaskOf (next_is UpRight (stands_in f.free)) b → IsMaskOf (next_is DownLeft (stands_in f.free)) c → IsMaskOf (next_is DownRight (stands_in f.free)) d
      → GoesBy f a 0 ra → GoesBy f b 0 rb → GoesBy f 0 c rc → GoesBy f 0 d rd
      → count_ones ra + (count_ones rb + (count_ones rc + count_ones rd)) ≡ length (steps p)
  steps_counted a b c d ra rb rc rd fa fb fc fd ha hb hc hd ga gb gc gd =
      (λ i. ones_up (up_left p) a ra fa (λ n h. from_free UpLeft a ha n h ∙ sym (or-false (next_is UpLeft (is_free p) n))) none_stand ga i
      + (ones_up (up_right p) b rb fb (from_free UpRight b hb) none_stand gb i
      + (ones_down (down_left p) c rc fc none_stand (λ n h. from_free DownLeft c hc n h ∙ sym (or-false (next_is DownLeft (is_free p) n))) gc i
      + ones_down (down_right p) d rd fd none_stand (from_free DownRight d hd) gd i)))
      ∙ sym (steps_tallied p)
