-- The pieces that go one of their ways.
use Rattle.std.proofs.Common.{◌≡◌, ℕ, Bool, true, false, ◌&&◌, ◌||◌, refl, sym, ◌∙◌, ap}
use Rattle.std.specs.List.{list_any}
use Rattle.draughts_board.specs.Geometry.{is_square}
use Rattle.draughts_board.specs.Board.{Board, cell_at, belongs}
use Rattle.draughts_board.specs.declared.pieces.Side.{Side}
use Rattle.draughts_board.specs.declared.pieces.Side.TheVariants.{Black, White}
use Rattle.draughts_board.specs.declared.pieces.Cell.{Cell}
use Rattle.draughts_board.specs.declared.pieces.Cell.TheVariants.{Empty, Man, King}
use Rattle.swift_moves.specs.declared.ways.Way.{Way}
use Rattle.swift_moves.specs.declared.ways.Way.TheVariants.{UpLeft, UpRight, DownLeft, DownRight}
use Rattle.std.specs.Int.Bits.{bit_and, bit_or}
use Rattle.draughts_board.specs.Rules.{is_own}
use Rattle.swift_moves.specs.declared.forces.Forces.{Forces}
use Rattle.draughts_board.specs.Masks.{IsMaskOf, stands_in}
use Rattle.swift_moves.specs.Forces.{AreForces, is_man, is_king_of}
use Rattle.swift_moves.specs.Ways.{forward, ways_of}
use Rattle.draughts_board.proofs.Bits.{stands_in-and, stands_in-or}
use Rattle.draughts_board.proofs.OnSquares.{square_is}

two : (a b : Bool) → ((a || b) || false) ≡ (a || (b || false))
two true b = refl
two false b = refl

four : (a b c d : Bool) → ((a || b) || (c || d)) ≡ (a || (b || (c || (d || false))))
four true b c d = refl
four false true c d = refl
four false false true d = refl
four false false false true = refl
four false false false false = refl

pub going_law : (s : Side) (c : Cell) (open_way : Way → Bool)
    → ((is_man s c && forward s (open_way UpLeft || open_way UpRight) (open_way DownLeft || open_way DownRight)) || (is_king_of s c && ((open_way UpLeft || open_way UpRight) || (open_way DownLeft || open_way DownRight))))
    ≡ (belongs s c && list_any open_way (ways_of c))
going_law s Empty o = refl
going_law Black (Man Black) o = two (o DownLeft) (o DownRight)
going_law Black (Man White) o = refl
going_law White (Man Black) o = refl
going_law White (Man White) o = two (o UpLeft) (o UpRight)
going_law Black (King Black) o = four (o UpLeft) (o UpRight) (o DownLeft) (o DownRight)
going_law Black (King White) o = refl
going_law White (King Black) o = refl
going_law White (King White) o = four (o UpLeft) (o UpRight) (o DownLeft) (o DownRight)

forward-stands : (s : Side) (up down n : ℕ) (u d : Bool) → stands_in up n ≡ u → stands_in down n ≡ d → stands_in (forward s up down) n ≡ forward s u d
forward-stands Black up down n u d eu ed = ed
forward-stands White up down n u d eu ed = eu

-- the mask of the mover's pieces for which one of their ways is open
pub going_pieces : (p : Board) (f : Forces) (open_way : Way → ℕ → Bool) (up down r : ℕ) → AreForces p f
    → IsMaskOf (λ n. open_way UpLeft n || open_way UpRight n) up → IsMaskOf (λ n. open_way DownLeft n || open_way DownRight n) down
    → IsMaskOf (λ n. (stands_in f.men n && stands_in (forward f.mover up down) n) || (stands_in f.kings n && (stands_in up n || stands_in down n))) r
    → IsMaskOf (λ n. is_own p n && list_any (λ w. open_way w n) (ways_of (cell_at p n))) r
going_pieces p f open_way up down r forces hu hd hr n h =
    let ahead : stands_in (forward f.mover up down) n ≡ forward p.to_move (open_way UpLeft n || open_way UpRight n) (open_way DownLeft n || open_way DownRight n) =
    ap (λ (s : Side). stands_in (forward s up down) n) (sym forces.mover) ∙ forward-stands p.to_move up down n _ _ (hu n h) (hd n h) in
    let square : is_square n ≡ true = square_is n h in
    hr n h
    ∙ (λ i. (forces.men n h i && ahead i) || (forces.kings n h i && (hu n h i || hd n h i)))
    ∙ going_law p.to_move (cell_at p n) (λ w. open_way w n)
    ∙ sym (ap (λ b. b && belongs p.to_move (cell_at p n) && list_any (λ w. open_way w n) (ways_of (cell_at p n))) square)

-- the or of two masks
pub either_mask : (f g : ℕ → Bool) (a b : ℕ) → IsMaskOf f a → IsMaskOf g b → IsMaskOf (λ n. f n || g n) (bit_or a b)
either_mask f g a b ha hb n h = stands_in-or a b n ∙ (λ i. ha n h i || hb n h i)

pub both_mask : (f g : ℕ → Bool) (a b : ℕ) → IsMaskOf f a → IsMaskOf g b → IsMaskOf (λ n. f n && g n) (bit_and a b)
both_mask f g a b ha hb n h = stands_in-and a b n ∙ (λ i. ha n h i && hb n h i)

or_false : (b : Bool) → (b || false) ≡ b
or_false true = refl
or_false false = refl

-- a side's pieces are its men and its kings
pub man_or_king : (s : Side) (c : Cell) → (is_man s c || is_king_of s c) ≡ belongs s c
man_or_king s Empty = refl
man_or_king s (Man t) = or_false (belongs s (Man t))
man_or_king s (King t) = refl
