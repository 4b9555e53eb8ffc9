-- Where the ways of a piece lead, computed once over all pairs of squares.
use Rattle.std.proofs.Common.{◌≡◌, ℕ, ◌+◌, ◌-◌, ◌<◌, Bool, false, ◌&&◌, ◌||◌, ◌==◌, List, [], get_or, refl, sym, ◌∙◌, ap, arith}
use Rattle.std.specs.Prelude.{map}
use Rattle.std.specs.List.{list_any, range_with_len}
use Rattle.std.proofs.Math.Bool.{or-false}
use Rattle.std.proofs.lemmas.List.FromFn.{get_or-map-range_with_len}
use Rattle.draughts_board.specs.Geometry.{IsSquare, is_square, are_near, are_jump_apart, between}
use Rattle.draughts_board.specs.Rules.{may_go}
use Rattle.draughts_board.specs.declared.pieces.Side.{Side}
use Rattle.draughts_board.specs.declared.pieces.Side.TheVariants.{Black, White}
use Rattle.draughts_board.specs.declared.pieces.Cell.{Cell}
use Rattle.draughts_board.specs.declared.pieces.Cell.TheVariants.{Empty, Man, King}
use Rattle.swift_moves.specs.declared.ways.Way.{Way}
use Rattle.std.specs.Int.Bits.{bit_or}
use Rattle.swift_moves.specs.declared.ways.Way.TheVariants.{UpLeft, UpRight, DownLeft, DownRight}
use Rattle.draughts_board.specs.Masks.{IsMaskOf, stands_in}
use Rattle.swift_moves.specs.Ways.{next, next_is, ways_of, opposite, of_way, forward}
use Rattle.draughts_board.proofs.Bits.{stands_in-or}
use Rattle.swift_moves.proofs.Shifts.{test_at}

row_at : (f g : ℕ → List Bool) → map f (range_with_len 1 32) ≡ map g (range_with_len 1 32) → (x : ℕ) → IsSquare x → f x ≡ g x
row_at f g e x h =
    let place : x - 1 < 32 = omega (arith, h.0, h.1) in
    let back : 1 + (x - 1) ≡ x = omega (arith, h.0) in
    sym (get_or-map-range_with_len f 1 32 (x - 1) x [] place back) ∙ ap (λ l. get_or l (x - 1) []) e ∙ get_or-map-range_with_len g 1 32 (x - 1) x [] place back

pub pair_at : (f g : ℕ → ℕ → Bool) → map (λ x. map (f x) (range_with_len 1 32)) (range_with_len 1 32) ≡ map (λ x. map (g x) (range_with_len 1 32)) (range_with_len 1 32) → (x z : ℕ) → IsSquare x → IsSquare z → f x z ≡ g x z
pair_at f g e x z hx hz = test_at (f x) (g x) (row_at (λ y. map (f y) (range_with_len 1 32)) (λ y. map (g y) (range_with_len 1 32)) e x hx) z hz

-- where a piece steps to
abbrev pub lies_near : Cell → ℕ → ℕ → Bool
lies_near c x z = is_square z && are_near x z && may_go c x z

abbrev leads : Cell → ℕ → ℕ → Bool
leads c x z = list_any (λ w. next_is (opposite w) (λ u. u == x) z) (ways_of c)

pub leads_near : (c : Cell) (x z : ℕ) → IsSquare x → IsSquare z → list_any (λ w. next_is (opposite w) (λ u. u == x) z) (ways_of c) ≡ (is_square z && are_near x z && may_go c x z)
unfolding next
leads_near Empty = pair_at (leads Empty) (lies_near Empty) refl
leads_near (Man Black) = pair_at (leads (Man Black)) (lies_near (Man Black)) refl
leads_near (Man White) = pair_at (leads (Man White)) (lies_near (Man White)) refl
leads_near (King s) = pair_at (leads (King s)) (lies_near (King s)) refl

-- where a piece jumps to, over what may be jumped over
abbrev lies_behind : (ℕ → Bool) → Cell → ℕ → ℕ → Bool
lies_behind over c x z = (is_square z && are_jump_apart x z && may_go c x z && over (between x z)) || false

abbrev leaps_to : (ℕ → Bool) → Cell → ℕ → ℕ → Bool
leaps_to over c x z = list_any (λ w. next_is (opposite w) (λ y. next_is (opposite w) (λ u. u == x) y && over y) z) (ways_of c)

leaps_behind : (over : ℕ → Bool) (c : Cell) (x z : ℕ) → IsSquare x → IsSquare z → leaps_to over c x z ≡ lies_behind over c x z
unfolding next
leaps_behind over Empty = pair_at (leaps_to over Empty) (lies_behind over Empty) refl
leaps_behind over (Man Black) = pair_at (leaps_to over (Man Black)) (lies_behind over (Man Black)) refl
leaps_behind over (Man White) = pair_at (leaps_to over (Man White)) (lies_behind over (Man White)) refl
leaps_behind over (King s) = pair_at (leaps_to over (King s)) (lies_behind over (King s)) refl

pub leads_behind : (over : ℕ → Bool) (c : Cell) (x z : ℕ) → IsSquare x → IsSquare z
    → list_any (λ w. next_is (opposite w) (λ y. next_is (opposite w) (λ u. u == x) y && over y) z) (ways_of c) ≡ (is_square z && are_jump_apart x z && may_go c x z && over (between x z))
leads_behind over c x z hx hz = leaps_behind over c x z hx hz ∙ or-false (is_square z && are_jump_apart x z && may_go c x z && over (between x z))

-- ---- the masks of several ways together

pub each_way : (t : Way → ℕ → Bool) (a b c d n : ℕ) → IsMaskOf (t UpLeft) a → IsMaskOf (t UpRight) b → IsMaskOf (t DownLeft) c → IsMaskOf (t DownRight) d → IsSquare n → (w : Way) → stands_in (of_way a b c d w) n ≡ t w n
each_way t a b c d n ha hb hc hd h UpLeft = ha n h
each_way t a b c d n ha hb hc hd h UpRight = hb n h
each_way t a b c d n ha hb hc hd h DownLeft = hc n h
each_way t a b c d n ha hb hc hd h DownRight = hd n h

pub two_ways : (a b n : ℕ) → stands_in (bit_or a b) n ≡ (stands_in a n || (stands_in b n || false))
two_ways a b n = stands_in-or a b n ∙ ap (λ r. stands_in a n || r) (sym (or-false (stands_in b n)))

pub four_ways : (a b c d n : ℕ) → stands_in (bit_or a (bit_or b (bit_or c d))) n ≡ (stands_in a n || (stands_in b n || (stands_in c n || (stands_in d n || false))))
four_ways a b c d n = stands_in-or a (bit_or b (bit_or c d)) n ∙ ap (λ r. stands_in a n || r) (stands_in-or b (bit_or c d) n ∙ ap (λ r. stands_in b n || r) (two_ways c d n))

pub man_ways : (s : Side) (a b c d n : ℕ) → stands_in (forward s (bit_or a b) (bit_or c d)) n ≡ list_any (λ w. stands_in (of_way a b c d w) n) (ways_of (Man s))
man_ways Black a b c d n = two_ways c d n
man_ways White a b c d n = two_ways a b n
