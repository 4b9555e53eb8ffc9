use Rattle.std.proofs.Common.{◌≡◌, ◌∙◌, ◌&&◌, ◌||◌, ◌==◌, not, ap, subst, ℕ, Bool}
use Rattle.std.specs.List.{list_any}
use Rattle.std.specs.Int.{bit_not, w32}
use Rattle.std.specs.Int.Bits.{bit_and, bit_or}
use Rattle.draughts_board.specs.Geometry.{IsSquare, is_square, are_jump_apart, between}
use Rattle.draughts_board.specs.Board.{cell_at}
use Rattle.draughts_board.specs.Rules.{first_square, last_square, may_go, contains, jumped}
use Rattle.draughts_board.specs.declared.pieces.Cell.{Cell}
use Rattle.swift_moves.specs.declared.ways.Way.{Way}
use Rattle.swift_moves.specs.declared.ways.Way.TheVariants.{UpLeft, UpRight, DownLeft, DownRight}
use Rattle.draughts_board.specs.Masks.{IsMaskOf, stands_in}
use Rattle.swift_moves.specs.Ways.{next_is, ways_of, opposite}
use Rattle.swift_moves.specs.Forces.{is_free, is_enemy}
use Rattle.draughts_board.proofs.Bits.{stands_in-and, stands_in-or, stands_in-not}
use Rattle.swift_moves.proofs.Shifts.{next_is-same}
use Rattle.swift_moves.proofs.Reach.{each_way, leads_behind}
use Rattle.swift_moves.proofs.CaptureMasks.{jump_parts}
use Rattle.swift_moves.proofs.captures.jump_targets.Goals as goal

pub returns : goal.returns
returns c n h =
    let p = c.args.p.now in
    let path = c.args.path.now in
    let s : ℕ = first_square path in
    let x : ℕ = last_square path in
    let here : ℕ = c.bit-here.result in
    let over : ℕ = bit_and c.args.f.now.enemies (bit_not w32 c.args.taken) in
    let may_jump : ℕ → Bool = λ y. is_enemy p y && not (contains (jumped path) y) in
    let here_same : (u : ℕ) → IsSquare u → stands_in here u ≡ (u == x) = λ u q. c.bit-here.ensures.value u q ∙ ap (λ (k : ℕ). u == k) c.last.ensures in
    let over_same : (y : ℕ) → IsSquare y → stands_in over y ≡ may_jump y = λ y q. stands_in-and c.args.f.now.enemies (bit_not w32 c.args.taken) y ∙ (λ i. c.requires.forces.enemies y q i && (stands_in-not c.args.taken y c.ranges.taken.fits q ∙ ap not (c.requires.taken y q)) i) in
    let lead = λ (w : Way) (z : ℕ). next_is (opposite w) (λ y. next_is (opposite w) (λ u. u == x) y && may_jump y) z in
    let from_here : (w : Way) (r : ℕ) → IsMaskOf (next_is (opposite w) (λ y. next_is (opposite w) (stands_in here) y && stands_in over y)) r → IsMaskOf (lead w) r =
    λ w r e y q. e y q ∙ next_is-same (opposite w) (λ v. next_is (opposite w) (stands_in here) v && stands_in over v) (λ v. next_is (opposite w) (λ u. u == x) v && may_jump v) y
    (λ v qv. λ i. next_is-same (opposite w) (stands_in here) (λ u. u == x) v here_same i && over_same v qv i) in
    let each = each_way lead c.leapt.result c.leapt-2.result c.leapt-3.result c.leapt-4.result n
    (from_here UpLeft c.leapt.result c.leapt.ensures) (from_here UpRight c.leapt-2.result c.leapt-2.ensures) (from_here DownLeft c.leapt-3.result c.leapt-3.ensures) (from_here DownRight c.leapt-4.result c.leapt-4.ensures) h in
    stands_in-and c.by_ways-landing.result (bit_or c.args.f.now.free c.bit.result) n
    ∙ (λ i. (c.by_ways-landing.ensures n h
    ∙ (λ j. list_any (λ w. each w j) (ways_of c.piece_at.result))
    ∙ ap (λ (piece : Cell). list_any (λ w. lead w n) (ways_of piece)) (c.piece_at.ensures ∙ ap (cell_at p) c.first-start.ensures)
    ∙ leads_behind may_jump (cell_at p s) x n (subst IsSquare c.last.ensures c.bit-here.ensures.range) h) i
    && (stands_in-or c.args.f.now.free c.bit.result n ∙ (λ j. c.requires.forces.free n h j || (c.bit.ensures.value n h ∙ ap (λ (k : ℕ). n == k) c.first-start.ensures) j)) i)
    ∙ jump_parts (is_square n && are_jump_apart x n && may_go (cell_at p s) x n) (is_enemy p (between x n)) (not (contains (jumped path) (between x n))) (is_free p n) (n == s)
