use Rattle.std.proofs.Common.{◌≡◌, ◌∙◌, ◌==◌, ◌&&◌, ◌||◌, ℕ, true, false, ap, sym}
use Rattle.draughts_board.specs.Geometry.{are_jump_apart, between}
use Rattle.draughts_board.specs.Masks.{stands_in}
use Rattle.draughts_board.proofs.Bits.{stands_in-or}
use Rattle.swift_moves.proofs.masks_moved.with_jumped.Goals as goal

pub returns-then-is_jump_apart : goal.returns-then-is_jump_apart
returns-then-is_jump_apart c n h =
    let x : ℕ = c.args.«from» in
    let z : ℕ = c.args.to in
    let apart : are_jump_apart x z ≡ true = sym c.is_jump_apart.ensures ∙ c.if-is_jump_apart.true in
    stands_in-or c.bit-over.result c.args.mask n
    ∙ ap (λ b. b || stands_in c.args.mask n) (c.bit-over.ensures.value n h ∙ ap (λ (y : ℕ). n == y) c.between.ensures ∙ ap (λ b. b && n == between x z) (sym apart))

pub returns-else-is_jump_apart : goal.returns-else-is_jump_apart
returns-else-is_jump_apart c n h =
    let x : ℕ = c.args.«from» in
    let z : ℕ = c.args.to in
    let apart : are_jump_apart x z ≡ false = sym c.is_jump_apart.ensures ∙ c.if-is_jump_apart.false in
    ap (λ b. (b && n == between x z) || stands_in c.args.mask n) (sym apart)
