use Rattle.std.proofs.Common.{◌∙◌, ◌||◌, ◌==◌, ap, sym, ℕ}
use Rattle.draughts_board.specs.Geometry.{between}
use Rattle.draughts_board.proofs.Bits.{stands_in-or}
use Rattle.swift_moves.proofs.CaptureMasks.{jumped-more}
use Rattle.swift_moves.proofs.captures.with_jump.Goals as goal

pub returns : goal.returns
returns c n h =
    stands_in-or c.args.taken c.bit.result n
    ∙ (λ i. c.requires.taken n h i || (c.bit.ensures.value n h ∙ ap (λ (y : ℕ). n == y) (c.between.ensures ∙ ap (λ (x : ℕ). between x c.args.to) c.last.ensures)) i)
    ∙ sym (jumped-more c.args.path.now c.args.to n c.requires.some c.requires.jump)
