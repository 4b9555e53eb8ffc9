use Rattle.std.proofs.Common.{ℕ, List, get_or, sym, refl}
use Rattle.std.specs.Int.Bits.{bit_or}
use Rattle.draughts_board.specs.declared.pieces.Side.TheVariants.{Black, White}
use Rattle.swift_moves.specs.declared.forces.Forces.{Forces}
use Rattle.swift_moves.proofs.ForcesOf.{forces_are}
use Rattle.swift_moves.proofs.forces.Forces.of.Goals as goal

pub returns-in-Black-clause-masks : goal.returns-in-Black-clause-masks
returns-in-Black-clause-masks c =
    let m : List ℕ = c.masks.result in
    let f : Forces = record { mover = Black; men = get_or m 0 0; kings = get_or m 1 0; enemies = bit_or (get_or m 2 0) (get_or m 3 0); free = c.outside-free.result } in
    forces_are c.args.p.now m f c.masks.ensures.squares (sym c.in-Black.ensures.value) c.outside-free.ensures Black (sym c.in-Black.ensures.value) (refl, refl, refl)

pub returns-in-White-clause-masks : goal.returns-in-White-clause-masks
returns-in-White-clause-masks c =
    let m : List ℕ = c.masks.result in
    let f : Forces = record { mover = White; men = get_or m 2 0; kings = get_or m 3 0; enemies = bit_or (get_or m 0 0) (get_or m 1 0); free = c.outside-free.result } in
    forces_are c.args.p.now m f c.masks.ensures.squares (sym c.in-White.ensures.value) c.outside-free.ensures White (sym c.in-White.ensures.value) (refl, refl, refl)
