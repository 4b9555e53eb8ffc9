use Rattle.std.proofs.Common.{sym, subst, arith}
use Rattle.draughts_board.specs.Board.{Board}
use Rattle.draughts_board.specs.declared.pieces.Side.TheVariants.{Black, White}
use Rattle.capture_positions.proofs.KingLemmas.{IsSparse, sparse-bare, sparse-more, sparse-lawful}
use Rattle.capture_positions.proofs.openings.three_kings.Goals as goal

pub with-requires : goal.with-requires
with-requires c =
    let bare = subst (λ (p : Board). IsSparse 0 p.cells) (sym c.bare.ensures) sparse-bare in
    sparse-lawful 1 _ Black (omega arith) (sparse-more 0 _ c.args.jump.now.start Black bare)

pub with-requires-2 : goal.with-requires-2
with-requires-2 c =
    let bare = subst (λ (p : Board). IsSparse 0 p.cells) (sym c.bare.ensures) sparse-bare in
    let one = subst (λ (p : Board). IsSparse 1 p.cells) (sym c.with.ensures) (sparse-more 0 _ c.args.jump.now.start Black bare) in
    sparse-lawful 2 _ Black (omega arith) (sparse-more 1 _ c.args.jump.now.over White one)

pub with-requires-3 : goal.with-requires-3
with-requires-3 c =
    let bare = subst (λ (p : Board). IsSparse 0 p.cells) (sym c.bare.ensures) sparse-bare in
    let one = subst (λ (p : Board). IsSparse 1 p.cells) (sym c.with.ensures) (sparse-more 0 _ c.args.jump.now.start Black bare) in
    let two = subst (λ (p : Board). IsSparse 2 p.cells) (sym c.with-2.ensures) (sparse-more 1 _ c.args.jump.now.over White one) in
    sparse-lawful 3 _ Black (omega arith) (sparse-more 2 _ c.args.beside c.args.side two)
