use Rattle.draughts_board.specs.declared.pieces.Side.TheVariants.{Black, White}
use Rattle.proved_book.proofs.Adding.{hold_side, map_ok, takes_both}
use Rattle.proved_book.proofs.book.Book.take_both.Goals as goal

pub returns-clause-added : goal.returns-clause-added
returns-clause-added c =
    let h = c.in-Hold-Hold.black in
    let w = c.in-Hold-Hold.white in
    map_ok c.add_holds.result
    (takes_both c.args.self.now c.add_holds.new.self c.args.black.now c.args.white.now h w c.in-Hold-Hold.is-0 c.in-Hold-Hold.is-1
    (hold_side c.args.black.now h Black c.in-Hold-Hold.is-0 c.requires.black) (hold_side c.args.white.now w White c.in-Hold-Hold.is-1 c.requires.white))
    c.add_holds.ensures.added
