use Rattle.std.proofs.Common.{◌∙◌, ap, arith, sym}
use Rattle.std.specs.Prelude.{is_some}
use Rattle.draughts_board.specs.Board.{same_board}
use Rattle.position_rows.specs.Rows.{positions_of}
use Rattle.bench_records.proofs.Numbering.{position_some}
use Rattle.bench_records.proofs.Rowed.{place_inside, tells_there}
use Rattle.bench_records.proofs.named.Named.find.Goals as goal

pub overflow_cast-result : goal.overflow_cast-result
overflow_cast-result c =
    let inside = place_inside (positions_of c.self.inside.positions.entries) c.args.p.now c.in_ok-n.n c.in_ok-n.ensures in
    omega (arith, inside)

pub returns-clause-some : goal.returns-clause-some
returns-clause-some c =
    let some = sym (ap is_some c.in_ok-n.ensures ∙ tells_there (positions_of c.self.inside.positions.entries) c.args.p.now) in
    rw (← c.self.view_is) (some, sym (position_some (same_board c.args.p.now) (positions_of c.self.inside.positions.entries) c.in_ok-n.n c.in_ok-n.ensures))

pub returns-in_err-n-clause-none : goal.returns-in_err-n-clause-none
returns-in_err-n-clause-none c =
    let none = sym (ap is_some c.in_err-n.ensures ∙ tells_there (positions_of c.self.inside.positions.entries) c.args.p.now) in
    rw (c.from_residual.ensures, ← c.self.view_is) none
