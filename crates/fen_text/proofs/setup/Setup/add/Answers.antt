use Rattle.std.proofs.Common.{◌≡◌, ◌+◌, ◌-◌, ◌≤◌, arith}
use Rattle.fen_text.proofs.Naming.{group_begins, group_goes_on}
use Rattle.fen_text.proofs.setup.Setup.add.Goals as goal

pub loop-number-init : goal.loop-number-init
loop-number-init c = λ groups held.
    rw c.number-number.ensures.value (group_begins _ _ groups c.args.group.now.side c.args.group.now.king c.args.group.now.first c.number-number.ensures.range.0 held)

pub loop-number-preserved : goal.loop-number-preserved
loop-number-preserved c = λ groups held.
    let n = c.loop-number.number in
    let here : c.unwrap.result ≡ n = rw c.unwrap.ensures at c.new.ensures.some in
    let back : n + 1 - 1 ≡ n = omega arith in
    let from : c.args.group.now.first ≤ n = omega arith in
    let step = group_goes_on c.loop-number.self.cells c.loop-number.self.twice groups c.args.group.now.side c.args.group.now.king c.args.group.now.first n from (rw here at c.put.ensures.square) (c.loop-number.invariant groups held) in
    rw (c.put.ensures.cells, c.put.ensures.twice, here, c.piece-piece.ensures, back) step

pub returns : goal.returns
returns c = λ groups held.
    let last : c.loop-number.number - 1 ≡ c.args.group.now.last = omega arith in
    rw (← last) (c.loop-number.invariant groups held)
