use Rattle.std.proofs.Common.{rules}
use Rattle.std.proofs.lemmas.Result.{err_from_is_err_and}
use Rattle.pdn_openings.proofs.AllGames.{stands_here, goes_on, all_opened}
use Rattle.pdn_openings.proofs.opening.all_openings.Goals as goal

pub returns-in_err-opening-clause-refused : goal.returns-in_err-opening-clause-refused
returns-in_err-opening-clause-refused c =
    let p = err_from_is_err_and c.from_residual.result c.from_residual.ensures.1 in
    let here = stands_here c.args.plies c.args.games.now c.loop-i.found.items c.loop-i.i c.index-games-i.result c.in_err-opening.field-0.0 c.loop-i-test.true c.index-games-i.is
    c.loop-i.invariant c.in_err-opening.ensures.fault in
    rw (p.1, p.2) here

pub loop-i-preserved : goal.loop-i-preserved
loop-i-preserved c =
    goes_on c.args.plies c.args.games.now c.loop-i.found.items c.push.new.self.items c.loop-i.i c.index-games-i.result c.in_ok-opening.opening c.loop-i-test.true c.index-games-i.is
    c.loop-i.invariant c.in_ok-opening.ensures.opening (search rules)

pub returns-clause-openings : goal.returns-clause-openings
returns-clause-openings c = all_opened c.args.plies c.args.games.now c.loop-i.found.items c.loop-i.i c.loop-i-test.false c.loop-i.invariant
