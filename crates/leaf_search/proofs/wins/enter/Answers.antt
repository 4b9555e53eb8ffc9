use Rattle.std.proofs.Common.{◌<◌, ◌^◌, length, refl, arith}
use Rattle.leaf_search.proofs.WinLemmas.{Finds-entry, Finds-new}
use Rattle.leaf_search.proofs.wins.enter.Goals as goal

pub returns-in-Some : goal.returns-in-Some
returns-in-Some g c =
    Finds-entry (g.O.Oracle.answer_at c.args.oracle.now) c.args.part.now c.requires.steady c.args.p.now c.in-Some.entry ((c.in-Some.ensures.found c.in-Some.entry).0 refl)

pub returns : goal.returns
returns g c =
    let room : length c.args.part.now.entries < 2 ^ 32 = (let size = c.len.ensures.value in let room = c.if-len-ge-MOST_ENTRIES.false in omega (arith, size, room)) in
    Finds-new (g.O.Oracle.answer_at c.args.oracle.now) c.args.part.now c.add.new.self c.args.p.now (record { rank = c.args.rank; chosen = c.args.chosen }) c.in_ok-add.ensures.ok
    c.requires.steady room c.requires.lawful c.requires.due c.requires.below c.requires.low
