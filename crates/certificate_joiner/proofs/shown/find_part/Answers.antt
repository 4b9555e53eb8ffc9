use Rattle.std.proofs.Common.{arith}
use Rattle.std.specs.Prelude.{All}
use Rattle.certificate_joiner.specs.Shelf.{batches_of}
use Rattle.certificate_joiner.specs.Strategy.{ShowsNone}
use Rattle.certificate_joiner.proofs.ListLemmas.{read_there, read_more, read_all, All-flat, Contains-flat}
use Rattle.certificate_joiner.proofs.shown.find_part.Goals as goal

pub of-requires : goal.of-requires
of-requires c = let end = c.batches-i-end.ensures in let test = c.loop-i-test.true in omega (arith, end, test)

pub returns-in-Some : goal.returns-in-Some
returns-in-Some c =
    let batches = batches_of c.args.n c.args.shelf.now.puts in
    let found = c.in-Some.ensures in
    record {
      among = (found.among.0, (Contains-flat batches c.of.result.now found.among.0 (read_there batches c.loop-i.i c.of.result.now c.of.ensures) found.among.1.0, found.among.1.1));
      shows = found.shows;
      distinct = found.distinct;
    }

pub loop-i-preserved : goal.loop-i-preserved
loop-i-preserved c =
    read_more (batches_of c.args.n c.args.shelf.now.puts) c.loop-i.i c.of.result.now c.of.ensures (All (ShowsNone c.args.quest.aim c.args.quest.side)) c.loop-i.invariant c.in_default.ensures

pub returns : goal.returns
returns c =
    let batches = batches_of c.args.n c.args.shelf.now.puts in
    let end = c.batches-i-end.ensures in
    let test = c.loop-i-test.false in
    All-flat (ShowsNone c.args.quest.aim c.args.quest.side) batches
    (read_all (All (ShowsNone c.args.quest.aim c.args.quest.side)) batches c.loop-i.i (omega (arith, end, test)) c.loop-i.invariant)
