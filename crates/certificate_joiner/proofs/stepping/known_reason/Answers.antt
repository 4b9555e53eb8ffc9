use Rattle.std.proofs.Common.{◌≤◌, arith}
use Rattle.draughts_board.specs.Board.{piece_count}
use Rattle.certificate_joiner.specs.Shelf.{certificates_of}
use Rattle.certificate_joiner.proofs.Known.{known_by_table, known_by_part, known_by_no_move, part_is_usable}
use Rattle.certificate_joiner.proofs.stepping.known_reason.Goals as goal

pub returns-then-count-quest-clause-shows : goal.returns-then-count-quest-clause-shows
returns-then-count-quest-clause-shows c = λ known.
    let p = c.args.p.now in
    let black = c.count.ensures.value in
    let white = c.count-2.ensures.value in
    let least : piece_count p ≤ c.args.quest.pieces = omega arith in
    known_by_table c.args.quest.pieces c.requires c.args.quest.side p (certificates_of c.args.n c.args.shelf.now.puts) c.args.quest.aim known least

pub returns-in-Some : goal.returns-in-Some
returns-in-Some c =
    let shown = certificates_of c.args.n c.args.shelf.now.puts in
    record {
      usable = part_is_usable c.args.quest.pieces c.requires c.args.quest.side c.args.p.now shown c.args.quest.aim c.in-Some.one c.in-Some.ensures;
      shows = λ known. known_by_part c.args.quest.pieces c.requires c.args.quest.side c.args.p.now shown c.args.quest.aim known c.in-Some.one c.in-Some.ensures;
    }

pub returns-in-None-clause-shows : goal.returns-in-None-clause-shows
returns-in-None-clause-shows c = λ known.
    let p = c.args.p.now in
    let black = c.count.ensures.value in
    let white = c.count-2.ensures.value in
    let many : piece_count p ≤ c.args.quest.pieces → ⊥ = λ least. omega arith in
    known_by_no_move c.args.quest.pieces c.requires c.args.quest.side p (certificates_of c.args.n c.args.shelf.now.puts) c.args.quest.aim known c.in-None.ensures many
