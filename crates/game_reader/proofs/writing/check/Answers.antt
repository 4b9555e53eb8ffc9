use Rattle.std.proofs.Common.{◌≤◌, Option, IfSome, subst, ◌∙◌, arith}
use Rattle.archive_records.specs.declared.game.ArchiveGame.{ArchiveGame}
use Rattle.archive_records.specs.Inside.{IsGameWithin}
use Rattle.game_reader.specs.Reading.{bytes_read}
use Rattle.game_reader.proofs.Reading.{reads_more}
use Rattle.game_reader.proofs.Told.{lists_all, writes_lines}
use Rattle.game_reader.proofs.writing.check.Goals as goal

pub returns-in_default : goal.returns-in_default
returns-in_default g c =
    let left = g.S.Source.left in
    let taken = g.K.Sink.taken in
    let before = c.games.invariant.told in
    lists_all (left c.args.source.now) (left c.games.source) (left c.next.new.source) (taken c.args.sink.now) (taken c.games.sink) (taken c.write_all.new.sink) c.last_lines.new.counts
    (bytes_read c.games.archive) (bytes_read c.next.new.self) before.0 c.in_ok-lines.lines.items c.deref.result.now
    c.games.invariant.read c.in_ok-game.ensures.read before.1.0 c.in_ok-lines.ensures.told before.1.1 c.in_ok-write_all.ensures.whole (c.deref.ensures.value ∙ c.in_ok-say.ensures)

pub games-preserved : goal.games-preserved
games-preserved g c =
    let left = g.S.Source.left in
    let taken = g.K.Sink.taken in
    let before = c.games.invariant.told in
    let bytes = bytes_read c.next.new.self in
    let counted = c.in_ok-game.ensures.read.counted in
    let later : bytes_read c.games.archive ≤ bytes = omega arith in
    let within : IsGameWithin bytes c.in-Some.game =
    subst (λ (found : Option ArchiveGame). IfSome found (IsGameWithin bytes)) c.in-Some.is c.in_ok-game.ensures.within in
    record {
      read = reads_more (left c.args.source.now) (left c.games.source) (left c.next.new.source) 0 (bytes_read c.games.archive) bytes c.games.invariant.read c.in_ok-game.ensures.read;
      told = writes_lines (taken c.args.sink.now) (taken c.games.sink) (taken c.write_all-in-games.new.sink) (bytes_read c.games.archive) bytes before.0 c.in_ok-lines-2.lines.items c.deref-in-games.result.now
          later before.1.0 (c.in_ok-lines-2.ensures bytes (c.in_ok-text_of.ensures.within bytes within)) before.1.1 c.in_ok-write_all-2.ensures.whole c.deref-in-games.ensures.value;
    }
