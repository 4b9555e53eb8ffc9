use Rattle.std.proofs.Common.{◌≡◌, Err, IfErr, sym, subst}
use Rattle.std.specs.Bool.{OnFalse}
use Rattle.std.proofs.lemmas.Result.{on_ok_weaker}
use Rattle.draughts_board.specs.Resolution.{resolve_wants_memory}
use Rattle.pdn_openings.proofs.Ends.{meaning-read}
use Rattle.pdn_openings.specs.Playing.{squares_between}
use Rattle.strict_games.proofs.Leading.{plays_written}
use Rattle.strict_games.specs.Drafts.{unplaced}
use Rattle.strict_games.proofs.draft.Draft.play_written.Goals as goal

pub returns-clause-ok : goal.returns-clause-ok
returns-clause-ok c =
    let squares = c.path-squares.result.now in
    let read = meaning-read c.args.self.now.here (unplaced c.args.written.now) squares c.index-squares-0.result c.index-squares-last.result
    c.path-squares.ensures.value c.path-squares.ensures.least c.index-squares-0.is c.index-squares-last.is in
    on_ok_weaker c.play.result (plays_written c.args.written.now c.index-squares-0.result (squares_between squares) c.index-squares-last.result c.args.self.now c.play.new.self read) c.play.ensures.ok

pub returns-clause-refused : goal.returns-clause-refused
returns-clause-refused c =
    let squares = c.path-squares.result.now in
    let read = meaning-read c.args.self.now.here (unplaced c.args.written.now) squares c.index-squares-0.result c.index-squares-last.result
    c.path-squares.ensures.value c.path-squares.ensures.least c.index-squares-0.is c.index-squares-last.is in
    subst (λ m. IfErr c.play.result (λ cause. OnFalse (resolve_wants_memory cause) (m ≡ Err cause))) (sym read) c.play.ensures.refused
