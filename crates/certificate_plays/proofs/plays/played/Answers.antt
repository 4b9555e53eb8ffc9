use Rattle.std.proofs.Common.{◌∙◌, ap}
use Rattle.std.specs.Prelude.{IfErr, IfOk, Result, Ok, Err}
use Rattle.draughts_board.specs.Board.{Board}
use Rattle.draughts_board.specs.declared.pieces.Side.{Side}
use Rattle.certificate_player.specs.Choices.{Begins}
use Rattle.certificate_player.specs.Plays.{Play}
use Rattle.std.proofs.Common.{ℕ, List, Option}
use Rattle.strategy_certificate.specs.declared.certificates.Certificate.{Certificate}
use Rattle.strategy_certificate.specs.declared.oracle.Answer.{Answer}
use Rattle.certificate_plays.specs.Plays.{PlaysOut}
use Rattle.certificate_plays.specs.Refusals.{IsPlayFault}
use Rattle.certificate_plays.specs.declared.plays.FinishedPlay.{FinishedPlay}
use Rattle.certificate_plays.specs.declared.refusals.LinesRefusal.{LinesRefusal}
use Rattle.certificate_plays.proofs.PlayLemmas.{begins_own, begun_fault, begun_plays}
use Rattle.certificate_plays.proofs.plays.played.Goals as goal

as_begun : (answer : Board → Option Answer) (c : Certificate) (side : Side) (v : Play) → Begins answer c side v → (source : List ℕ) (result : Result FinishedPlay LinesRefusal)
    → IfOk result (λ play. PlaysOut v.certificate v.side source play.start play.moves.items play.end) → IfOk result (λ play. PlaysOut c side source play.start play.moves.items play.end)
as_begun answer c side v begins source (Ok play) plays = begun_plays answer c side v begins source play.start play.moves.items play.end plays
as_begun answer c side v begins source (Err r) plays = tt

as_refused : (answer : Board → Option Answer) (c : Certificate) (side : Side) (v : Play) → Begins answer c side v → (source : List ℕ) (result : Result FinishedPlay LinesRefusal)
    → IfErr result (IsPlayFault v.certificate v.side source) → IfErr result (IsPlayFault c side source)
as_refused answer c side v begins source (Ok play) fault = tt
as_refused answer c side v begins source (Err r) fault = begun_fault answer c side v begins source r fault

pub play_lines-requires-clause-begins : goal.play_lines-requires-clause-begins
play_lines-requires-clause-begins g c = begins_own (g.O.Oracle.answer_at c.args.oracle.now) c.args.proved c.args.side c.in-Ok.player c.in-Ok.ensures.begins

pub play_lines-requires-clause-pieces : goal.play_lines-requires-clause-pieces
play_lines-requires-clause-pieces g c = ap (λ (d : Certificate). d.pieces) c.in-Ok.ensures.begins.certificate ∙ c.requires

pub returns-in-Ok-clause-plays : goal.returns-in-Ok-clause-plays
returns-in-Ok-clause-plays g c =
    as_begun (g.O.Oracle.answer_at c.args.oracle.now) c.args.proved c.args.side c.in-Ok.player c.in-Ok.ensures.begins c.args.source.now c.play_lines.result c.play_lines.ensures.plays

pub returns-in-Ok-clause-refused : goal.returns-in-Ok-clause-refused
returns-in-Ok-clause-refused g c =
    as_refused (g.O.Oracle.answer_at c.args.oracle.now) c.args.proved c.args.side c.in-Ok.player c.in-Ok.ensures.begins c.args.source.now c.play_lines.result c.play_lines.ensures.refused
