use Rattle.std.proofs.Common.{refl, ◌∙◌}
use Rattle.certificate_player.specs.Plays.{here}
use Rattle.pdn_openings.proofs.Ends.{meaning-read}
use Rattle.pdn_text.specs.declared.game.MoveText.{MoveText}
use Rattle.certificate_plays.specs.Lines.{IsMoveLine}
use Rattle.certificate_plays.proofs.LineLemmas.{found_none, found_some}
use Rattle.certificate_plays.proofs.PlayLemmas.{left_there, lost_there, unheard_is}
use Rattle.certificate_plays.proofs.plays.hear.Goals as goal

pub returns-then-not-has_move-clause-refused : goal.returns-then-not-has_move-clause-refused
returns-then-not-has_move-clause-refused g c =
    (refl, (c.position-position.ensures.value, lost_there (here c.args.player.now) c.position-position.result c.has_move.result c.position-position.ensures.value c.has_move.ensures.listed c.if-not-has_move.true))

pub returns-in_default-clause-refused : goal.returns-in_default-clause-refused
returns-in_default-clause-refused g c = (
  refl,
  (
    c.position-position.ensures.value,
    (
      left_there (here c.args.player.now) c.position-position.result c.has_move.result c.position-position.ensures.value c.has_move.ensures.listed c.if-not-has_move.false,
      found_none c.in_ok-found.found ((written : MoveText) → IsMoveLine c.args.line.now written → ⊥) (IsMoveLine c.args.line.now) c.in_default.not-Some c.in_ok-found.ensures,
    ),
  ),
)

pub returns-in-Ok-clause-heard : goal.returns-in-Ok-clause-heard
returns-in-Ok-clause-heard g c =
    let heard = c.in-Ok.ensures.heard in
    let read = meaning-read (here c.args.player.now) c.in-Some.written c.path-squares.result.now c.index-squares-0.result c.index-squares-last.result
    c.path-squares.ensures.value c.path-squares.ensures.least c.index-squares-0.is c.index-squares-last.is in
    let move = found_some c.in_ok-found.found c.in-Some.written ((written : MoveText) → IsMoveLine c.args.line.now written → ⊥) (IsMoveLine c.args.line.now) c.in-Some.is c.in_ok-found.ensures in
    (heard.0, ((c.in-Some.written, (move, read ∙ heard.1.0)), heard.1.1))

pub returns-in-Err-clause-refused : goal.returns-in-Err-clause-refused
returns-in-Err-clause-refused g c =
    let read = meaning-read (here c.args.player.now) c.in-Some.written c.path-squares.result.now c.index-squares-0.result c.index-squares-last.result
    c.path-squares.ensures.value c.path-squares.ensures.least c.index-squares-0.is c.index-squares-last.is in
    let move = found_some c.in_ok-found.found c.in-Some.written ((written : MoveText) → IsMoveLine c.args.line.now written → ⊥) (IsMoveLine c.args.line.now) c.in-Some.is c.in_ok-found.ensures in
    unheard_is c.args.number (here c.args.player.now) c.position-position.result c.args.line.now c.in-Some.written _ c.in-Err.cause c.unheard.result c.position-position.ensures.value
    (left_there (here c.args.player.now) c.position-position.result c.has_move.result c.position-position.ensures.value c.has_move.ensures.listed c.if-not-has_move.false)
    move read c.in-Err.ensures.refused c.unheard.ensures
