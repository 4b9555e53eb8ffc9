use Rattle.std.proofs.Common.{◌∙◌, sym}
use Rattle.pdn_openings.proofs.Ends.{meaning-read}
use Rattle.pdn_openings.proofs.playing.after_move.Goals as goal

pub returns-clause-led : goal.returns-clause-led
returns-clause-led c =
    let squares = c.path-squares.result.now in
    let read = meaning-read c.args.p.now c.args.written.now squares c.index-squares-0.result c.index-squares-last.result
    c.path-squares.ensures.value c.path-squares.ensures.least c.index-squares-0.is c.index-squares-last.is in
    (c.in_ok-chosen.chosen, (read ∙ sym c.in_ok-chosen.ensures.exact, sym c.apply.ensures))
