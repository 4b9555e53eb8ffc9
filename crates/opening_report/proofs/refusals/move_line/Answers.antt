use Rattle.std.proofs.Common.{◌++◌, ◌∙◌, ap, arith}
use Rattle.std.specs.Prelude.{codes, decimal}
use Rattle.opening_report.specs.Refusals.{move_words}
use Rattle.opening_report.proofs.LineLemmas.{line-from_test}
use Rattle.opening_report.proofs.RefusalLemmas.{of_game_is_line, move_is_line, move_parts}
use Rattle.opening_report.proofs.refusals.move_line.Goals as goal

pub returns-clause-bytes : goal.returns-clause-bytes
returns-clause-bytes c =
    c.push_str.ensures.bytes
    ∙ ap (λ t. t ++ c.args.wrong.now) (c.push_field-2.ensures.bytes ∙ ap (λ t. t ++ (codes " byte " ++ decimal c.args.at)) (c.push_field.ensures.bytes ∙ ap (λ t. t ++ (codes " ply " ++ decimal c.args.ply)) c.of_game-line.ensures.bytes))
    ∙ move_parts c.args.game c.args.ply c.args.at c.args.wrong.now

pub returns-clause-line : goal.returns-clause-line
returns-clause-line c =
    of_game_is_line c.args.game (move_words c.args.ply c.args.at c.args.wrong.now) (omega (arith, c.ranges.game.fits))
    (move_is_line c.args.ply c.args.at c.args.wrong.now (omega (arith, c.ranges.ply.fits)) (omega (arith, c.ranges.at.fits)) (line-from_test c.args.wrong.now c.requires.line))
