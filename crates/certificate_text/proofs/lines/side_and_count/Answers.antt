use Rattle.std.proofs.Common.{◌∙◌, sym, arith, decimal}
use Rattle.std.proofs.lemmas.Bool.{false≢true}
use Rattle.draughts_board.specs.declared.pieces.Side.TheVariants.{Black, White}
use Rattle.certificate_text.specs.Lines.{side_word}
use Rattle.shared_words.proofs.LackingBytes.{halves_agree}
use Rattle.certificate_text.proofs.Fields.{if_none, side_bare}
use Rattle.certificate_text.proofs.lines.side_and_count.Goals as goal

pub returns-in_err-count-clause-none : goal.returns-in_err-count-clause-none
returns-in_err-count-clause-none c =
    if_none c.from_residual-in_err-count.result _ (λ side count small same.
    let both = halves_agree 32 (side_word side) _ (decimal count) _ (side_bare side) c.in_ok-word.ensures.before (sym same ∙ c.in_ok-word.ensures.whole) in
    c.in_err-count.ensures.other count (omega (arith, c.from.ensures)) (sym both.1))

pub returns-else-is-2-clause-none : goal.returns-else-is-2-clause-none
returns-else-is-2-clause-none c Black count small same =
    let both = halves_agree 32 (side_word Black) _ (decimal count) _ (side_bare Black) c.in_ok-word.ensures.before (sym same ∙ c.in_ok-word.ensures.whole) in
    false≢true (c.if-is.ensures.1 (sym both.0))
returns-else-is-2-clause-none c White count small same =
    let both = halves_agree 32 (side_word White) _ (decimal count) _ (side_bare White) c.in_ok-word.ensures.before (sym same ∙ c.in_ok-word.ensures.whole) in
    false≢true (c.if-is-2.ensures.1 (sym both.0))
