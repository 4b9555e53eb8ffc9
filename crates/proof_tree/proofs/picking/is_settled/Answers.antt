use Rattle.std.proofs.Common.{ap, false, is_some, ◌∙◌}
use Rattle.draughts_board.specs.declared.pieces.Side.TheVariants.{Black, White}
use Rattle.proof_tree.specs.Forest.{value_by}
use Rattle.proof_tree.specs.Rows.{kept_numbers}
use Rattle.proof_tree.proofs.Choosing.{value-kept}
use Rattle.proof_tree.proofs.picking.is_settled.Goals as goal

pub returns : goal.returns
returns c =
    c.is_some.ensures
    ∙ ap is_some
    (c.value_by.ensures ∙ (λ i. value_by ((c.kept-black.ensures ∙ ap (kept_numbers Black) c.index-rows-root.is) i) ((c.kept-white.ensures ∙ ap (kept_numbers White) c.index-rows-root-2.is) i))
    ∙ value-kept c.args.rows.now c.requires.linked c.requires.fits (λ n. false) c.args.root c.requires.inside c.index-rows-root.result c.index-rows-root-2.result)
