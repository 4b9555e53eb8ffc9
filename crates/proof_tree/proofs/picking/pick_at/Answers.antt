use Rattle.std.proofs.Common.{Some, None, sym, ap, ◌∙◌}
use Rattle.draughts_board.specs.declared.pieces.Side.TheVariants.{Black, White}
use Rattle.proof_tree.specs.Forest.{goal_by, value_by}
use Rattle.proof_tree.specs.Rows.{kept_numbers}
use Rattle.proof_tree.proofs.Choosing.{pick-settled, pick-open}
use Rattle.proof_tree.proofs.picking.pick_at.Goals as goal

pub returns-then-is_some : goal.returns-then-is_some
returns-then-is_some g c =
    pick-settled c.args.rows.now c.requires.linked c.requires.fits (g.T.Taken.taken c.args.taken.now) c.args.root c.requires.inside
    c.index-rows-root.result c.index-rows-root-2.result
    c.value_by.result (c.value_by.ensures ∙ (λ i. value_by ((c.kept-black.ensures ∙ ap (kept_numbers Black) c.index-rows-root.is) i) ((c.kept-white.ensures ∙ ap (kept_numbers White) c.index-rows-root-2.is) i)))
    (sym c.is_some.ensures ∙ c.if-is_some.true)

pub returns-in-Some : goal.returns-in-Some
returns-in-Some g c =
    pick-open c.args.rows.now c.requires.linked c.requires.fits (g.T.Taken.taken c.args.taken.now) c.args.root c.requires.inside
    c.index-rows-root.result c.index-rows-root-2.result
    c.value_by.result (c.value_by.ensures ∙ (λ i. value_by ((c.kept-black.ensures ∙ ap (kept_numbers Black) c.index-rows-root.is) i) ((c.kept-white.ensures ∙ ap (kept_numbers White) c.index-rows-root-2.is) i)))
    (sym c.is_some.ensures ∙ c.if-is_some.false) c.goal_by-goal.result (c.goal_by-goal.ensures ∙ ap goal_by (c.kept-black.ensures ∙ ap (kept_numbers Black) c.index-rows-root.is))
    (Some c.in-Some.leaf) c.in-Some.ensures

pub returns-in-None : goal.returns-in-None
returns-in-None g c =
    pick-open c.args.rows.now c.requires.linked c.requires.fits (g.T.Taken.taken c.args.taken.now) c.args.root c.requires.inside
    c.index-rows-root.result c.index-rows-root-2.result
    c.value_by.result (c.value_by.ensures ∙ (λ i. value_by ((c.kept-black.ensures ∙ ap (kept_numbers Black) c.index-rows-root.is) i) ((c.kept-white.ensures ∙ ap (kept_numbers White) c.index-rows-root-2.is) i)))
    (sym c.is_some.ensures ∙ c.if-is_some.false) c.goal_by-goal.result (c.goal_by-goal.ensures ∙ ap goal_by (c.kept-black.ensures ∙ ap (kept_numbers Black) c.index-rows-root.is))
    None c.in-None.ensures
