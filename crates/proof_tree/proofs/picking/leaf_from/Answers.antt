use Rattle.std.proofs.Common.{sym, ap, ◌∙◌}
use Rattle.proof_numbers.specs.Numbers.{is_resolved}
use Rattle.proof_tree.specs.Rows.{nodes_from}
use Rattle.proof_tree.proofs.Meaning.{IsMeaning-nodes}
use Rattle.proof_tree.proofs.Climbing.{root-resolved, root-busy, root-free, root-repeats}
use Rattle.proof_tree.proofs.picking.leaf_from.Goals as goal

pub returns-then-is_resolved : goal.returns-then-is_resolved
returns-then-is_resolved g c = root-resolved c.args.rows.now c.requires.linked c.args.goal c.requires.fits (nodes_from 0 c.args.rows.now) (IsMeaning-nodes c.args.rows.now c.requires.linked) (g.T.Taken.taken c.args.taken.now) c.args.root c.requires.inside c.index-rows-root.result c.index-rows-root.is (ap is_resolved (sym c.kept.ensures) ∙ sym c.is_resolved.ensures ∙ c.if-is_resolved.true)

pub returns-then-is_taken : goal.returns-then-is_taken
returns-then-is_taken g c = root-busy c.args.rows.now c.requires.linked c.args.goal c.requires.fits (nodes_from 0 c.args.rows.now) (IsMeaning-nodes c.args.rows.now c.requires.linked) (g.T.Taken.taken c.args.taken.now) c.args.root c.requires.inside c.index-rows-root.result c.index-rows-root.is (ap is_resolved (sym c.kept.ensures) ∙ sym c.is_resolved.ensures ∙ c.if-is_resolved.false) c.in-Unexpanded.is (sym c.is_taken.ensures ∙ c.if-is_taken.true)

pub returns-else-is_taken : goal.returns-else-is_taken
returns-else-is_taken g c = root-free c.args.rows.now c.requires.linked c.args.goal c.requires.fits (nodes_from 0 c.args.rows.now) (IsMeaning-nodes c.args.rows.now c.requires.linked) (g.T.Taken.taken c.args.taken.now) c.args.root c.requires.inside c.index-rows-root.result c.index-rows-root.is (ap is_resolved (sym c.kept.ensures) ∙ sym c.is_resolved.ensures ∙ c.if-is_resolved.false) c.in-Unexpanded.is (sym c.is_taken.ensures ∙ c.if-is_taken.false)

pub returns-in-Repeats : goal.returns-in-Repeats
returns-in-Repeats g c = root-repeats c.args.rows.now c.requires.linked c.args.goal c.requires.fits (nodes_from 0 c.args.rows.now) (IsMeaning-nodes c.args.rows.now c.requires.linked) (g.T.Taken.taken c.args.taken.now) c.args.root c.requires.inside c.index-rows-root.result c.index-rows-root.is (ap is_resolved (sym c.kept.ensures) ∙ sym c.is_resolved.ensures ∙ c.if-is_resolved.false) c.in-Repeats.is
