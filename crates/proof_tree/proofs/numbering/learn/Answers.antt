use Rattle.proof_numbers.specs.Facts.{known}
use Rattle.proof_tree.proofs.Learning.{links_told, counted_told, Fits-told, links_after, own_after}
use Rattle.proof_tree.proofs.numbering.learn.Goals as goal

pub mend-requires-clause-linked : goal.mend-requires-clause-linked
mend-requires-clause-linked c =
    links_told c.args.rows.now c.args.at c.requires.inside (known c.args.facts.now) c.index-rows-at.result c.joined-row.result c.joined-row.ensures
    c.requires.linked

pub mend-requires-clause-counted : goal.mend-requires-clause-counted
mend-requires-clause-counted c =
    counted_told c.args.rows.now c.args.at c.requires.inside (known c.args.facts.now) c.index-rows-at.result c.joined-row.result c.joined-row.ensures
    c.requires.counted

pub mend-requires-clause-fits : goal.mend-requires-clause-fits
mend-requires-clause-fits c =
    Fits-told c.args.rows.now c.args.at c.requires.inside (known c.args.facts.now) c.index-rows-at.result c.joined-row.result c.joined-row.ensures
    c.requires.linked c.requires.fits

pub returns-clause-links : goal.returns-clause-links
returns-clause-links c =
    links_after c.args.rows.now c.args.at c.requires.inside (known c.args.facts.now) c.index-rows-at.result c.joined-row.result c.joined-row.ensures
    c.mend.new.rows c.mend.ensures.same

pub returns-clause-own : goal.returns-clause-own
returns-clause-own c =
    own_after c.args.rows.now c.args.at c.requires.inside (known c.args.facts.now) c.index-rows-at.result c.joined-row.result c.joined-row.ensures
    c.mend.new.rows c.mend.ensures.same
