use Rattle.std.proofs.Common.{map, ap, sym, ◌∙◌, arith}
use Rattle.std.proofs.lemmas.List.{drop-map}
use Rattle.std.specs.Map.{values_of}
use Rattle.proof_tree.specs.Picking.{pick_from}
use Rattle.proof_tree.specs.Rows.{node_in, nodes_from}
use Rattle.proof_tree.proofs.Settled.{front_skipped, stretch_skipped}
use Rattle.proof_tree.proofs.picking.pick_from.Goals as goal

pub loop-place-init : goal.loop-place-init
loop-place-init g c =
    let f = node_in (nodes_from 0 c.args.rows.now) in
    front_skipped (g.T.Taken.taken c.args.taken.now) (map f (values_of c.args.roots.now.entries)) c.args.front c.requires.settled
    ∙ ap (pick_from (g.T.Taken.taken c.args.taken.now)) (drop-map f c.args.front (values_of c.args.roots.now.entries))

pub loop-place-preserved-then-place-end : goal.loop-place-preserved-then-place-end
loop-place-preserved-then-place-end g c =
    let f = node_in (nodes_from 0 c.args.rows.now) in
    let taken = g.T.Taken.taken c.args.taken.now in
    let place = c.loop-place.place in
    let end = c.end_of-end.result in
    let further = c.if-place-end.true in
    c.loop-place.invariant
    ∙ ap (pick_from taken) (sym (drop-map f place (values_of c.args.roots.now.entries)))
    ∙ stretch_skipped taken (map f (values_of c.args.roots.now.entries)) place end (omega (arith, further)) (c.end_of-end.ensures (map f (values_of c.args.roots.now.entries)) c.requires.noted)
    ∙ ap (pick_from taken) (drop-map f end (values_of c.args.roots.now.entries))
