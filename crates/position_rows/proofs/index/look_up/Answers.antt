use Rattle.std.proofs.Common.{◌≡◌, length, arith}
use Rattle.std.proofs.lemmas.Grind.{common_steps}
use Rattle.std.proofs.lemmas.List.{nil_from_length}
use Rattle.position_rows.proofs.LookLemmas.{tells_behind, tells_first, tells_free}
use Rattle.position_rows.proofs.index.look_up.Goals as goal

pub returns-then-is_empty : goal.returns-then-is_empty
returns-then-is_empty g c =
    let short : length c.args.nodes.now ≡ 0 = grind (arith, common_steps) in
    tells_first c.args.rows.now c.args.slots.now c.args.nodes.now c.args.p.now c.requires.indexed c.in-Full.ensures (nil_from_length c.args.nodes.now short)

pub returns-in-Free : goal.returns-in-Free
returns-in-Free g c = tells_free c.args.rows.now c.args.slots.now c.args.nodes.now c.args.p.now c.requires.indexed c.in-Free.k c.in-Free.ensures

pub returns-in-Behind : goal.returns-in-Behind
returns-in-Behind g c =
    tells_behind c.args.rows.now c.args.slots.now c.args.nodes.now c.args.p.now c.requires.indexed c.in-Behind.i c.in-Behind.digit c.in-Full.ensures c.in-Behind.ensures
