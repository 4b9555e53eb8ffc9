use Rattle.std.proofs.Common.{◌≡◌, ◌≤◌, ◌<◌, ◌+◌, ◌-◌, length, refl, arith}
use Rattle.position_rows.proofs.IndexedLemmas.{index_of_more}
use Rattle.position_rows.specs.Tables.{spare_of}
use Rattle.position_rows.proofs.tables.Index.enter.Goals as goal

pub returns-clause-index : goal.returns-clause-index
returns-clause-index g c e =
    let some : 0 < spare_of c.args.self.now = c.requires.room in
    let slots : length c.enter.new.slots.items ≡ length c.args.self.now.slots.items =
    omega (arith, c.enter.ensures.slots, c.enter.new.slots.ok.0, c.args.self.now.slots.ok.0) in
    let nodes : length c.enter.new.nodes.items ≤ length c.args.self.now.nodes.items + 1 =
    omega (arith, c.enter.ensures.nodes, c.enter.new.nodes.ok.0, c.args.self.now.nodes.ok.0) in
    index_of_more c.args.rows.now c.args.self.now (record { slots = c.enter.new.slots; nodes = c.enter.new.nodes; room = c.args.self.now.room - 1 }) c.args.p.now e
    c.requires.index (omega arith) refl slots nodes (c.enter.ensures.entered (length c.args.rows.now) refl)
