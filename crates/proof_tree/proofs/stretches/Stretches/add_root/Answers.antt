use Rattle.std.proofs.Common.{◌+◌, arith}
use Rattle.proof_tree.proofs.Noting.{noted_ahead, noted_behind}
use Rattle.proof_tree.proofs.stretches.Stretches.add_root.Goals as goal

pub returns-clause-noted : goal.returns-clause-noted
returns-clause-noted c roots noted =
    let ends = c.args.self.now.ends.items in
    let starts = c.args.self.now.starts.items in
    let many = c.len-place.ensures in
    let more = c.len-place-2.ensures in
    noted_behind roots c.add.new.list.items starts c.add-2.new.list.items _ (c.len-place-2.result + 1) c.add-2.ensures.numbers (λ k from to. absurd (omega (arith, more, from, to)))
    (noted_ahead roots ends starts c.add.new.list.items _ c.len-place.result c.add.ensures.numbers (λ k from to. absurd (omega (arith, many, from, to))) noted)
