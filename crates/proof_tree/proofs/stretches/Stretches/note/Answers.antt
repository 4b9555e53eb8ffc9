use Rattle.std.proofs.Common.{◌-◌, suc, arith}
use Rattle.proof_tree.specs.Rows.{AreSettled}
use Rattle.proof_tree.proofs.Noting.{noted_ahead, noted_behind, joined}
use Rattle.proof_tree.proofs.stretches.Stretches.note.Goals as goal

pub returns-clause-noted : goal.returns-clause-noted
returns-clause-noted c roots here noted =
    let ends = c.args.self.now.ends.items in
    let starts = c.args.self.now.starts.items in
    let most = c.max-end.ensures in
    let place = c.args.place in
    let start = c.start_before-start.result in
    let end = c.max-end.result in
    let within = c.start_before-start.ensures.within in
    let after : AreSettled roots (suc place) end = λ k from to. c.end_of-2.ensures roots noted k (omega (arith, from)) (omega (arith, most, from, to)) in
    let whole : AreSettled roots start end = joined roots place start end here (c.start_before-start.ensures.settled roots noted) after in
    noted_behind roots c.put-2.new.list.items starts c.put-3.new.list.items (end - 1) start c.put-3.ensures.numbers (λ k from to. whole k from (omega (arith, most, to)))
    (noted_ahead roots c.put.new.list.items starts c.put-2.new.list.items start end c.put-2.ensures.numbers whole
    (noted_ahead roots ends starts c.put.new.list.items place end c.put.ensures.numbers (λ k from to. whole k (omega (arith, within, from)) to) noted))
