use Rattle.std.specs.Prelude.{◌+◌, ◌<◌, ◌≤◌, length}
use Rattle.std.proofs.Common.{arith, subst}
use Rattle.disk_journal.specs.Rest.{AddsFrame}
use Rattle.disk_journal.proofs.LooksLemmas.{reads_then}
use Rattle.disk_journal.proofs.ReadLemmas.{read_more}
use Rattle.disk_journal.proofs.reader.read_frames.Goals as goal

pub loop-payloads-preserved : goal.loop-payloads-preserved
loop-payloads-preserved g c =
    let goes : (c.loop-payloads.gate < c.in-Some.next) × (c.in-Some.next ≤ c.read_frame.new.len) × (length c.read_frame.new.payloads.items + c.loop-payloads.gate ≤ length c.loop-payloads.payloads.items + c.in-Some.next) =
    rw c.in-Some.is at c.in_ok-next.ensures.goes in
    record {
      within = goes.1;
      bound = c.in_ok-next.ensures.bound;
      len = c.in_ok-next.ensures.len;
      counted = omega (arith, goes.2, c.loop-payloads.invariant.counted);
      read = λ tells.
          let adds : AddsFrame c.loop-payloads.gate c.in-Some.next (g.D.Disk.reads c.loop-payloads.disk) c.loop-payloads.payloads.items c.read_frame.new.payloads.items = rw c.in-Some.is at (c.in_ok-next.ensures.frame tells) in
          read_more c.args.pieces c.loop-payloads.gate c.in-Some.next (g.D.Disk.reads c.args.disk.now) _ _ (c.loop-payloads.invariant.read tells)
          (subst (λ file. AddsFrame c.loop-payloads.gate c.in-Some.next file c.loop-payloads.payloads.items c.read_frame.new.payloads.items) (c.loop-payloads.invariant.reads.looks tells).same adds);
      reads = reads_then g.D.Disk g.met.D.Disk.now_counts g.met.D.Disk.earlier_counts _ _ _ _ _ _ c.loop-payloads.invariant.reads c.in_ok-next.ensures.reads absurd;
    }
