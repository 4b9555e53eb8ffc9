use Rattle.std.proofs.Common.{◌≡◌, ◌-◌, ◌≤◌, ◌^◌, length}
use Rattle.bench_disk.specs.Disk.{IsHonest}
use Rattle.disk_journal.specs.Reads.{OnlyReads}
use Rattle.disk_journal.specs.Rest.{HasReadFrames}
use Rattle.disk_journal.proofs.reader.read_frames.Given as goal

abbrev pub invariant-loop-payloads : goal.invariant-loop-payloads
invariant-loop-payloads g l = record {
  within : l.gate ≤ l.len;
  bound : l.len ≤ 2 ^ 62;
  len : IsHonest g.D.Disk.TELLS → l.len ≡ length (g.D.Disk.reads l.disk);
  counted : length l.payloads.items ≤ l.gate;
  read : IsHonest g.D.Disk.TELLS → HasReadFrames l.pieces (g.D.Disk.reads l.fn.disk) l.gate l.payloads.items;
  reads : OnlyReads g.D.Disk l.fn.disk l.disk ⊥;
}

abbrev pub decreases-loop-payloads : goal.decreases-loop-payloads
decreases-loop-payloads g l = 2 ^ 62 - l.gate
