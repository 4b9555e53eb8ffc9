use Rattle.std.specs.Prelude.{◌≡◌, ◌∷◌, List, ℕ, length, take, reverse}
use Rattle.std.proofs.Common.{rules, sym, ◌∙◌, ap, subst}
use Rattle.bench_disk.specs.Calls.{IsImage, bytes_after}
use Rattle.bench_disk.specs.Disk.{IsTorn, written}
use Rattle.bench_disk.proofs.CallLemmas.{newest}
use Rattle.bench_disk.proofs.memory_disk.MemoryDisk.with_torn.Goals as goal
use Rattle.bench_disk.proofs.memory_disk.MemoryDisk.with_torn.Goals.{in-Look, in-Sync+in_ok-image-in-Sync, in-Write+in_ok-image-in-Write+in_ok-overwrite-in-Write}

pub loop-call-preserved : goal.loop-call-preserved
loop-call-preserved c =
    let start = c.args.self.now.start.items in
    let rest = reverse (take c.loop-call.call-index c.args.self.now.calls.items) in
    let e = rw c.deref-call-items.ensures.value at (newest c.deref-call-items.result.now c.loop-call.call-index c.call-item.result c.loop-call-test.true c.call-item.is) in
    let step : IsImage start (c.call-item.result ∷ rest) c.match-call.image.items × (c.match-call.bytes.items ≡ bytes_after start (c.call-item.result ∷ rest)) =
    elim c.match-call.branch [
      | in-Look w ↦ rw (w.in-Look.is, w.image-is, w.bytes-is) (c.loop-call.invariant.image, c.loop-call.invariant.bytes)
      | in-Sync+in_ok-image-in-Sync w ↦
          let same : w.in_ok-image-in-Sync.image.items ≡ c.loop-call.bytes.items = search rules in
          rw (w.in-Sync.is, w.image-is, w.bytes-is) (same ∙ c.loop-call.invariant.bytes, c.loop-call.invariant.bytes)
      | in-Write+in_ok-image-in-Write+in_ok-overwrite-in-Write w ↦
          let torn_from : IsTorn w.in-Write.at (length w.in-Write.from.items) c.loop-call.image.items w.in_ok-image-in-Write.image.items =
          subst (λ (l : List ℕ). IsTorn w.in-Write.at (length w.in-Write.from.items) l w.in_ok-image-in-Write.image.items) w.deref-in-Write.ensures.value
          (subst (λ (l : List ℕ). IsTorn w.in-Write.at (length l) w.deref-in-Write.result.now w.in_ok-image-in-Write.image.items) w.deref-in-Write-2.ensures.value w.in_ok-image-in-Write.ensures) in
          let next : w.overwrite.new.bytes.items ≡ written (bytes_after start rest) w.in-Write.at w.in-Write.from.items =
          w.in_ok-overwrite-in-Write.ensures.ok
          ∙ ap (λ (l : List ℕ). written l w.in-Write.at w.deref-in-Write-3.result.now) c.loop-call.invariant.bytes
          ∙ ap (written (bytes_after start rest) w.in-Write.at) w.deref-in-Write-3.ensures.value in
          rw (w.in-Write.is, w.image-is, w.bytes-is) ((c.loop-call.image.items, c.loop-call.invariant.image, torn_from), next)
    ] in
    record {
      image = subst (λ calls. IsImage start calls c.match-call.image.items) (sym e) step.0;
      bytes = step.1 ∙ ap (bytes_after start) (sym e);
    }
