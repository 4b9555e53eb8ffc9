use Rattle.std.specs.Prelude.{◌≡◌, ◌⊎◌, ℕ, ◌+◌, ◌<◌, ◌≤◌, length, slice_index}
use Rattle.bench_disk.proofs.torn.torn.Given as goal

abbrev pub invariant-loop-place : goal.invariant-loop-place
invariant-loop-place l = record {
  size : length l.left.items ≡ l.place;
  outside : (k : ℕ) → k < l.place → k < length l.bytes → (k < l.at) ⊎ (l.at + length l.from ≤ k) → slice_index l.left.items k ≡ slice_index l.bytes k;
}
