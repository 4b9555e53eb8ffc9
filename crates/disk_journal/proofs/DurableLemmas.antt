-- A write to a disk with nothing pending.
use Rattle.std.specs.Prelude.{ℕ, List}
use Rattle.std.proofs.Common.{subst}
use Rattle.bench_disk.specs.Disk.{IsTorn, NothingPending}
use Rattle.bench_disk.specs.Runs.{Leaves, OnlyWrites, leaves_weaker}

-- it leaves what the disk read, torn by the range
pub torn_from_settled : {D : Type 0} (reads : D → List ℕ) (images : D → List ℕ → Type 0) (images_since : D → ℕ → List ℕ → Type 0) (moment : D → ℕ) (old new : D) (at count : ℕ)
    → NothingPending (reads old) (images old) → OnlyWrites images images_since moment at count old new → Leaves moment images_since old new (IsTorn at count (reads old))
torn_from_settled reads images images_since moment old new at count settled writes =
    leaves_weaker moment images_since old new _ (IsTorn at count (reads old)) (λ image torn. subst (λ whole. IsTorn at count whole image) (settled torn.0 torn.1) torn.2) writes.run
