-- What one call does to a disk that fails on purpose.
use Rattle.std.specs.Prelude.{◌≡◌, ℕ, ◌+◌, ◌-◌, ◌^◌, min, Result, IsErr, OnErr, OnOk, Vec}
use Rattle.std.specs.declared.alloc.Global.{Global}
use Rattle.shared_words.specs.Counts.{HasCause}
use Rattle.bench_disk.specs.declared.failing_disk.FailingDisk.{FailingDisk}
use Rattle.bench_disk.specs.declared.failing_plan.Fuse.{Fuse}
use Rattle.bench_disk.specs.declared.failing_plan.FailingCalls.{FailingCalls}

-- a count with one more, up to its last value
abbrev pub counted : ℕ → ℕ
counted count = min (count + 1) (2 ^ 64 - 1)

-- what the disk below shows
abbrev pub below {ℓ} : {D P : Type 0} {A : Type ℓ} → (D → A) → FailingDisk D P → A
below shown over = shown over.disk

-- its faults: those of the disk below and its own, up to the last value
abbrev pub faults_of : {D P : Type 0} → (D → ℕ) → FailingDisk D P → ℕ
faults_of faults over = min (faults over.disk + over.refused) (2 ^ 64 - 1)

-- over this disk, with this number of calls to pass, and with no fault of its own
pub record IsFuse {D : Type 0} (over : FailingDisk D Fuse) (disk : D) (pass : ℕ) : Type 0 where
  pub below : over.disk ≡ disk
  pub passing : over.plan.left ≡ pass
  pub none_refused : over.refused ≡ 0

-- over this disk, with these calls to fail, none of which was yet, and with no fault of its own
pub record IsFaulty {D : Type 0} (over : FailingDisk D FailingCalls) (disk : D)
    (given : Vec ℕ Global) : Type 0 where
  pub below : over.disk ≡ disk
  pub failing : over.plan.failing ≡ given
  pub none_called : over.plan.calls ≡ 0
  pub none_refused : over.refused ≡ 0

-- The plan goes on by one call, which is refused and counted where it is to fail. The disk below
-- stays.
pub record StepsPlan {D P T E : Type 0} (Fails : P → Type 0) (next : P → P)
    (old new : FailingDisk D P) (result : Result T E) : Type 0 where
  pub below : new.disk ≡ old.disk
  pub plan : new.plan ≡ next old.plan
  pub passed : OnOk result (¬ Fails old.plan × (new.refused ≡ old.refused))
  pub failed : OnErr result (Fails old.plan × (new.refused ≡ counted old.refused))

-- The plan goes on by one call. Where it is to fail it does so, is counted, and does not reach the
-- disk below. Elsewhere a fault is one of the disk below.
pub record UsesPlan {D P T E : Type 0} (faults : D → ℕ) (Fails : P → Type 0) (next : P → P)
    (old new : FailingDisk D P) (result : Result T E) : Type 0 where
  pub plan : new.plan ≡ next old.plan
  pub passed : ¬ Fails old.plan → (new.refused ≡ old.refused)
      × HasCause (faults old.disk) (faults new.disk) result
  pub failed : Fails old.plan → IsErr result × (new.disk ≡ old.disk)
      × (new.refused ≡ counted old.refused)
