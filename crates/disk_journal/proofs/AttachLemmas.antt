-- The opening sync, and then the reading.
use Rattle.std.specs.Prelude.{◌≡◌, ℕ, ◌≤◌, List}
use Rattle.std.proofs.Common.{sym, subst, inl, inr, arith}
use Rattle.bench_disk.specs.Disk.{NothingPending}
use Rattle.bench_disk.specs.Runs.{Leaves, leaves_then, leaves_weaker}
use Rattle.disk_journal.specs.Format.{HasPayloads, IsFresh}
use Rattle.disk_journal.specs.Log.{StaysOrFresh}

-- one fresh file stands for what another one stands for
fresh_both : (pieces : ℕ) (file image : List ℕ) (payloads : List (List ℕ)) → IsFresh file → IsFresh image → HasPayloads pieces file payloads → HasPayloads pieces image payloads
fresh_both pieces file image payloads x y (inl has) = inl (y, has.1)
fresh_both pieces file image payloads x y (inr has) = absurd (omega (arith, x, has.0))

-- what attaching may leave of a file stands for what the file stands for
pub left_has : (pieces : ℕ) (images : List ℕ → Type 0) (file image : List ℕ) (payloads : List (List ℕ)) → NothingPending file images → HasPayloads pieces file payloads → StaysOrFresh images file image → HasPayloads pieces image payloads
left_has pieces images file image payloads settled has (inl now) = subst (λ f. HasPayloads pieces f payloads) (sym (settled image now)) has
left_has pieces images file image payloads settled has (inr fresh) = fresh_both pieces file image payloads fresh.0 fresh.1 has

module _ {D : Type 0} (reads : D → List ℕ) (images : D → List ℕ → Type 0) (images_since : D → ℕ → List ℕ → Type 0) (moment : D → ℕ)
    (now_counts : (disk : D) (t : ℕ) (image : List ℕ) → t ≤ moment disk → images disk image → images_since disk t image)
    (earlier_counts : (disk : D) (s t : ℕ) (image : List ℕ) → s ≤ t → images_since disk t image → images_since disk s image) where
  still : (old mid : D) → reads mid ≡ reads old → Leaves moment images_since old mid (images old) → (image : List ℕ) → StaysOrFresh (images mid) (reads mid) image → StaysOrFresh (images old) (reads old) image
  still old mid same first image (inl now) = inl (first.each image (now_counts mid (moment old) image first.later now))
  still old mid same first image (inr fresh) = inr (subst IsFresh same fresh.0, fresh.1)

  pub sync_then : (old mid new : D) → reads mid ≡ reads old → Leaves moment images_since old mid (images old) → Leaves moment images_since mid new (StaysOrFresh (images mid) (reads mid))
      → Leaves moment images_since old new (StaysOrFresh (images old) (reads old))
  sync_then old mid new same first second =
      leaves_then moment images_since earlier_counts old mid new (StaysOrFresh (images old) (reads old))
      (leaves_weaker moment images_since old mid (images old) (StaysOrFresh (images old) (reads old)) (λ image now. inl now) first)
      (leaves_weaker moment images_since mid new (StaysOrFresh (images mid) (reads mid)) (StaysOrFresh (images old) (reads old)) (still old mid same first) second)
