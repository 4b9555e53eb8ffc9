-- What was acknowledged stays so.
use Rattle.std.specs.Prelude.{◌≡◌, ℕ, ◌≤◌, List, ◌++◌}
use Rattle.std.proofs.Common.{sym, subst, ⊎_elim}
use Rattle.bench_disk.specs.Disk.{NothingPending}
use Rattle.bench_disk.specs.Runs.{Leaves}
use Rattle.disk_journal.specs.Format.{HasPayloads, StandsBetween}
use Rattle.disk_journal.specs.Log.{IsAtRest, StandsSince}
use Rattle.disk_journal.proofs.JournalLemmas.{between_wider, has_payloads, prefix_append, prefix_same, prefix_then}
use Rattle.disk_journal.specs.FormatLaws.{payloads_once}

-- a journal at rest stands for its payloads
pub stands : {D : Type 0} (reads : D → List ℕ) (images : D → List ℕ → Type 0) (disk : D) (pieces gate : ℕ) (payloads : List (List ℕ)) → IsAtRest reads images disk pieces gate payloads → HasPayloads pieces (reads disk) payloads
stands reads images disk pieces gate payloads rest = subst (HasPayloads pieces (reads disk)) (sym rest.all) (has_payloads pieces rest.frames (reads disk) rest.journal)

-- whatever payloads its bytes stand for are those
pub at_rest_with : {D : Type 0} (reads : D → List ℕ) (images : D → List ℕ → Type 0) (disk : D) (pieces gate : ℕ) (payloads others : List (List ℕ)) → IsAtRest reads images disk pieces gate payloads → HasPayloads pieces (reads disk) others → IsAtRest reads images disk pieces gate others
at_rest_with reads images disk pieces gate payloads others rest has =
    subst (IsAtRest reads images disk pieces gate) (payloads_once pieces pieces (reads disk) payloads others (stands reads images disk pieces gate payloads rest) has) rest

module _ {D : Type 0} (reads : D → List ℕ) (images : D → List ℕ → Type 0) (images_since : D → ℕ → List ℕ → Type 0) (moment : D → ℕ) where
  pub kept : ((disk : D) → images disk (reads disk)) → ((disk : D) (t : ℕ) (image : List ℕ) → t ≤ moment disk → images disk image → images_since disk t image)
      → (pieces : ℕ) (old new : D) (t : ℕ) (low payloads staged : List (List ℕ)) → t ≤ moment old → Leaves moment images_since old new (StandsBetween pieces payloads (payloads ++ staged))
      → StandsSince images_since old t pieces low payloads → StandsSince images_since new t pieces low (payloads ++ staged)
  kept reads_is_image now_counts pieces old new t low payloads staged le run since image h =
      let before = since (reads old) (now_counts old t (reads old) le (reads_is_image old)) in
      let low_first = prefix_then low before.0 payloads before.2 before.3 in
      ⊎_elim
      (λ past. between_wider pieces low low payloads (payloads ++ staged) (prefix_same low) (prefix_append payloads staged) image (since image past))
      (λ began. between_wider pieces payloads low (payloads ++ staged) (payloads ++ staged) low_first (prefix_same (payloads ++ staged)) image (run.each image began))
      (run.since.nothing_else t image le h)

  pub acknowledged : ((disk : D) (image : List ℕ) → images_since disk (moment disk) image → images disk image)
      → (pieces : ℕ) (disk : D) (t : ℕ) (payloads : List (List ℕ)) → t ≡ moment disk → NothingPending (reads disk) (images disk) → HasPayloads pieces (reads disk) payloads → StandsSince images_since disk t pieces payloads payloads
  acknowledged only_now pieces disk t payloads is only has image since =
      let now = only image (only_now disk image (subst (λ m. images_since disk m image) is since)) in
      (payloads, subst (λ file. HasPayloads pieces file payloads) (sym now) has, prefix_same payloads, prefix_same payloads)
