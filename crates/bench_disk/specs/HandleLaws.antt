-- The laws of a disk over a file, whose moment is that of the file.
use Rattle.std.specs.Prelude.{◌≡◌, ℕ, ◌≤◌, List}
use Rattle.std.proofs.Common.{sym, subst}

module _ {F : Type 0} (images : F → List ℕ → Type 0) (images_since : F → ℕ → List ℕ → Type 0)
    (moment : F → ℕ) where
  pub now_counts : ((file : F) (t : ℕ) (image : List ℕ) → t ≤ moment file → images file image
      → images_since file t image)
      → (file : F) (now t : ℕ) (image : List ℕ) → moment file ≡ now → t ≤ now → images file image
      → images_since file t image
  now_counts law file now t image step le is =
      law file t image (subst (λ n. t ≤ n) (sym step) le) is

  pub only_now : ((file : F) (image : List ℕ) → images_since file (moment file) image
      → images file image)
      → (file : F) (now : ℕ) (image : List ℕ) → moment file ≡ now → images_since file now image
      → images file image
  only_now law file now image step since =
      law file image (subst (λ n. images_since file n image) (sym step) since)
