-- A fresh journal.
use Rattle.std.specs.Prelude.{◌≡◌, ◌⊎◌, ℕ, ◌≤◌, List, [], ◌∷◌, ◌++◌, length, refl}
use Rattle.std.proofs.Common.{◌∙◌, ap, arith}
use Rattle.std.proofs.lemmas.List.{drop_all, append-nil}
use Rattle.std.proofs.lemmas.List.Elements.{All-nil}
use Rattle.bench_disk.specs.Disk.{NothingPending, written}
use Rattle.disk_journal.specs.Format.{IsFrame}
use Rattle.disk_journal.specs.Log.{IsAtRest}

pub fresh : {D : Type 0} (reads : D → List ℕ) (images : D → List ℕ → Type 0) (disk : D) (old : List ℕ) (pieces : ℕ) → (pieces ≡ 2) ⊎ (pieces ≡ 3) → length old ≤ 9
    → reads disk ≡ written old 0 (68 ∷ 82 ∷ 66 ∷ 69 ∷ 78 ∷ 67 ∷ 72 ∷ pieces ∷ 0 ∷ []) → NothingPending (reads disk) (images disk) → IsAtRest reads images disk pieces 8 []
fresh reads images disk old pieces table short is only = record {
  frames = [];
  journal = record {
    gate = 0;
    rest = [];
    text = is ∙ ap (λ (l : List ℕ). (68 ∷ 82 ∷ 66 ∷ 69 ∷ 78 ∷ 67 ∷ 72 ∷ pieces ∷ 0 ∷ []) ++ l) (drop_all 9 old short) ∙ append-nil _;
    closed = λ e. omega (arith, e);
    each = All-nil IsFrame;
    table = table;
  };
  place = refl;
  all = refl;
  settled = only;
}
