-- A session that works goes on.
use Rattle.std.proofs.Common.{◌≡◌, List, [], ◌∷◌, refl, ap, ◌∙◌, inl, inr, ⊎_elim}
use Rattle.std.specs.Prelude.{◌⊎◌, false, Result, Ok, Err, OnOk, IfOk}
use Rattle.disk_journal.specs.declared.journal.Receipt.{Receipt}
use Rattle.tree_manager.specs.declared.entries.Entry.TheVariants.{Acked}
use Rattle.tree_manager.specs.Entries.{breaks}
use Rattle.tree_manager.specs.Lines.{is_failed}
use Rattle.tree_manager.specs.Sessions.{SessionState, Appends}
use Rattle.tree_manager.proofs.LineLemmas.{any_push_not}

none_or_some : {X : Type 0} (xs : List X) → (xs ≡ []) ⊎ (xs ≡ [] → ⊥)
none_or_some [] = inl refl
none_or_some (x ∷ xs) = inr (λ h. cc h)

-- behind a commit it works on
pub commit_works : {D E : Type 0} (old new : SessionState D) (result : Result Receipt E) → OnOk result (is_failed old.line ≡ false) → (is_failed old.line ≡ false → old.core.staged ≡ [] → OnOk result (new ≡ old))
    → ((old.core.staged ≡ [] → ⊥) → IfOk result (λ receipt. Appends old (Acked receipt.moment) new)) → OnOk result (is_failed new.line ≡ false)
commit_works old new (Err e) whole idle appends = tt
commit_works old new (Ok receipt) whole idle appends = ⊎_elim
    (λ none. ap (λ (s : SessionState _). is_failed s.line) (idle whole none) ∙ whole)
    (λ some. ap is_failed (appends some).line ∙ (any_push_not breaks old.line (Acked receipt.moment) refl ∙ whole))
    (none_or_some old.core.staged)
