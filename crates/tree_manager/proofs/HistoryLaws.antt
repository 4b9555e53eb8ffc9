-- What every history keeps.
use Rattle.std.proofs.Common.{◌≡◌, ◌≤◌, List, [], ◌∷◌, ◌++◌, map, length, refl, ap, sym, ◌∙◌, subst, inl, inr, ⊎_elim, arith, append_assoc, length-append}
use Rattle.std.specs.Prelude.{◌⊎◌, true, false, Some}
use Rattle.std.proofs.lemmas.List.{same_from_push}
use Rattle.std.proofs.lemmas.Bool.{cases_Bool, true≢false, false≢true}
use Rattle.bench_records.specs.declared.records.BenchRecord.{BenchRecord}
use Rattle.bench_core.specs.Cores.{Core}
use Rattle.tree_manager.specs.declared.entries.Attachment.{Attachment}
use Rattle.tree_manager.specs.declared.entries.Entry.{Entry}
use Rattle.tree_manager.specs.declared.entries.Entry.TheVariants.{Put, Attached}
use Rattle.tree_manager.specs.Entries.{breaks}
use Rattle.tree_manager.specs.Lines.{attachment_of, is_failed, recorded}
use Rattle.tree_manager.specs.Histories.{IsCoreOf, Enters, IsHistory, Opens, Follows}
use Rattle.tree_manager.specs.Laws.{LinesTellCores, EntriesCameNext, FailedLinesEndBroken}
use Rattle.tree_manager.proofs.LineLemmas.{any_push_not, recorded_split}
use Rattle.tree_manager.proofs.CoreLemmas.{enters_core, new_core_stands}

-- the core, and that its leases last
pub history_stands : (line : List Entry) (core : Core) → IsHistory line core → IsCoreOf line core × (1 ≤ core.state.leases.limit)
history_stands _ _ (Opens line core replayed a is new) =
    let stands = new_core_stands replayed a core new in (subst (λ l. IsCoreOf l core) (sym is) stands.0, stands.1)
history_stands _ _ (Follows line core before old e is history whole enters) =
    let here = history_stands before old history in
    let stands = enters_core before old core e here.1 here.0 enters in
    (subst (λ l. IsCoreOf l core) (sym is) stands.0, stands.1)

pub lines_tell_cores : LinesTellCores
lines_tell_cores line core history = (history_stands line core history).0

-- its records are those of the core
pub recorded_is : (line : List Entry) (core : Core) → IsHistory line core → recorded line ≡ core.records ++ core.staged
recorded_is line core history =
    let stands = (history_stands line core history).0 in
    recorded_split line ∙ (λ i. sym stands.records i ++ sym stands.staged i)

-- ---- the entry at a place

pub split_last : {X : Type 0} (ys : List X) → (ys ≡ []) ⊎ ((zs : List X) × (z : X) × (ys ≡ zs ++ z ∷ []))
split_last [] = inl refl
split_last (y ∷ ys) = ⊎_elim
    (λ none. inr ([], y, ap (λ l. y ∷ l) none))
    (λ more. inr (y ∷ more.0, more.1, ap (λ l. y ∷ l) more.2))
    (split_last ys)

-- nothing stands behind the Attached that a session begins with
pub begun_cut : (rs : List BenchRecord) (a b : Attachment) (before behind : List Entry) (x : Entry) → map Put rs ++ Attached a ∷ [] ≡ before ++ x ∷ behind → attachment_of before ≡ Some b → ⊥
begun_cut rs a b [] behind x h attached = cc attached
begun_cut [] a b (y ∷ before) behind x h attached = omega (arith, ap length h, length-append before (x ∷ behind))
begun_cut (r ∷ rs) a b (y ∷ before) behind x h attached =
    let head : Put r ≡ y = cc h in
    let tail : map Put rs ++ Attached a ∷ [] ≡ before ++ x ∷ behind = cc h in
    begun_cut rs a b before behind x tail (subst (λ (e : Entry). attachment_of (e ∷ before) ≡ Some b) (sym head) attached)

pub entries_came_next : EntriesCameNext
entries_came_next _ before behind _ e a (Opens line core replayed b is new) cut attached = absurd (begun_cut replayed b a before behind e (sym is ∙ cut) attached)
entries_came_next _ before behind _ e a (Follows line core front old x is history whole enters) cut attached = ⊎_elim
    (λ none.
    let same = same_from_push front before x e (sym is ∙ (cut ∙ ap (λ l. before ++ e ∷ l) none)) in
    (old, core, (subst (λ l. IsHistory l old) same.0 history, subst (λ y. Enters old y core) same.1 enters)))
    (λ more.
    let same = same_from_push front (before ++ e ∷ more.0) x more.1 (sym is ∙ (cut ∙ (ap (λ l. before ++ e ∷ l) more.2 ∙ sym (append_assoc before (e ∷ more.0) (more.1 ∷ []))))) in
    entries_came_next front before more.0 old e a history same.0 attached)
    (split_last behind)

-- ---- the end

pub replayed_whole : (rs : List BenchRecord) (a : Attachment) → is_failed (map Put rs ++ Attached a ∷ []) ≡ false
replayed_whole [] a = refl
replayed_whole (r ∷ rs) a = replayed_whole rs a

ends_broken : (line before : List Entry) (e : Entry) → line ≡ before ++ e ∷ [] → is_failed before ≡ false → is_failed line ≡ true → breaks e ≡ true
ends_broken line before e is whole failed = ⊎_elim (λ here. here)
    (λ not. absurd (true≢false (sym (sym (ap is_failed is) ∙ failed) ∙ (any_push_not breaks before e not ∙ whole))))
    (cases_Bool (breaks e))

pub failed_lines_end_broken : FailedLinesEndBroken
failed_lines_end_broken _ _ (Opens line core replayed a is new) failed = absurd (false≢true (sym (replayed_whole replayed a) ∙ (sym (ap is_failed is) ∙ failed)))
failed_lines_end_broken _ _ (Follows line core before old e is history whole enters) failed = (before, e, is, ends_broken line before e is whole failed)
