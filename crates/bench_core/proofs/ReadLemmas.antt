-- A payload that is read back, where nothing is staged.
use Rattle.std.proofs.Common.{◌≡◌, ℕ, List, [], ◌∷◌, ◌++◌, refl, ap, sym, ◌∙◌, subst, append-nil}
use Rattle.std.specs.Bool.{OnFalse}
use Rattle.draughts_board.specs.Board.{Board}
use Rattle.bench_records.specs.declared.records.BenchRecord.{BenchRecord}
use Rattle.bench_records.specs.declared.refusal.RecordRefusal.{RecordRefusal}
use Rattle.bench_records.specs.declared.refusal.RecordRefusal.TheVariants as text
use Rattle.bench_records.specs.Refusals.{IsRecordRefusal, record_wants_memory}
use Rattle.bench_records.specs.Texts.{IsTextFor, IsText, named_in}
use Rattle.bench_core.specs.declared.refusals.ApplyRefusal.{ApplyRefusal}
use Rattle.bench_core.specs.declared.refusals.ApplyRefusal.TheVariants.{Unlawful, Memory}
use Rattle.bench_core.specs.Growing.{IsLawfulRecord, GrowsWith}
use Rattle.bench_core.specs.Grown.{GrownState}
use Rattle.bench_core.specs.Cores.{Core, with_record}
use Rattle.bench_core.specs.Naming.{NamingState, naming_more, AreNamesOf}
use Rattle.bench_core.specs.Replaying.{RefusesRecord, of_text, of_record}
use Rattle.bench_core.specs.Answers.{HasReplayed, RefusesReplay}
use Rattle.bench_core.proofs.NamingLemmas.{names_staged, names_forgotten, names_applied}

-- the list is that of the records applied
pub list_of : (records staged : List BenchRecord) (names : NamingState) → AreNamesOf records staged names → staged ≡ [] → names.now ≡ named_in [] records
list_of records staged names h none = h.now ∙ (ap (λ l. named_in [] (records ++ l)) none ∙ ap (named_in []) (append-nil records))

module _ (core : Core) (k : ℕ) (named : List Board) (payload : List ℕ) (pieces : k ≡ core.state.settings.pieces) (list : named ≡ named_in [] core.records) where
  pub text_read : (r : BenchRecord) → IsTextFor k named r payload → IsText core.state.settings.pieces core.records r payload
  text_read r is = subst (λ n. IsTextFor n (named_in [] core.records) r payload) pieces (subst (λ l. IsTextFor k l r payload) list is)

  fault_read : (refusal : RecordRefusal) → IsRecordRefusal named k payload refusal → IsRecordRefusal (named_in [] core.records) core.state.settings.pieces payload refusal
  fault_read refusal is = subst (λ n. IsRecordRefusal (named_in [] core.records) n payload refusal) pieces (subst (λ l. IsRecordRefusal l k payload refusal) list is)

  pub text_refused : (refusal : RecordRefusal) → OnFalse (record_wants_memory refusal) (IsRecordRefusal named k payload refusal) → RefusesReplay core payload (of_text refusal)
  text_refused text.BadKind is = fault_read text.BadKind is
  text_refused (text.BadField at) is = fault_read (text.BadField at) is
  text_refused (text.Trailing at) is = fault_read (text.Trailing at) is
  text_refused (text.Memory error) is = tt

pub record_refused : (core : Core) (k : ℕ) (grown : GrownState) (r : BenchRecord) (payload : List ℕ) (refusal : ApplyRefusal) → k ≡ core.state.settings.pieces → grown.forest ≡ core.state.forest
    → IsText core.state.settings.pieces core.records r payload → RefusesRecord k grown r refusal → RefusesReplay core payload (of_record refusal)
record_refused core k grown r payload Unlawful pieces forest is unlawful = record {
  last = r;
  text = is;
  unlawful = subst (λ f. ¬ IsLawfulRecord core.state.settings.pieces f r) forest (subst (λ n. ¬ IsLawfulRecord n grown.forest r) pieces unlawful);
}
record_refused core k grown r payload (Memory error) pieces forest is h = tt

-- the names behind it
pub names_back : (records staged : List BenchRecord) (r : BenchRecord) (old added new : NamingState) → AreNamesOf records staged old → added ≡ naming_more old r → added.before ≡ new.before ++ new.now ∷ [] → AreNamesOf records staged new
names_back records staged r old added new h more back = names_forgotten records staged r added new (names_staged records staged r old added h more) back

pub names_read : (records records' staged staged' : List BenchRecord) (r : BenchRecord) (old added new : NamingState) → AreNamesOf records staged old → staged ≡ [] → staged' ≡ staged → records' ≡ records ++ r ∷ [] → added ≡ naming_more old r
    → new ≡ record { now = added.now; before = [] } → AreNamesOf records' staged' new
names_read records records' staged staged' r old added new h none same more added_is new_is =
    let all = names_applied records (staged ++ r ∷ []) added new (names_staged records staged r old added h added_is) new_is in
    subst (λ rs. AreNamesOf rs staged' new) (ap (λ l. records ++ (l ++ r ∷ [])) none ∙ sym more) (subst (λ l. AreNamesOf (records ++ (staged ++ r ∷ [])) l new) (sym (same ∙ none)) all)
