-- Answers are exact where they are sound and one answer is due at most.
use Rattle.std.proofs.Common.{◌≡◌, Bool, true, false, List, Vec, Result, Ok, Err, ap}
use Rattle.std.specs.Prelude.{IfOk, IfErr}
use Rattle.std.specs.Bool.{OnFalse}
use Rattle.shared_words.specs.Answers.{IsExact, listed}

pub on_false : (b : Bool) (P Q : Type 0) → (P → Q) → OnFalse b P → OnFalse b Q
on_false true P Q f p = tt
on_false false P Q f p = f p

pub exact_from_one : {T E : Type 0} (ran_out : E → Bool) (IsGood : T → Type 0) (Stands : E → Type 0) (answer : Result T E)
    → IfOk answer IsGood → IfErr answer (λ e. OnFalse (ran_out e) (Stands e))
    → ((a b : T) → IsGood a → IsGood b → a ≡ b) → ((a : T) (e : E) → IsGood a → Stands e → ⊥) → ((e f : E) → Stands e → Stands f → e ≡ f)
    → IsExact ran_out IsGood Stands answer
exact_from_one ran_out IsGood Stands (Ok a) good fault one apart single = record {
  good = good;
  fault = tt;
  only_good = λ b is. ap (λ v. Ok v) (one a b good is);
  only_fault = λ e stands. absurd (apart a e good stands);
}
exact_from_one ran_out IsGood Stands (Err e) good fault one apart single = record {
  good = tt;
  fault = fault;
  only_good = λ b is. on_false (ran_out e) (Stands e) _ (λ stands. absurd (apart b e is stands)) fault;
  only_fault = λ f stands. on_false (ran_out e) (Stands e) _ (λ here. ap (λ v. Err v) (single e f here stands)) fault;
}

-- the same of an answer that is a vector
pub exact_list_from_one : {T A E : Type 0} (ran_out : E → Bool) (IsGood : List T → Type 0) (Stands : E → Type 0) (answer : Result (Vec T A) E)
    → IfOk answer (λ v. IsGood v.items) → IfErr answer (λ e. OnFalse (ran_out e) (Stands e))
    → ((a b : List T) → IsGood a → IsGood b → a ≡ b) → ((a : List T) (e : E) → IsGood a → Stands e → ⊥) → ((e f : E) → Stands e → Stands f → e ≡ f)
    → IsExact ran_out IsGood Stands (listed answer)
exact_list_from_one ran_out IsGood Stands (Ok v) good fault one apart single = exact_from_one ran_out IsGood Stands (Ok v.items) good tt one apart single
exact_list_from_one ran_out IsGood Stands (Err e) good fault one apart single = exact_from_one ran_out IsGood Stands (Err e) tt fault one apart single
