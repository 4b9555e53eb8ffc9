-- Answers to a question that memory may be wanting for. A test tells the errors that say nothing of
-- the question, as that memory ran out; every other error names a fault.
use Rattle.std.specs.Prelude.{◌≡◌, Bool, List, Vec, Result, Ok, Err, IfOk, IfErr}
use Rattle.std.specs.Bool.{OnFalse}

-- the fact holds, unless memory ran out
abbrev pub Unless : {T E : Type 0} → (E → Bool) → Result T E → Type 0 → Type 0
Unless ran_out (Ok value) P = P
Unless ran_out (Err error) P = OnFalse (ran_out error) P

-- The answer is exact, unless memory ran out: a value is a good one, an error is a fault that
-- stands, and where there is a good value, or a fault that stands, the answer is that and no other.
pub record IsExact {T E : Type 0} (ran_out : E → Bool) (IsGood : T → Type 0) (Stands : E → Type 0)
    (answer : Result T E) : Type 0 where
  pub good : IfOk answer IsGood
  pub fault : IfErr answer (λ error. OnFalse (ran_out error) (Stands error))
  pub only_good : (value : T) → IsGood value → Unless ran_out answer (answer ≡ Ok value)
  pub only_fault : (error : E) → Stands error → Unless ran_out answer (answer ≡ Err error)

-- the answer with the list of its items in place of the vector
abbrev pub listed : {T A E : Type 0} → Result (Vec T A) E → Result (List T) E
listed (Ok values) = Ok values.items
listed (Err error) = Err error
