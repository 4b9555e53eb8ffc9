-- The least and the sum of a list, one element further.
use Rattle.std.proofs.Common.{◌≡◌, List, [], ◌∷◌, ◌++◌, refl, sym, ap, ◌∙◌, arith}
use Rattle.proof_numbers.specs.Numbers.{least, total, least_of, total_of}
use Rattle.proof_numbers.specs.declared.numbers.Number.{Number}
use Rattle.proof_numbers.specs.declared.numbers.Number.TheVariants.{Finite, Infinite}

least_assoc : (a b c : Number) → least (least a b) c ≡ least a (least b c)
least_assoc Infinite b c = refl
least_assoc (Finite l) Infinite c = refl
least_assoc (Finite l) (Finite m) Infinite = refl
least_assoc (Finite l) (Finite m) (Finite n) = ap Finite (grind arith)

total_assoc : (a b c : Number) → total (total a b) c ≡ total a (total b c)
total_assoc Infinite b c = refl
total_assoc (Finite l) Infinite c = refl
total_assoc (Finite l) (Finite m) Infinite = refl
total_assoc (Finite l) (Finite m) (Finite n) = ap Finite (omega arith)

least_none : (a : Number) → least a Infinite ≡ a
least_none Infinite = refl
least_none (Finite m) = refl

pub total_none : (a : Number) → total a (Finite 0) ≡ a
total_none Infinite = refl
total_none (Finite m) = ap Finite (omega arith)

none_total : (a : Number) → total (Finite 0) a ≡ a
none_total Infinite = refl
none_total (Finite m) = ap Finite (omega arith)

pub least_of-push : (xs : List Number) (x : Number) → least_of (xs ++ x ∷ []) ≡ least (least_of xs) x
least_of-push [] x = least_none x
least_of-push (y ∷ xs) x = ap (least y) (least_of-push xs x) ∙ sym (least_assoc y (least_of xs) x)

pub total_of-push : (xs : List Number) (x : Number) → total_of (xs ++ x ∷ []) ≡ total (total_of xs) x
total_of-push [] x = total_none x ∙ sym (none_total x)
total_of-push (y ∷ xs) x = ap (total y) (total_of-push xs x) ∙ sym (total_assoc y (total_of xs) x)
