-- A field begins bytes with one value.
use Rattle.std.proofs.Common.{◌≡◌, ℕ, List, ◌∷◌, ◌++◌, arith}
use Rattle.bench_records.specs.Formats.{Field, byte, short, long, position, place, FieldValue, IsAllowed, field_text}
use Rattle.bench_records.proofs.Numbers.{one_short, one_long}
use Rattle.bench_records.proofs.Masks.{one_position}

pub one_byte : (m n : ℕ) (x y : List ℕ) → m ∷ x ≡ n ∷ y → (m ≡ n) × (x ≡ y)
one_byte m n x y e = let heads : m ≡ n = cc in let tails : x ≡ y = cc in (heads, tails)

pub one_value : (f : Field) (v u : FieldValue f) (x y : List ℕ) → IsAllowed f v → IsAllowed f u → field_text f v ++ x ≡ field_text f u ++ y → (v ≡ u) × (x ≡ y)
one_value (byte test) v u x y p q e = one_byte v u x y e
one_value short v u x y p q e = one_short v u x y p q e
one_value (long most) v u x y p q e = one_long v u x y p.0 q.0 e
one_value (position others) v u x y p q e = one_position v u x y p.0 q.0 e
one_value (place named others) v u x y p q e = let l = p.0 in let m = q.0 in one_short v u x y (omega arith) (omega arith) e
