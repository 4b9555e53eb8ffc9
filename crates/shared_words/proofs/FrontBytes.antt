-- A text is the bytes of the number at its front, and what stands behind them.
use Rattle.std.specs.Prelude.{◌≡◌, ℕ, ◌<◌, ◌≤◌, List, ◌++◌, length, take, drop, get_or}
use Rattle.std.specs.Int.{from_be_bytes, to_be_bytes, w32, w64}
use Rattle.std.proofs.Common.{sym, ◌∙◌, ap, inl, inr, arith, length-take, take-append-drop}
use Rattle.std.proofs.lemmas.Bool.{cases_lt}
use Rattle.std.proofs.lemmas.List.{get_or-take, get_or_past}
use Rattle.std.proofs.lemmas.Nat.{be_bytes_4, be_bytes_8}

abbrev AreBytes : List ℕ → Type 0
AreBytes text = (i : ℕ) → get_or text i 0 < 256

bytes-take : (n : ℕ) (text : List ℕ) → AreBytes text → AreBytes (take n text)
bytes-take n text fits i = elim (cases_lt i n) [
  | inl below ↦ omega (arith, get_or-take n text i 0 below, fits i)
  | inr past ↦ omega (arith, get_or_past (take n text) i 0 (omega (arith, past, length-take n text)))
]

pub front_four : (text field behind : List ℕ) (n : ℕ) → AreBytes text → 4 ≤ length text → field ≡ take 4 text → behind ≡ drop 4 text → n ≡ from_be_bytes w32 field → text ≡ to_be_bytes w32 n ++ behind
front_four text field behind n fits some front back number =
    let four : length (take 4 text) ≡ 4 = omega (arith, some, length-take 4 text) in
    let bytes : to_be_bytes w32 n ≡ take 4 text = be_bytes_4 (take 4 text) n four (bytes-take 4 text fits) (number ∙ ap (from_be_bytes w32) front) in
    sym ((λ i. bytes i ++ back i) ∙ take-append-drop 4 text)

pub front_eight : (text field behind : List ℕ) (n : ℕ) → AreBytes text → 8 ≤ length text → field ≡ take 8 text → behind ≡ drop 8 text → n ≡ from_be_bytes w64 field → text ≡ to_be_bytes w64 n ++ behind
front_eight text field behind n fits some front back number =
    let eight : length (take 8 text) ≡ 8 = omega (arith, some, length-take 8 text) in
    let bytes : to_be_bytes w64 n ≡ take 8 text = be_bytes_8 (take 8 text) n eight (bytes-take 8 text fits) (number ∙ ap (from_be_bytes w64) front) in
    sym ((λ i. bytes i ++ back i) ∙ take-append-drop 8 text)
