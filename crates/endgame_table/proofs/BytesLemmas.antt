-- The bytes of a table give it back.
use Rattle.std.proofs.Common.{◌≡◌, ℕ, ◌+◌, ◌^◌, ◌<◌, List, [], ◌∷◌, ◌++◌, length, take, drop, refl, sym, ◌∙◌, ap, arith}
use Rattle.std.specs.Prelude.{All, slice_index}
use Rattle.std.specs.List.{flat_map}
use Rattle.std.specs.Int.{from_be_bytes, to_be_bytes, w32}
use Rattle.std.proofs.lemmas.List.{length-append, take_at, drop_at, take_more, flat_map_more}
use Rattle.std.proofs.lemmas.List.Elements.{All-head, All-tail}
use Rattle.std.proofs.lemmas.Nat.{from_be_bytes-to_be_bytes_4}
use Rattle.endgame_table.specs.Bytes.{table_head, number_bytes, bytes_of}
use Rattle.endgame_table.specs.Laws.{BytesTellApart}

pub length-number_bytes : (n : ℕ) → length (number_bytes n) ≡ 4
unfolding number_bytes
length-number_bytes n = refl

pub number_from_bytes : (n : ℕ) → n < 2 ^ 32 → from_be_bytes w32 (number_bytes n) ≡ n
unfolding number_bytes
number_from_bytes n fits = from_be_bytes-to_be_bytes_4 n fits

same_numbers : (a b : List ℕ) → All (λ n. n < 2 ^ 32) a → All (λ n. n < 2 ^ 32) b → flat_map number_bytes a ≡ flat_map number_bytes b → a ≡ b
same_numbers [] [] small_a small_b same = refl
same_numbers [] (y ∷ b) small_a small_b same =
    let long = length-append (number_bytes y) (flat_map number_bytes b) in
    let four = length-number_bytes y in
    absurd (let e = ap length same in omega arith)
same_numbers (x ∷ a) [] small_a small_b same =
    let long = length-append (number_bytes x) (flat_map number_bytes a) in
    let four = length-number_bytes x in
    absurd (let e = ap length same in omega arith)
same_numbers (x ∷ a) (y ∷ b) small_a small_b same =
    let front : number_bytes x ≡ number_bytes y =
    sym (take_at (number_bytes x) (flat_map number_bytes a) 4 (length-number_bytes x))
    ∙ (ap (take 4) same ∙ take_at (number_bytes y) (flat_map number_bytes b) 4 (length-number_bytes y)) in
    let behind : flat_map number_bytes a ≡ flat_map number_bytes b =
    sym (drop_at (number_bytes x) (flat_map number_bytes a) 4 (length-number_bytes x))
    ∙ (ap (drop 4) same ∙ drop_at (number_bytes y) (flat_map number_bytes b) 4 (length-number_bytes y)) in
    let heads : x ≡ y =
    sym (number_from_bytes x (All-head (λ n. n < 2 ^ 32) x a small_a))
    ∙ (ap (from_be_bytes w32) front ∙ number_from_bytes y (All-head (λ n. n < 2 ^ 32) y b small_b)) in
    let tails : a ≡ b = same_numbers a b (All-tail (λ n. n < 2 ^ 32) x a small_a) (All-tail (λ n. n < 2 ^ 32) y b small_b) behind in
    ap (λ n. n ∷ a) heads ∙ ap (λ ns. y ∷ ns) tails

pub bytes_tell_apart : BytesTellApart
bytes_tell_apart j k a b small_a small_b same =
    (ap (λ bytes. slice_index bytes 7) same, same_numbers a b small_a small_b (ap (drop 8) same))

-- ---- one number more

number_bytes-is : (n : ℕ) → number_bytes n ≡ to_be_bytes w32 n
unfolding number_bytes
number_bytes-is n = refl

pub bytes-more : (k : ℕ) (numbers : List ℕ) (i : ℕ) → i < length numbers
    → bytes_of k (take i numbers) ++ to_be_bytes w32 (slice_index numbers i) ≡ bytes_of k (take (i + 1) numbers)
bytes-more k numbers i below =
    ap (λ bytes. bytes_of k (take i numbers) ++ bytes) (sym (number_bytes-is (slice_index numbers i)))
    ∙ (flat_map_more number_bytes (table_head k) (take i numbers) (slice_index numbers i) ∙ ap (bytes_of k) (sym (take_more numbers i 0 below)))
