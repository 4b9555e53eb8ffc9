-- The bytes of a table: how many they are, and reading them back.
use Rattle.std.proofs.Common.{◌≡◌, ℕ, ◌+◌, ◌-◌, ◌*◌, ◌^◌, ◌<◌, ◌%◌, List, [], ◌∷◌, ◌++◌, length, take, drop, refl, sym, ◌∙◌, ap, subst, arith, length-append, append_assoc}
use Rattle.std.specs.List.{flat_map, All}
use Rattle.std.specs.Int.{to_be_bytes, w32}
use Rattle.std.proofs.lemmas.List.{nil_from_length, append-nil, length-drop, take-append-drop}
use Rattle.std.proofs.lemmas.List.Concat.{flat_map-cons}
use Rattle.std.proofs.lemmas.List.Elements.{All-push}
use Rattle.std.proofs.lemmas.Grind.{flat_map-append}
use Rattle.endgame_table.specs.Bytes.{table_head, number_bytes, bytes_of}
use Rattle.table_checker.specs.Faults.{BeginsTable, HasTableForm, due_length}

-- ---- lengths

length-number_bytes : (n : ℕ) → length (number_bytes n) ≡ 4
unfolding number_bytes
length-number_bytes n = refl

pub length-numbers : (numbers : List ℕ) → length (flat_map number_bytes numbers) ≡ 4 * length numbers
length-numbers [] = refl
length-numbers (n ∷ numbers) =
    ap length (flat_map-cons number_bytes n numbers) ∙ length-append (number_bytes n) (flat_map number_bytes numbers)
    ∙ (let one = length-number_bytes n in let rest = length-numbers numbers in omega arith)

pub length-bytes_of : (k : ℕ) (numbers : List ℕ) → length (bytes_of k numbers) ≡ 8 + 4 * length numbers
length-bytes_of k numbers = length-append (table_head k) (flat_map number_bytes numbers) ∙ ap (λ n. 8 + n) (length-numbers numbers)

pub head-bytes_of : (k : ℕ) (numbers : List ℕ) → take 8 (bytes_of k numbers) ≡ table_head k
head-bytes_of k numbers = refl

-- ---- reading

-- number_bytes, as a text that is split behind a number has it
pub number_split : (rest behind : List ℕ) (n : ℕ) → rest ≡ to_be_bytes w32 n ++ behind → rest ≡ number_bytes n ++ behind
unfolding number_bytes
number_split rest behind n e = e

-- one number more is read
pub read_more : (bytes rest behind old new : List ℕ) (n : ℕ) → bytes ≡ flat_map number_bytes old ++ rest → rest ≡ number_bytes n ++ behind
    → new ≡ old ++ n ∷ [] → bytes ≡ flat_map number_bytes new ++ behind
read_more bytes rest behind old new n is split more =
    let before : List ℕ = flat_map number_bytes old in
    let one : flat_map number_bytes (n ∷ []) ≡ number_bytes n = flat_map-cons number_bytes n [] ∙ append-nil (number_bytes n) in
    let all : flat_map number_bytes new ≡ before ++ number_bytes n =
    ap (flat_map number_bytes) more ∙ flat_map-append number_bytes old (n ∷ []) ∙ ap (λ l. before ++ l) one in
    is ∙ ap (λ l. before ++ l) split ∙ sym (append_assoc before (number_bytes n) behind) ∙ ap (λ l. l ++ behind) (sym all)

pub words_more : (old new : List ℕ) (n : ℕ) → All (λ n. n < 2 ^ 32) old → n < 2 ^ 32 → new ≡ old ++ n ∷ [] → All (λ n. n < 2 ^ 32) new
words_more old new n words small more = subst (All (λ n. n < 2 ^ 32)) (sym more) (All-push (λ n. n < 2 ^ 32) old n words small)

-- what is left is as long as the numbers behind, and no number stands in fewer than four bytes
pub rest_shorter : (rest behind : List ℕ) (n : ℕ) → rest ≡ number_bytes n ++ behind → length rest ≡ 4 + length behind
rest_shorter rest behind n split = ap length split ∙ length-append (number_bytes n) behind ∙ ap (λ k. k + length behind) (length-number_bytes n)

pub all_read : (bytes rest numbers : List ℕ) → bytes ≡ flat_map number_bytes numbers ++ rest → length rest < 4 → length rest % 4 ≡ 0 → bytes ≡ flat_map number_bytes numbers
all_read bytes rest numbers is short whole = is ∙ ap (λ l. flat_map number_bytes numbers ++ l) (nil_from_length rest (omega (arith, short, whole))) ∙ append-nil (flat_map number_bytes numbers)

-- ---- the form

-- bytes of a table's head and length, whose rest is these numbers, have the form
pub form-read : (k : ℕ) (bytes rest numbers : List ℕ) → BeginsTable k bytes → length bytes ≡ due_length k → rest ≡ drop 8 bytes
    → rest ≡ flat_map number_bytes numbers → All (λ n. n < 2 ^ 32) numbers → HasTableForm k numbers bytes
form-read k bytes rest numbers begins long behind read words =
    let after : length rest ≡ length bytes - 8 = ap length behind ∙ length-drop 8 bytes in
    let four : length rest ≡ 4 * length numbers = ap length read ∙ length-numbers numbers in
    record {
      size = begins.size;
      entries = omega arith;
      words = words;
      written = sym (take-append-drop 8 bytes) ∙ ap (λ l. l ++ drop 8 bytes) begins.head ∙ ap (λ l. table_head k ++ l) (sym behind ∙ read);
    }

-- bytes of the form begin as a table does, and have its length
pub begins-form : (k : ℕ) (numbers bytes : List ℕ) → HasTableForm k numbers bytes → BeginsTable k bytes
begins-form k numbers bytes form = record { size = form.size; head = ap (take 8) form.written ∙ head-bytes_of k numbers }

pub length-form : (k : ℕ) (numbers bytes : List ℕ) → HasTableForm k numbers bytes → length bytes ≡ due_length k
length-form k numbers bytes form =
    let long : length bytes ≡ 8 + 4 * length numbers = ap length form.written ∙ length-bytes_of k numbers in
    let entries = form.entries in
    omega arith
