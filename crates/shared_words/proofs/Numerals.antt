-- What `parse` reads of bytes, and `decimal`.
use Rattle.std.proofs.Common.{◌≡◌, ◌≢◌, ◌<◌, ◌≤◌, ◌^◌, ℕ, List, [], ◌∷◌, get_or, length, zero, suc, Result, Ok, Err, Option, sym, ◌∙◌, ap, arith, rules, decimal, refl, false}
use Rattle.std.proofs.lemmas.Fmt.{decimal_digit, decimal_nonempty, first_decimal, digits_decimal, decimal-digits_value, parse-decimal, IsAscii-decimal}
use Rattle.std.proofs.lemmas.Str.{IsUtf8-from_ascii}
use Rattle.std.proofs.lemmas.Str.Parse.{IsNumeralModel, numerals_by_value, tells_digits, digit_at, parse_plain}
use Rattle.std.specs.Char.{is_ascii_digit}
use Rattle.std.specs.Str.{IsUtf8}
use Rattle.std.specs.Str.Parse.{AllDigits, digits_value, ParsesUnsigned}
use Rattle.std.specs.Option.{IfSome, IfNone}
use Rattle.std.specs.Result.{result_ok}
use Rattle.shared_words.specs.Bytes.{Lacks}
use Rattle.shared_words.proofs.LackingBytes.{Lacks-cons}

numerals : IsNumeralModel (AllDigits 10) (digits_value 10)
numerals = numerals_by_value (AllDigits 10) tells_digits

-- it begins with no sign
decimal_unsigned : (n : ℕ) → n < 2 ^ 64 → get_or (decimal n) 0 0 ≢ 43
decimal_unsigned n small plus =
    let range = digit_at (decimal n) 0 (digits_decimal numerals n small) (decimal_nonempty n small) in
    omega arith

-- it begins with a zero only where it is `0`
decimal_zero : (n : ℕ) → n < 2 ^ 64 → get_or (decimal n) 0 0 ≡ 48 → length (decimal n) ≡ 1
decimal_zero zero small first = ap length (decimal_digit 0 (omega arith))
decimal_zero (suc n) small first = let above = first_decimal (suc n) (omega arith) small in omega arith

-- what was read of bytes: the number whose digits they are, or that they are no number's
pub record IsRead (bytes : List ℕ) (read : Option ℕ) : Type 0 where
  pub digits : IfSome read (λ n. bytes ≡ decimal n)
  pub other : IfNone read ((n : ℕ) → n < 2 ^ 64 → bytes ≢ decimal n)

-- where the bytes have no sign and no leading zero, `parse` reads them so
pub IsRead-parse : {E : Type 0} (bytes : List ℕ) (r : Result ℕ E) → ParsesUnsigned 64 10 bytes r → 0 < length bytes → get_or bytes 0 0 ≢ 43 → (get_or bytes 0 0 ≡ 48 → length bytes ≡ 1) → IsRead bytes (result_ok r)
IsRead-parse {E} bytes (Ok n) parses some unsigned alone =
    let plain = parse_plain numerals {E = E} 64 bytes (Ok n) parses unsigned in
    let small : digits_value 10 bytes < 2 ^ 64 = plain.0.2 in
    let written : bytes ≡ decimal n = sym (decimal-digits_value numerals bytes plain.0.0 some alone small) ∙ ap decimal (sym plain.1) in
    record { digits = written; other = tt }
IsRead-parse bytes (Err e) parses some unsigned alone = record {
  digits = tt;
  other = λ n small same. let read : Err e ≡ Ok n = parse-decimal 64 n bytes (Err e) small small same parses in search rules;
}

-- what a number's digits begin with
pub record BeginsAsNumber (bytes : List ℕ) : Type 0 where
  pub some : 0 < length bytes
  pub unsigned : get_or bytes 0 0 ≢ 43
  pub alone : get_or bytes 0 0 ≡ 48 → length bytes ≡ 1
  pub utf8 : IsUtf8 bytes

pub begins_as_number : (bytes : List ℕ) (n : ℕ) → n < 2 ^ 64 → bytes ≡ decimal n → BeginsAsNumber bytes
begins_as_number bytes n small same = rw same (record {
  some = decimal_nonempty n small;
  unsigned = decimal_unsigned n small;
  alone = decimal_zero n small;
  utf8 = IsUtf8-from_ascii (decimal n) (IsAscii-decimal n small);
})

-- ---- numbers have no separator in them

no_digit : (byte d : ℕ) → is_ascii_digit byte ≡ false → 48 ≤ d → d ≤ 57 → d ≢ byte
no_digit byte d other low high same = grind arith

Lacks-digits : (byte : ℕ) (digits : List ℕ) → is_ascii_digit byte ≡ false → AllDigits 10 digits → Lacks byte digits
Lacks-digits byte [] other each = refl
Lacks-digits byte (d ∷ digits) other each =
    let range = digit_at (d ∷ digits) 0 each (omega arith) in
    Lacks-cons byte d digits (no_digit byte d other (omega arith) (omega arith)) (Lacks-digits byte digits other each.1)

pub Lacks-decimal : (byte n : ℕ) → is_ascii_digit byte ≡ false → n < 2 ^ 64 → Lacks byte (decimal n)
Lacks-decimal byte n other small = Lacks-digits byte (decimal n) other (digits_decimal numerals n small)
