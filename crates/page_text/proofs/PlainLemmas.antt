-- What is written of a text is plain.
use Rattle.std.proofs.Common.{◌≡◌, ℕ, ◌+◌, ◌/◌, ◌%◌, List, [], ◌∷◌, ◌++◌, Bool, true, false, ◌==◌, if◌then◌else◌, refl, sym, ◌∙◌, arith}
use Rattle.std.specs.Prelude.{IsTrue, ◌&&◌, not, codes}
use Rattle.std.specs.List.{list_all}
use Rattle.std.proofs.lemmas.Bool.Decides.{nat_tests}
use Rattle.std.proofs.lemmas.List.Folds.{list_all-append}
use Rattle.terminal_text.specs.Shown.{escape, hex_digit, is_printable, quoted}
use Rattle.page_text.specs.Markup.{escaped, escaped_byte, is_plain}

both : (a b : Bool) → a ≡ true → b ≡ true → (a && b) ≡ true
both true true s t = refl
both true false s t = t
both false b s t = s

all-append : (xs ys : List ℕ) → list_all is_plain xs ≡ true → list_all is_plain ys ≡ true → list_all is_plain (xs ++ ys) ≡ true
all-append xs ys a b = list_all-append is_plain xs ys ∙ both (list_all is_plain xs) (list_all is_plain ys) a b

digit-plain : (n : ℕ) → is_plain (hex_digit n) ≡ true
digit-plain n = grind (arith, nat_tests)

escape-plain : (b : ℕ) → list_all is_plain (escape b) ≡ true
escape-plain b = both (is_plain (hex_digit (b / 16))) (is_plain (hex_digit (b % 16)) && true) (digit-plain (b / 16)) (both (is_plain (hex_digit (b % 16))) true (digit-plain (b % 16)) refl)

quoted-by : (b : ℕ) (c : Bool) → (c ≡ true → is_plain b ≡ true) → list_all is_plain ((if c then b ∷ [] else escape b) ++ []) ≡ true
quoted-by b true plain = both (is_plain b) true (plain refl) refl
quoted-by b false plain = all-append (escape b) [] (escape-plain b) refl

-- a byte that has no name, where it is printable
kept-plain : (p l g q : Bool) → l ≡ false → g ≡ false → q ≡ false → p ≡ true → (p && not l && not g && not q) ≡ true
kept-plain true false false false l g q p = refl
kept-plain true true g q l' g' q' p = sym l' ∙ p
kept-plain true false true q l' g' q' p = sym g' ∙ p
kept-plain true false false true l' g' q' p = sym q' ∙ p
kept-plain false l g q l' g' q' p = p

named-plain : (b : ℕ) (a l g q : Bool) → (l ≡ false → g ≡ false → q ≡ false → list_all is_plain (quoted (b ∷ [])) ≡ true)
    → list_all is_plain (if a then codes "&amp;" else (if l then codes "&lt;" else (if g then codes "&gt;" else (if q then codes "&quot;" else quoted (b ∷ []))))) ≡ true
named-plain b true l g q rest = refl
named-plain b false true g q rest = refl
named-plain b false false true q rest = refl
named-plain b false false false true rest = refl
named-plain b false false false false rest = rest refl refl refl

byte-plain : (b : ℕ) → list_all is_plain (escaped_byte b) ≡ true
byte-plain b =
    named-plain b (b == 38) (b == 60) (b == 62) (b == 34)
    (λ l g q. quoted-by b (is_printable b) (kept-plain (is_printable b) (b == 60) (b == 62) (b == 34) l g q))

pub escaped-plain : (words : List ℕ) → IsTrue (list_all is_plain (escaped words))
unfolding escaped
escaped-plain [] = refl
escaped-plain (b ∷ words) = all-append (escaped_byte b) (escaped words) (byte-plain b) (escaped-plain words)
