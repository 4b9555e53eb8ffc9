-- Which words ask for a play, and where others are refused.
use Rattle.std.proofs.Common.{◌≡◌, ◌≢◌, ◌<◌, ◌≤◌, ◌+◌, ◌^◌, ℕ, List, [], ◌∷◌, ◌++◌, inl, inr, ◌⊎◌, refl, sym, ◌∙◌, ap, subst, arith, length, take, drop, get_or, codes, decimal, lit<, ◌==◌, if◌then◌else◌}
use Rattle.std.proofs.lemmas.Fmt.{decimal_injective}
use Rattle.draughts_board.specs.declared.pieces.Side.{Side}
use Rattle.draughts_board.specs.declared.pieces.Side.TheVariants.{Black, White}
use Rattle.bench_edges.specs.Words.{IsRootNumber}
use Rattle.certificate_text.specs.Lines.{side_word}
use Rattle.strategy_player.specs.Words.{BeginsRequest, IsRefusedAt, Says}

cons_head : {X : Type 0} (x y : X) (xs ys : List X) → x ∷ xs ≡ y ∷ ys → x ≡ y
cons_head x y xs ys same = cc

cons_tail : {X : Type 0} (x y : X) (xs ys : List X) → x ∷ xs ≡ y ∷ ys → xs ≡ ys
cons_tail x y xs ys same = cc

-- the side whose word begins so
side_told : List ℕ → Side
side_told text = if get_or text 0 0 == 98 then Black else White

side_told_is : (side : Side) → side_told (side_word side) ≡ side
unfolding side_told
side_told_is Black = refl
side_told_is White = refl

pub same_side_word : (a b : Side) → side_word a ≡ side_word b → a ≡ b
same_side_word a b same = sym (side_told_is a) ∙ ap side_told same ∙ side_told_is b

small : (n : ℕ) → IsRootNumber n → n < 2 ^ 64
small n number = omega arith

pub same_root : (m n : ℕ) → IsRootNumber m → IsRootNumber n → decimal m ≡ decimal n → m ≡ n
same_root m n one two same = decimal_injective m n (small m one) (small n two) same

-- what the words say by their parts
pub says_by : (words : List (List ℕ)) (path : List ℕ) (root : ℕ) (side : Side) → words ≡ path ∷ decimal root ∷ side_word side ∷ [] → path ≢ [] → IsRootNumber root → Says words root side
says_by words path root side spelling named number = record { path = path; spelling = spelling; named = named; number = number }

-- one request
pub says_once : (words : List (List ℕ)) (root other : ℕ) (side another : Side) → Says words root side → Says words other another → (root ≡ other) × (side ≡ another)
says_once words root other side another one two =
    let same = sym one.spelling ∙ two.spelling in
    let tail = cons_tail one.path two.path (decimal root ∷ side_word side ∷ []) (decimal other ∷ side_word another ∷ []) same in (
      same_root root other one.number two.number (cons_head (decimal root) (decimal other) (side_word side ∷ []) (side_word another ∷ []) tail),
      same_side_word side another (cons_head (side_word side) (side_word another) [] [] (cons_tail (decimal root) (decimal other) (side_word side ∷ []) (side_word another ∷ []) tail)),
    )

first_root : IsRootNumber 1
first_root = (omega arith, omega arith)

some_path : codes "p" ≢ []
some_path same = cc

begins_none : BeginsRequest []
begins_none = (codes "p" ∷ decimal 1 ∷ side_word Black ∷ [], (1, (Black, says_by _ (codes "p") 1 Black refl some_path first_root)))

begins_path : (path : List ℕ) → path ≢ [] → BeginsRequest (path ∷ [])
begins_path path named = (decimal 1 ∷ side_word Black ∷ [], (1, (Black, says_by _ path 1 Black refl named first_root)))

begins_root : (path : List ℕ) (root : ℕ) → path ≢ [] → IsRootNumber root → BeginsRequest (path ∷ decimal root ∷ [])
begins_root path root named number = (side_word Black ∷ [], (root, (Black, says_by _ path root Black refl named number)))

-- ---- the words, by their number

pub refused_none : IsRefusedAt [] 0
refused_none = record {
  no_request = λ root side says. (let e = says.spelling in cc);
  within = omega arith;
  good_before = begins_none;
  bad_with_it = λ inside. absurd (omega (arith, inside));
}

pub refused_path : (rest : List (List ℕ)) → IsRefusedAt ([] ∷ rest) 0
refused_path rest = record {
  no_request = λ root side says. says.named (sym (cons_head [] says.path rest _ says.spelling));
  within = omega arith;
  good_before = begins_none;
  bad_with_it = λ inside begins. (let says = begins.1.1.1 in says.named (sym (cons_head [] says.path begins.0 _ says.spelling)));
}

pub refused_short : (path : List ℕ) → path ≢ [] → IsRefusedAt (path ∷ []) 1
refused_short path named = record {
  no_request = λ root side says. (let e = says.spelling in cc);
  within = omega arith;
  good_before = begins_path path named;
  bad_with_it = λ inside. absurd (omega (arith, inside));
}

pub refused_root : (path word : List ℕ) (rest : List (List ℕ)) → path ≢ [] → ((n : ℕ) → IsRootNumber n → word ≢ decimal n) → IsRefusedAt (path ∷ word ∷ rest) 1
refused_root path word rest named none = record {
  no_request = λ root side says. none root says.number (cons_head word (decimal root) rest _ (cons_tail path says.path (word ∷ rest) _ says.spelling));
  within = omega arith;
  good_before = begins_path path named;
  bad_with_it = λ inside begins. (let says = begins.1.1.1 in none begins.1.0 says.number (cons_head word (decimal begins.1.0) begins.0 _ (cons_tail path says.path (word ∷ begins.0) _ says.spelling)));
}

pub refused_sideless : (path : List ℕ) (root : ℕ) → path ≢ [] → IsRootNumber root → IsRefusedAt (path ∷ decimal root ∷ []) 2
refused_sideless path root named number = record {
  no_request = λ other side says. (let e = cons_tail path says.path (decimal root ∷ []) _ says.spelling in cc);
  within = omega arith;
  good_before = begins_root path root named number;
  bad_with_it = λ inside. absurd (omega (arith, inside));
}

pub refused_side : (path : List ℕ) (root : ℕ) (word : List ℕ) (rest : List (List ℕ)) → path ≢ [] → IsRootNumber root → ((side : Side) → word ≢ side_word side)
    → IsRefusedAt (path ∷ decimal root ∷ word ∷ rest) 2
refused_side path root word rest named number none = record {
  no_request = λ other side says.
      none side (cons_head word (side_word side) rest _ (cons_tail (decimal root) (decimal other) (word ∷ rest) _ (cons_tail path says.path (decimal root ∷ word ∷ rest) _ says.spelling)));
  within = omega arith;
  good_before = begins_root path root named number;
  bad_with_it = λ inside begins. (let says = begins.1.1.1 in
      none begins.1.1.0 (cons_head word (side_word begins.1.1.0) begins.0 _ (cons_tail (decimal root) (decimal begins.1.0) (word ∷ begins.0) _ (cons_tail path says.path (decimal root ∷ word ∷ begins.0) _ says.spelling))));
}

pub refused_more : (path : List ℕ) (root : ℕ) (side : Side) (word : List ℕ) (rest : List (List ℕ)) → path ≢ [] → IsRootNumber root → IsRefusedAt (path ∷ decimal root ∷ side_word side ∷ word ∷ rest) 3
refused_more path root side word rest named number = record {
  no_request = λ other another says. (let e = ap length says.spelling in absurd (omega (arith, e)));
  within = omega arith;
  good_before = ([], (root, (side, says_by _ path root side refl named number)));
  bad_with_it = λ inside begins. (let e = ap length begins.1.1.1.spelling in absurd (omega (arith, e)));
}

-- ---- by what the code reads of them

pub at_nothing : (words : List (List ℕ)) → length words ≡ 0 → IsRefusedAt words 0
at_nothing [] long = refused_none
at_nothing (a ∷ rest) long = absurd (omega (arith, long))

pub at_no_path : (words : List (List ℕ)) → 0 < length words → get_or words 0 [] ≡ [] → IsRefusedAt words 0
at_no_path [] long none = absurd (omega (arith, long))
at_no_path (a ∷ rest) long none = subst (λ (w : List ℕ). IsRefusedAt (w ∷ rest) 0) (sym none) (refused_path rest)

pub at_path_alone : (words : List (List ℕ)) → length words ≡ 1 → get_or words 0 [] ≢ [] → IsRefusedAt words 1
at_path_alone [] long named = absurd (omega (arith, long))
at_path_alone (a ∷ []) long named = refused_short a named
at_path_alone (a ∷ b ∷ rest) long named = absurd (omega (arith, long))

pub at_no_root : (words : List (List ℕ)) → 1 < length words → get_or words 0 [] ≢ [] → ((n : ℕ) → IsRootNumber n → get_or words 1 [] ≢ decimal n) → IsRefusedAt words 1
at_no_root [] long named none = absurd (omega (arith, long))
at_no_root (a ∷ []) long named none = absurd (omega (arith, long))
at_no_root (a ∷ b ∷ rest) long named none = refused_root a b rest named none

pub at_root_alone : (words : List (List ℕ)) (root : ℕ) → length words ≡ 2 → get_or words 0 [] ≢ [] → IsRootNumber root → get_or words 1 [] ≡ decimal root → IsRefusedAt words 2
at_root_alone [] root long named number is = absurd (omega (arith, long))
at_root_alone (a ∷ []) root long named number is = absurd (omega (arith, long))
at_root_alone (a ∷ b ∷ []) root long named number is = subst (λ (w : List ℕ). IsRefusedAt (a ∷ w ∷ []) 2) (sym is) (refused_sideless a root named number)
at_root_alone (a ∷ b ∷ d ∷ rest) root long named number is = absurd (omega (arith, long))

pub at_no_side : (words : List (List ℕ)) (root : ℕ) → 2 < length words → get_or words 0 [] ≢ [] → IsRootNumber root → get_or words 1 [] ≡ decimal root
    → ((side : Side) → get_or words 2 [] ≢ side_word side) → IsRefusedAt words 2
at_no_side [] root long named number is none = absurd (omega (arith, long))
at_no_side (a ∷ []) root long named number is none = absurd (omega (arith, long))
at_no_side (a ∷ b ∷ []) root long named number is none = absurd (omega (arith, long))
at_no_side (a ∷ b ∷ d ∷ rest) root long named number is none = subst (λ (w : List ℕ). IsRefusedAt (a ∷ w ∷ d ∷ rest) 2) (sym is) (refused_side a root d rest named number none)

pub at_more : (words : List (List ℕ)) (root : ℕ) (side : Side) → 3 < length words → get_or words 0 [] ≢ [] → IsRootNumber root → get_or words 1 [] ≡ decimal root
    → get_or words 2 [] ≡ side_word side → IsRefusedAt words 3
at_more [] root side long named number is said = absurd (omega (arith, long))
at_more (a ∷ []) root side long named number is said = absurd (omega (arith, long))
at_more (a ∷ b ∷ []) root side long named number is said = absurd (omega (arith, long))
at_more (a ∷ b ∷ d ∷ []) root side long named number is said = absurd (omega (arith, long))
at_more (a ∷ b ∷ d ∷ e ∷ rest) root side long named number is said =
    subst (λ (w : List ℕ). IsRefusedAt (a ∷ w ∷ d ∷ e ∷ rest) 3) (sym is)
    (subst (λ (w : List ℕ). IsRefusedAt (a ∷ decimal root ∷ w ∷ e ∷ rest) 3) (sym said) (refused_more a root side e rest named number))

pub at_three : (words : List (List ℕ)) (root : ℕ) (side : Side) → length words ≡ 3 → get_or words 0 [] ≢ [] → IsRootNumber root → get_or words 1 [] ≡ decimal root
    → get_or words 2 [] ≡ side_word side → Says words root side
at_three [] root side long named number is said = absurd (omega (arith, long))
at_three (a ∷ []) root side long named number is said = absurd (omega (arith, long))
at_three (a ∷ b ∷ []) root side long named number is said = absurd (omega (arith, long))
at_three (a ∷ b ∷ d ∷ []) root side long named number is said =
    says_by (a ∷ b ∷ d ∷ []) a root side (ap (λ (w : List ℕ). a ∷ w ∷ d ∷ []) is ∙ ap (λ (w : List ℕ). a ∷ decimal root ∷ w ∷ []) said) named number
at_three (a ∷ b ∷ d ∷ e ∷ rest) root side long named number is said = absurd (omega (arith, long))
