-- How the text grows, line by line.
use Rattle.std.proofs.Common.{◌≡◌, ℕ, suc, ◌+◌, ◌<◌, List, [], ◌∷◌, ◌++◌, length, get_or, take, drop, map, refl, sym, ◌∙◌, ap, subst, arith, append_assoc, append-nil, drop-cons, Some, codes}
use Rattle.std.specs.Prelude.{All, slice_get, unwrap_or}
use Rattle.std.specs.List.{flat_map}
use Rattle.std.proofs.Math.Seq.{take-suc}
use Rattle.std.proofs.lemmas.Grind.{flat_map-append}
use Rattle.std.proofs.lemmas.List.Elements.{All-push}
use Rattle.std.proofs.lemmas.Option.{unwrap_or-slice_get, slice_get_within}
use Rattle.strategy_certificate.specs.declared.certificates.Part.{Part}
use Rattle.strategy_certificate.specs.declared.certificates.Certificate.{Certificate}
use Rattle.certificate_text.specs.Lines.{Line, end, line_text, text_of_lines}
use Rattle.certificate_text.specs.Text.{part_lines, head_lines, lines_of}

pub lines_append : (a b : List Line) → text_of_lines (a ++ b) ≡ text_of_lines a ++ text_of_lines b
lines_append a b = flat_map-append (λ line. line_text line ++ 10 ∷ []) a b

-- the row at i, and those behind it
drop_at : {X : Type 0} (xs : List X) (i : ℕ) (x : X) → slice_get xs i ≡ Some x → drop i xs ≡ x ∷ drop (i + 1) xs
drop_at xs i x h =
    let lt = slice_get_within xs i x h in
    let next : suc i ≡ i + 1 = omega arith in
    let here : get_or xs i x ≡ x = sym (unwrap_or-slice_get xs i x) ∙ ap (λ o. unwrap_or o x) h in
    drop-cons xs i x lt ∙ (λ j. here j ∷ drop (next j) xs)

-- behind the row at i the rows behind it are left
pub rows_step : {X : Type 0} (f : X → Line) (xs : List X) (i : ℕ) (x : X) (before done : List ℕ) → slice_get xs i ≡ Some x
    → before ++ text_of_lines (map f (drop i xs)) ≡ done → (before ++ (line_text (f x) ++ 10 ∷ [])) ++ text_of_lines (map f (drop (i + 1) xs)) ≡ done
rows_step f xs i x before done h e =
    append_assoc before (line_text (f x) ++ 10 ∷ []) (text_of_lines (map f (drop (i + 1) xs)))
    ∙ ap (λ rows. before ++ text_of_lines (map f rows)) (sym (drop_at xs i x h)) ∙ e

-- so with parts
pub parts_step : (parts : List Part) (i : ℕ) (x : Part) (before done : List ℕ) → i < length parts → x ≡ get_or parts i x
    → before ++ text_of_lines (flat_map part_lines (drop i parts)) ≡ done → (before ++ text_of_lines (part_lines x)) ++ text_of_lines (flat_map part_lines (drop (i + 1) parts)) ≡ done
parts_step parts i x before done lt h e =
    let next : suc i ≡ i + 1 = omega arith in
    let cut : drop i parts ≡ x ∷ drop (i + 1) parts = drop-cons parts i x lt ∙ (λ j. sym h j ∷ drop (next j) parts) in
    append_assoc before (text_of_lines (part_lines x)) (text_of_lines (flat_map part_lines (drop (i + 1) parts)))
    ∙ ap (λ t. before ++ t) (sym (lines_append (part_lines x) (flat_map part_lines (drop (i + 1) parts))))
    ∙ ap (λ ps. before ++ text_of_lines (flat_map part_lines ps)) (sym cut) ∙ e

pub All_next : {X : Type 0} (P : X → Type 0) (xs : List X) (i : ℕ) (x : X) → i < length xs → x ≡ get_or xs i x → All P (take i xs) → P x → All P (take (i + 1) xs)
All_next P xs i x lt h all one =
    let next : suc i ≡ i + 1 = omega arith in
    let cut : take (i + 1) xs ≡ take i xs ++ x ∷ [] = ap (λ j. take j xs) (sym next) ∙ take-suc xs i x lt ∙ ap (λ y. take i xs ++ y ∷ []) (sym h) in
    subst (All P) (sym cut) (All-push P (take i xs) x all one)

pub whole_text : (c : Certificate) → text_of_lines (lines_of c) ≡ (text_of_lines (head_lines c) ++ text_of_lines (flat_map part_lines c.parts)) ++ (101 ∷ 110 ∷ 100 ∷ 10 ∷ [])
whole_text c =
    lines_append (head_lines c ++ flat_map part_lines c.parts) (end ∷ [])
    ∙ ap (λ t. t ++ (101 ∷ 110 ∷ 100 ∷ 10 ∷ [])) (lines_append (head_lines c) (flat_map part_lines c.parts))

regrouped : (t A T k e P f C w : List ℕ) → (((((((t ++ (A ++ T)) ++ k) ++ (e ++ P)) ++ f) ++ (e ++ C)) ++ w) ++ e)
    ≡ t ++ (A ++ (((T ++ k) ++ e) ++ (((P ++ f) ++ e) ++ (((C ++ w) ++ e) ++ []))))
regrouped t A T k e P f C w = simp (append_assoc, append-nil) refl

pub head_grouped : (t k f w : List ℕ) → (((((((t ++ codes "certificate 1\ntable ") ++ k) ++ codes "\nposition ") ++ f) ++ codes "\nclaim ") ++ w) ++ 10 ∷ [])
    ≡ t ++ (codes "certificate 1\n" ++ (((codes "table " ++ k) ++ 10 ∷ []) ++ (((codes "position " ++ f) ++ 10 ∷ []) ++ (((codes "claim " ++ w) ++ 10 ∷ []) ++ []))))
head_grouped t k f w = regrouped t (codes "certificate 1\n") (codes "table ") k (10 ∷ []) (codes "position ") f (codes "claim ") w
