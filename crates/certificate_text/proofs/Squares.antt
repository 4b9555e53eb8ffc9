-- Squares in decimal with a separator between each two, square by square.
use Rattle.std.proofs.Common.{◌≡◌, ℕ, zero, suc, false, ◌+◌, ◌<◌, ◌≤◌, ◌⊎◌, inl, inr, List, [], ◌∷◌, ◌++◌, length, refl, sym, ◌∙◌, ap, subst, arith, append_assoc, append-nil, decimal, take, set, Option, Some, None}
use Rattle.std.specs.Prelude.{All}
use Rattle.std.specs.List.{flat_map}
use Rattle.std.proofs.lemmas.Grind.{flat_map-append}
use Rattle.std.proofs.lemmas.List.Elements.{All-head, All-tail}
use Rattle.std.proofs.lemmas.Fmt.{decimal_injective}
use Rattle.std.proofs.lemmas.Bool.{true≢false}
use Rattle.std.proofs.lemmas.List.{length-append}
use Rattle.std.proofs.Math.Seq.{take-suc-set}
use Rattle.std.specs.Char.{is_ascii_digit}
use Rattle.std.specs.Option.{IfSome, IfNone}
use Rattle.std.specs.Prelude.{◌↔◌, IsNone}
use Rattle.draughts_board.specs.Geometry.{IsSquare}
use Rattle.strategy_certificate.specs.Parts.{IsPath}
use Rattle.certificate_text.specs.Lines.{squares_text, further_squares}
use Rattle.shared_words.specs.Bytes.{Lacks}
use Rattle.shared_words.proofs.LackingBytes.{halves_agree, Lacks-split}
use Rattle.shared_words.proofs.Numerals.{Lacks-decimal}

-- squares, each with the separator behind it
abbrev pub ended : ℕ → List ℕ → List ℕ
ended sep squares = flat_map (λ square. decimal square ++ sep ∷ []) squares

pub ended_next : (sep : ℕ) (squares : List ℕ) (s : ℕ) (rest : List ℕ) → ended sep (squares ++ s ∷ []) ++ rest ≡ ended sep squares ++ (decimal s ++ sep ∷ rest)
ended_next sep squares s rest =
    ap (λ t. t ++ rest) (flat_map-append (λ square. decimal square ++ sep ∷ []) squares (s ∷ []))
    ∙ append_assoc (ended sep squares) ((decimal s ++ sep ∷ []) ++ []) rest
    ∙ ap (λ t. ended sep squares ++ t) (ap (λ t. t ++ rest) (append-nil (decimal s ++ sep ∷ [])) ∙ append_assoc (decimal s) (sep ∷ []) rest)

-- the last square has no separator behind it
pub ended_last : (sep : ℕ) (squares : List ℕ) (s : ℕ) → ended sep squares ++ decimal s ≡ squares_text sep (squares ++ s ∷ [])
ended_last sep [] s = sym (append-nil (decimal s))
ended_last sep (a ∷ squares) s =
    append_assoc (decimal a ++ sep ∷ []) (ended sep squares) (decimal s)
    ∙ append_assoc (decimal a) (sep ∷ []) (ended sep squares ++ decimal s)
    ∙ ap (λ t. decimal a ++ sep ∷ t) (ended_last sep squares s)
    ∙ ap (λ t. decimal a ++ t) (further squares)
  where
    further : (squares : List ℕ) → sep ∷ squares_text sep (squares ++ s ∷ []) ≡ further_squares sep (squares ++ s ∷ [])
    further [] = refl
    further (b ∷ squares) = refl

-- of the squares of the whole path, those behind the ones read so far, and their text
pub record Left (sep : ℕ) (full front rest : List ℕ) : Type 0 where
  pub here : ℕ
  pub more : List ℕ
  pub whole : full ≡ front ++ here ∷ more
  pub each : All IsSquare (here ∷ more)
  pub spelled : rest ≡ squares_text sep (here ∷ more)

pub Left-start : (sep : ℕ) (full text : List ℕ) → IsPath full → text ≡ squares_text sep full → Left sep full [] text
Left-start sep [] text path e = absurd (let h : 2 ≤ 0 = path.0 in omega arith)
Left-start sep (a ∷ more) text path e = record { here = a; more = more; whole = refl; each = path.2; spelled = e }

abbrev pub IsSeparator : ℕ → Type 0
IsSeparator sep = (sep ≡ 45) ⊎ (sep ≡ 120)

no_digit : (sep : ℕ) → IsSeparator sep → is_ascii_digit sep ≡ false
no_digit sep (inl e) = subst (λ b. is_ascii_digit b ≡ false) (sym e) refl
no_digit sep (inr e) = subst (λ b. is_ascii_digit b ≡ false) (sym e) refl

pub bare : (sep s : ℕ) → IsSeparator sep → IsSquare s → Lacks sep (decimal s)
bare sep s h one = Lacks-decimal sep s (no_digit sep h) (let top : s ≤ 32 = one.1 in omega arith)

-- where a separator stands, the word before it is the next square, and there is one more
pub record Stepped (sep : ℕ) (full front word behind : List ℕ) : Type 0 where
  pub square : ℕ
  pub one : IsSquare square
  pub word_is : word ≡ decimal square
  pub left : Left sep full (front ++ square ∷ []) behind

pub Left-step : (sep : ℕ) (full front rest word behind : List ℕ) → IsSeparator sep → Left sep full front rest → Lacks sep word → rest ≡ word ++ sep ∷ behind → Stepped sep full front word behind
Left-step sep full front rest word behind h left lacks e = at left.more left.whole left.each (sym left.spelled ∙ e)
  where
    at : (more : List ℕ) → full ≡ front ++ left.here ∷ more → All IsSquare (left.here ∷ more) → squares_text sep (left.here ∷ more) ≡ word ++ sep ∷ behind → Stepped sep full front word behind
    at [] whole each same =
        let one = All-head IsSquare left.here [] each in
        absurd (Lacks-split sep word behind (subst (Lacks sep) (sym (append-nil (decimal left.here)) ∙ same) (bare sep left.here h one)))
    at (b ∷ more) whole each same =
        let one = All-head IsSquare left.here (b ∷ more) each in
        let both = halves_agree sep (decimal left.here) word (decimal b ++ further_squares sep more) behind (bare sep left.here h one) lacks same in
        record {
          square = left.here;
          one = one;
          word_is = sym both.0;
          left = record {
            here = b;
            more = more;
            whole = whole ∙ sym (append_assoc front (left.here ∷ []) (b ∷ more));
            each = All-tail IsSquare left.here (b ∷ more) each;
            spelled = sym both.1;
          };
        }

-- where no separator stands, one square is left
pub record Last (full front word : List ℕ) : Type 0 where
  pub square : ℕ
  pub one : IsSquare square
  pub word_is : word ≡ decimal square
  pub whole : full ≡ front ++ square ∷ []

pub Left-last : (sep : ℕ) (full front rest : List ℕ) → IsSeparator sep → Left sep full front rest → Lacks sep rest → Last full front rest
Left-last sep full front rest h left lacks = at left.more left.whole left.each left.spelled
  where
    at : (more : List ℕ) → full ≡ front ++ left.here ∷ more → All IsSquare (left.here ∷ more) → rest ≡ squares_text sep (left.here ∷ more) → Last full front rest
    at [] whole each same = record { square = left.here; one = All-head IsSquare left.here [] each; word_is = same ∙ append-nil (decimal left.here); whole = whole }
    at (b ∷ more) whole each same = absurd (Lacks-split sep (decimal left.here) (decimal b ++ further_squares sep more) (subst (Lacks sep) same lacks))

pub taken_next : (path : List ℕ) (count s : ℕ) → count < length path → take (count + 1) (set path count s) ≡ take count path ++ s ∷ []
taken_next path count s lt = let next : suc count ≡ count + 1 = omega arith in ap (λ n. take n (set path count s)) (sym next) ∙ take-suc-set path count s lt

-- too many squares
pub too_many : (full front : List ℕ) (square here : ℕ) (more : List ℕ) → full ≡ (front ++ square ∷ []) ++ here ∷ more → length front ≡ 12 → length full ≤ 13 → ⊥
too_many full front square here more e twelve most =
    let a = ap length e ∙ length-append (front ++ square ∷ []) (here ∷ more) in
    let b = length-append front (square ∷ []) in
    omega (arith, a, b)

long : (P : List ℕ) → ¬ (((length P) < 2) ⊎ (13 < length P)) → 2 ≤ length P
long [] h = absurd (h (inl (omega arith)))
long (a ∷ []) h = absurd (h (inl (omega arith)))
long (a ∷ b ∷ P) h = omega arith

pub path_some : (r : Option (List ℕ)) (P : List ℕ) (sep : ℕ) (text : List ℕ) → IsNone r ↔ (((length P) < 2) ⊎ (13 < length P)) → IfSome r (λ m. m ≡ P)
    → length P ≤ 13 → All IsSquare P → text ≡ squares_text sep P → IfSome r (λ m. IsPath m × (text ≡ squares_text sep m))
path_some None P sep text none some most each e = tt
path_some (Some m) P sep text none some most each e =
    let whole : IsPath P = (long P (λ h. absurd (true≢false (none.1 h))), most, each) in
    (subst IsPath (sym some) whole, e ∙ ap (squares_text sep) (sym some))

pub no_path : (P path : List ℕ) → ((length P) < 2) ⊎ (13 < length P) → IsPath path → path ≡ P → ⊥
no_path P path (inl few) whole e = let l = ap length e in let h = whole.0 in omega (arith, l, h)
no_path P path (inr many) whole e = let l = ap length e in let h = whole.1 in omega (arith, l, h)

pub same_square : (s t : ℕ) → IsSquare s → IsSquare t → decimal s ≡ decimal t → s ≡ t
same_square s t one two e = decimal_injective s t (let h : s ≤ 32 = one.1 in omega arith) (let h : t ≤ 32 = two.1 in omega arith) e

pub same_squares : (sep a : ℕ) (p : List ℕ) (b : ℕ) (q : List ℕ) → IsSeparator sep → All IsSquare (a ∷ p) → All IsSquare (b ∷ q) → squares_text sep (a ∷ p) ≡ squares_text sep (b ∷ q) → a ∷ p ≡ b ∷ q
same_squares sep a [] b [] h one two e =
    ap (λ n. n ∷ []) (same_square a b (All-head IsSquare a [] one) (All-head IsSquare b [] two) (sym (append-nil (decimal a)) ∙ e ∙ append-nil (decimal b)))
same_squares sep a [] b (c ∷ q) h one two e =
    absurd (Lacks-split sep (decimal b) (squares_text sep (c ∷ q)) (subst (Lacks sep) (sym (append-nil (decimal a)) ∙ e) (bare sep a h (All-head IsSquare a [] one))))
same_squares sep a (c ∷ p) b [] h one two e =
    absurd (Lacks-split sep (decimal a) (squares_text sep (c ∷ p)) (subst (Lacks sep) (sym (append-nil (decimal b)) ∙ sym e) (bare sep b h (All-head IsSquare b [] two))))
same_squares sep a (c ∷ p) b (d ∷ q) h one two e =
    let both = halves_agree sep (decimal a) (decimal b) (squares_text sep (c ∷ p)) (squares_text sep (d ∷ q)) (bare sep a h (All-head IsSquare a (c ∷ p) one)) (bare sep b h (All-head IsSquare b (d ∷ q) two)) e in
    let heads = same_square a b (All-head IsSquare a (c ∷ p) one) (All-head IsSquare b (d ∷ q) two) both.0 in
    let rest = same_squares sep c p d q h (All-tail IsSquare a (c ∷ p) one) (All-tail IsSquare b (d ∷ q) two) both.1 in
    λ i. heads i ∷ rest i

pub same_paths : (sep : ℕ) (p q : List ℕ) → IsSeparator sep → IsPath p → IsPath q → squares_text sep p ≡ squares_text sep q → p ≡ q
same_paths sep [] q h one two e = absurd (let k : 2 ≤ 0 = one.0 in omega arith)
same_paths sep (a ∷ p) [] h one two e = absurd (let k : 2 ≤ 0 = two.0 in omega arith)
same_paths sep (a ∷ p) (b ∷ q) h one two e = same_squares sep a p b q h one.2 two.2 e

-- ---- one square

pub square_some : (r : Option ℕ) (n : ℕ) (text : List ℕ) → IsNone r ↔ (¬ IsSquare n) → IfSome r (λ s. s ≡ n) → n ≤ 32 → text ≡ decimal n → IfSome r (λ s. IsSquare s × (text ≡ decimal s))
square_some None n text none some most e = tt
square_some (Some s) zero text none some most e = absurd (true≢false (none.1 (λ one. let h : 1 ≤ 0 = one.0 in omega arith)))
square_some (Some s) (suc n) text none some most e =
    let one : IsSquare (suc n) = (omega arith, most) in (subst IsSquare (sym some) one, e ∙ ap decimal (sym some))

pub square_none : (r : Option ℕ) (n : ℕ) (text : List ℕ) → IsNone r ↔ (¬ IsSquare n) → n ≤ 32 → text ≡ decimal n → IfNone r ((s : ℕ) → IsSquare s → text ≡ decimal s → ⊥)
square_none None n text none most e =
    λ s one same. none.0 refl (subst IsSquare (decimal_injective s n (let top : s ≤ 32 = one.1 in omega arith) (omega arith) (sym same ∙ e)) one)
square_none (Some s) n text none most e = tt
