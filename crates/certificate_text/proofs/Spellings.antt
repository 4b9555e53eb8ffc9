-- Words and moves are spelled in one way, and no byte that ends a line stands in them.
use Rattle.std.proofs.Common.{◌≡◌, ◌≢◌, ℕ, ◌<◌, ◌≤◌, ◌^◌, ◌==◌, Bool, true, false, List, [], ◌∷◌, ◌++◌, get_or, drop, refl, sym, ◌∙◌, ap, subst, arith, decimal, Option, Some, None, inl, inr}
use Rattle.std.specs.Prelude.{All, if◌then◌else◌}
use Rattle.std.specs.Option.{IfSome}
use Rattle.std.specs.List.{AllByRecursion}
use Rattle.std.proofs.lemmas.Bool.{true≢false, eqb-false}
use Rattle.std.proofs.lemmas.Fmt.{decimal_injective}
use Rattle.std.proofs.lemmas.List.Elements.{All-head, All-tail, recursion_from_All}
use Rattle.draughts_board.specs.Geometry.{IsSquare, row, distance}
use Rattle.draughts_board.specs.Board.{Board, IsLawful}
use Rattle.draughts_board.specs.declared.pieces.Side.{Side}
use Rattle.draughts_board.specs.declared.pieces.Side.TheVariants.{Black, White}
use Rattle.strategy_certificate.specs.declared.claims.Claim.{Claim}
use Rattle.strategy_certificate.specs.declared.claims.Claim.TheVariants.{Win, Hold, Draw}
use Rattle.strategy_certificate.specs.Parts.{IsPath}
use Rattle.fen_text.specs.Printed.{fen_of}
use Rattle.fen_text.specs.Laws.{is_printed_byte}
use Rattle.fen_text.proofs.Plain.{Lacks-fen}
use Rattle.certificate_text.specs.Lines.{side_word, claim_word, separator, squares_text, further_squares, move_text, choice_text}
use Rattle.shared_words.specs.Bytes.{Lacks}
use Rattle.shared_words.proofs.LackingBytes.{halves_agree, Lacks-cons, Lacks-first, Lacks-rest, Lacks-append}
use Rattle.shared_words.proofs.Numerals.{Lacks-decimal}
use Rattle.certificate_text.proofs.Squares.{IsSeparator, bare, same_paths}
use Rattle.certificate_text.proofs.Fields.{side_bare}

-- ---- bytes that do not stand in a text

-- the field of a position has no such byte
pub Lacks-field : (byte : ℕ) (p : Board) (field : List ℕ) → is_printed_byte byte ≡ false → IsLawful p → field ≡ fen_of p → Lacks byte field
Lacks-field byte p field other lawful e = subst (Lacks byte) (sym e) (Lacks-fen byte p other lawful)

pub Lacks-side : (side : Side) → Lacks 10 (side_word side)
Lacks-side Black = refl
Lacks-side White = refl

pub Lacks-claim : (c : Claim) → Lacks 10 (claim_word c)
Lacks-claim (Win Black) = refl
Lacks-claim (Win White) = refl
Lacks-claim (Hold Black) = refl
Lacks-claim (Hold White) = refl
Lacks-claim Draw = refl

-- ---- words

-- the side whose word begins so
side_told : List ℕ → Side
side_told text = if get_or text 0 0 == 98 then Black else White

side_told_is : (side : Side) → side_told (side_word side) ≡ side
unfolding side_told
side_told_is Black = refl
side_told_is White = refl

pub one_side : (s t : Side) → side_word s ≡ side_word t → s ≡ t
one_side s t e = sym (side_told_is s) ∙ ap side_told e ∙ side_told_is t

-- the claim whose word has these bytes at its first and at its seventh place
claim_told : List ℕ → Claim
claim_told text = if get_or text 0 0 == 100 then Draw else if get_or text 6 0 == 119 then Win (side_told text) else Hold (side_told text)

claim_told_is : (c : Claim) → claim_told (claim_word c) ≡ c
unfolding claim_told side_told
claim_told_is (Win Black) = refl
claim_told_is (Win White) = refl
claim_told_is (Hold Black) = refl
claim_told_is (Hold White) = refl
claim_told_is Draw = refl

pub one_claim_word : (c d : Claim) → claim_word c ≡ claim_word d → c ≡ d
one_claim_word c d e = sym (claim_told_is c) ∙ ap claim_told e ∙ claim_told_is d

-- a side and a count
pub one_side_and_count : (s t : Side) (n k : ℕ) → n < 2 ^ 32 → k < 2 ^ 32 → side_word s ++ 32 ∷ decimal n ≡ side_word t ++ 32 ∷ decimal k → (s ≡ t) × (n ≡ k)
one_side_and_count s t n k small low e =
    let both = halves_agree 32 (side_word s) (side_word t) (decimal n) (decimal k) (side_bare s) (side_bare t) e in
    (one_side s t both.0, decimal_injective n k (omega arith) (omega arith) both.1)

-- ---- moves

-- where neither of two bytes stands before them, the bytes that end the first words are the same
first_ends_agree : (b c : ℕ) (x y r s : List ℕ) → Lacks b y → Lacks c x → x ++ b ∷ r ≡ y ++ c ∷ s → b ≡ c
first_ends_agree b c [] [] r s h g e = cc
first_ends_agree b c [] (d ∷ y) r s h g e = absurd (Lacks-first b d y h (let same : d ≡ b = cc in same))
first_ends_agree b c (d ∷ x) [] r s h g e = absurd (Lacks-first c d x g (let same : d ≡ c = cc in same))
first_ends_agree b c (d ∷ x) (f ∷ y) r s h g e = first_ends_agree b c x y r s (Lacks-rest b f y h) (Lacks-rest c d x g) (let rest : x ++ b ∷ r ≡ y ++ c ∷ s = cc in rest)

one_of_two : (b : Bool) → IsSeparator (if b then 120 else 45)
one_of_two true = inr refl
one_of_two false = inl refl

pub separator_is : (path : List ℕ) → IsSeparator (separator path)
separator_is [] = inl refl
separator_is (a ∷ []) = inl refl
separator_is (a ∷ b ∷ path) = one_of_two (distance (row a) (row b) == 2)

-- the first square is spelled without a separator, so the separators agree
same_separator : (p q : List ℕ) → IsPath p → IsPath q → move_text p ≡ move_text q → separator p ≡ separator q
same_separator [] q one two e = absurd (let k : 2 ≤ 0 = one.0 in omega arith)
same_separator (a ∷ []) q one two e = absurd (let k : 2 ≤ 1 = one.0 in omega arith)
same_separator p [] one two e = absurd (let k : 2 ≤ 0 = two.0 in omega arith)
same_separator p (c ∷ []) one two e = absurd (let k : 2 ≤ 1 = two.0 in omega arith)
same_separator (a ∷ b ∷ p) (c ∷ d ∷ q) one two e =
    first_ends_agree (separator (a ∷ b ∷ p)) (separator (c ∷ d ∷ q)) (decimal a) (decimal c) _ _
    (bare (separator (a ∷ b ∷ p)) c (separator_is (a ∷ b ∷ p)) (All-head IsSquare c (d ∷ q) two.2))
    (bare (separator (c ∷ d ∷ q)) a (separator_is (c ∷ d ∷ q)) (All-head IsSquare a (b ∷ p) one.2)) e

pub one_move : (p q : List ℕ) → IsPath p → IsPath q → move_text p ≡ move_text q → p ≡ q
one_move p q one two e = same_paths (separator p) p q (separator_is p) one two (e ∙ ap (λ sep. squares_text sep q) (sym (same_separator p q one two e)))

pub one_choice : (chosen other : Option (List ℕ)) → IfSome chosen IsPath → IfSome other IsPath → choice_text chosen ≡ choice_text other → chosen ≡ other
one_choice None None one two e = refl
one_choice None (Some q) one two e = absurd (let h : ◌≡◌ {A = ℕ} 0 32 = ap (λ t. get_or t 0 0) e in omega (arith, h))
one_choice (Some p) None one two e = absurd (let h : ◌≡◌ {A = ℕ} 32 0 = ap (λ t. get_or t 0 0) e in omega (arith, h))
one_choice (Some p) (Some q) one two e = ap (λ path. Some path) (one_move p q one two (ap (drop 1) e))

Lacks-square : (square : ℕ) → IsSquare square → Lacks 10 (decimal square)
Lacks-square square one = Lacks-decimal 10 square refl (let top : square ≤ 32 = one.1 in omega arith)

Lacks-further : (sep : ℕ) (squares : List ℕ) → IsSeparator sep → All IsSquare squares → Lacks 10 (further_squares sep squares)
Lacks-further sep [] h each = refl
Lacks-further sep (a ∷ squares) h each =
    Lacks-cons 10 sep (decimal a ++ further_squares sep squares) (λ same. elim h [ inl e ↦ omega arith | inr e ↦ omega arith ])
    (Lacks-append 10 (decimal a) (further_squares sep squares) (Lacks-square a (All-head IsSquare a squares each)) (Lacks-further sep squares h (All-tail IsSquare a squares each)))

Lacks-squares : (sep : ℕ) (squares : List ℕ) → IsSeparator sep → All IsSquare squares → Lacks 10 (squares_text sep squares)
Lacks-squares sep [] h each = refl
Lacks-squares sep (a ∷ squares) h each =
    Lacks-append 10 (decimal a) (further_squares sep squares) (Lacks-square a (All-head IsSquare a squares each)) (Lacks-further sep squares h (All-tail IsSquare a squares each))

pub Lacks-choice : (chosen : Option (List ℕ)) → IfSome chosen IsPath → Lacks 10 (choice_text chosen)
Lacks-choice None path = refl
Lacks-choice (Some p) path = Lacks-squares (separator p) p (separator_is p) path.2
