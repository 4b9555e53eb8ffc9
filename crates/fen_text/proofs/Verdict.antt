-- The one outcome of each text.
use Rattle.std.proofs.Common.{◌≡◌, ℕ, zero, suc, ◌+◌, ◌-◌, ◌<◌, ◌≤◌, ◌↔◌, true, List, [], ◌∷◌, ◌++◌, length, get_or, Result, Ok, Err, refl, sym, ◌∙◌, ap, subst, arith, inl, inr, append-nil, length-append}
use Rattle.std.proofs.lemmas.Bool.{cases_order, and_parts}
use Rattle.std.proofs.lemmas.List.{ext_get_or, get_or-map, length-map}
use Rattle.draughts_board.specs.Geometry.{IsSquare, squares}
use Rattle.draughts_board.specs.Board.{Board, IsLawful, IsLeastMisplaced, is_allowed, all_allowed, pieces}
use Rattle.draughts_board.specs.declared.pieces.Side.{Side}
use Rattle.draughts_board.specs.declared.pieces.Side.TheVariants.{Black, White}
use Rattle.draughts_board.specs.declared.pieces.Cell.{Cell}
use Rattle.draughts_board.specs.declared.pieces.Cell.TheVariants.{Empty}
use Rattle.fen_text.specs.declared.fault.Fault.{Fault}
use Rattle.fen_text.specs.declared.fault.Fault.TheVariants.{Letter, Number, End}
use Rattle.fen_text.specs.declared.refusal.FenRefusal.{FenRefusal}
use Rattle.fen_text.specs.declared.refusal.FenRefusal.TheVariants.{BadLetter, BadSquare, Twice, TooMany, ManOnLastRow, Truncated}
use Rattle.fen_text.specs.Spelled.{Group, NoneTwice, IsLeastTwice, cell_named, cells_named, Spells, IsOver}
use Rattle.fen_text.specs.Faults.{text_before}
use Rattle.fen_text.specs.Reading.{form_at}
use Rattle.fen_text.specs.Refusal.{IsFenFault, refusal_at, IsFaultWithin}
use Rattle.fen_text.proofs.Lists.{squares_at, squares-length}
use Rattle.fen_text.proofs.Parts.{not_both}
use Rattle.fen_text.proofs.Again.{text_again}
use Rattle.fen_text.proofs.Wrong.{letter_refused, square_refused, number_refused, end_refused}
use Rattle.fen_text.proofs.ReadForm.{TextFails, FormRead, FormFound, form_read}

-- ---- what the contract says of each answer

abbrev pub Outcome : List ℕ → Result Board FenRefusal → Type 0
Outcome text (Ok p) = Spells text p
Outcome text (Err fault) = IsFenFault text fault

-- what the groups of a text that has the form lead to
pub record IsNamed (mover : Side) (groups : List Group) (p : Board) : Type 0 where
  pub once : NoneTwice groups
  pub lawful : IsLawful p
  pub to_move : p.to_move ≡ mover
  pub cells : p.cells ≡ cells_named groups

pub record HasMisplaced (groups : List Group) (n : ℕ) : Type 0 where
  pub once : NoneTwice groups
  pub black : pieces Black (cells_named groups) ≤ 12
  pub white : pieces White (cells_named groups) ≤ 12
  pub misplaced : IsLeastMisplaced (cells_named groups) n

abbrev pub GroupsVerdict : Side → List Group → Result Board FenRefusal → Type 0
GroupsVerdict mover groups (Ok p) = IsNamed mover groups p
GroupsVerdict mover groups (Err (BadLetter at)) = ⊥
GroupsVerdict mover groups (Err (BadSquare at)) = ⊥
GroupsVerdict mover groups (Err (Twice n)) = IsLeastTwice groups n
GroupsVerdict mover groups (Err (TooMany side)) = NoneTwice groups × IsOver side (cells_named groups)
GroupsVerdict mover groups (Err (ManOnLastRow n)) = HasMisplaced groups n
GroupsVerdict mover groups (Err Truncated) = ⊥

-- what was read of a text leads to the answer
abbrev pub Verdict : ℕ → Result (Side × List Group) Fault → Result Board FenRefusal → Type 0
Verdict len (Ok x) r = GroupsVerdict x.0 x.1 r
Verdict len (Err f) r = r ≡ Err (refusal_at len f)

-- ---- from what the contract says to what was read

at_place : (text text_before rest : List ℕ) → text ≡ text_before ++ rest → length text - length rest ≡ length text_before
at_place text text_before rest e = (let l = ap length e ∙ length-append text_before rest in omega (arith, l))

to_verdict : (text : List ℕ) (r : Result Board FenRefusal) → Outcome text r → Verdict (length text) (form_at text) r
to_verdict text (Ok p) h = subst (λ x. Verdict (length text) x (Ok p)) (sym (text_again text h.draft h.form)) (record { once = h.once; lawful = h.lawful; to_move = h.to_move; cells = h.cells })
to_verdict text (Err (BadLetter at)) h =
    let read : form_at text ≡ Err (Letter (length h.rest)) = ap form_at h.spelled ∙ letter_refused h.place h.rest h.sound h.letter h.wrong in
    let here : at ≡ length text - length h.rest = h.here ∙ sym (at_place text (text_before h.place) h.rest h.spelled) in
    subst (λ x. Verdict (length text) x (Err (BadLetter at))) (sym read) (ap (λ k. Err (BadLetter k)) here)
to_verdict text (Err (BadSquare at)) h =
    let refused : form_at (text_before h.place ++ h.rest) ≡ Err (Number (length h.rest)) = elim h.wrong [
      | inl w ↦ square_refused h.place h.rest h.sound w.0 w.1
      | inr w ↦ number_refused h.place h.rest w.0 h.sound w.1 w.2
    ] in
    let read : form_at text ≡ Err (Number (length h.rest)) = ap form_at h.spelled ∙ refused in
    let here : at ≡ length text - length h.rest = h.here ∙ sym (at_place text (text_before h.place) h.rest h.spelled) in
    subst (λ x. Verdict (length text) x (Err (BadSquare at))) (sym read) (ap (λ k. Err (BadSquare k)) here)
to_verdict text (Err (Twice n)) h = subst (λ x. Verdict (length text) x (Err (Twice n))) (sym (text_again text h.draft h.form)) h.twice
to_verdict text (Err (TooMany side)) h = subst (λ x. Verdict (length text) x (Err (TooMany side))) (sym (text_again text h.draft h.form)) (h.once, h.over)
to_verdict text (Err (ManOnLastRow n)) h = subst (λ x. Verdict (length text) x (Err (ManOnLastRow n))) (sym (text_again text h.draft h.form)) (record { once = h.once; black = h.black; white = h.white; misplaced = h.misplaced })
to_verdict text (Err Truncated) h = subst (λ x. Verdict (length text) x (Err Truncated)) (sym (ap form_at h.spelled ∙ end_refused h.place h.sound h.due)) refl

-- ---- and back

place_left : (text text_before rest : List ℕ) (left : ℕ) → left ≡ length rest → text ≡ text_before ++ rest → length text - left ≡ length text_before
place_left text text_before rest left is e = (let l = at_place text text_before rest e in omega (arith, l, is))

fault_outcome : (text : List ℕ) (f : Fault) → TextFails text f → Outcome text (Err (refusal_at (length text) f))
fault_outcome text (Letter left) h = record { place = h.place; rest = h.rest; sound = h.sound; spelled = h.parts; here = place_left text (text_before h.place) h.rest left h.fails.0 h.parts; letter = h.fails.1; wrong = h.fails.2 }
fault_outcome text (Number left) h = record { place = h.place; rest = h.rest; sound = h.sound; spelled = h.parts; here = place_left text (text_before h.place) h.rest left h.fails.0 h.parts; wrong = h.fails.1 }
fault_outcome text End h = record { place = h.place; sound = h.sound; spelled = h.parts ∙ ap (λ t. text_before h.place ++ t) h.fails.0 ∙ append-nil (text_before h.place); due = h.fails.1 }

groups_outcome : (text : List ℕ) (mover : Side) (groups : List Group) (r : Result Board FenRefusal) → FormFound text mover groups → GroupsVerdict mover groups r → Outcome text r
groups_outcome text mover groups (Ok p) found v = record { draft = found.draft; form = found.form; once = subst NoneTwice (sym found.groups_are) v.once; lawful = v.lawful; to_move = v.to_move ∙ sym found.mover_is; cells = v.cells ∙ ap cells_named (sym found.groups_are) }
groups_outcome text mover groups (Err (BadLetter at)) found v = absurd v
groups_outcome text mover groups (Err (BadSquare at)) found v = absurd v
groups_outcome text mover groups (Err (Twice n)) found v = record { draft = found.draft; form = found.form; twice = subst (λ gs. IsLeastTwice gs n) (sym found.groups_are) v }
groups_outcome text mover groups (Err (TooMany side)) found v = record { draft = found.draft; form = found.form; once = subst NoneTwice (sym found.groups_are) v.0; over = subst (λ gs. IsOver side (cells_named gs)) (sym found.groups_are) v.1 }
groups_outcome text mover groups (Err (ManOnLastRow n)) found v = record {
  draft = found.draft;
  form = found.form;
  once = subst NoneTwice (sym found.groups_are) v.once;
  black = subst (λ gs. pieces Black (cells_named gs) ≤ 12) (sym found.groups_are) v.black;
  white = subst (λ gs. pieces White (cells_named gs) ≤ 12) (sym found.groups_are) v.white;
  misplaced = subst (λ gs. IsLeastMisplaced (cells_named gs) n) (sym found.groups_are) v.misplaced;
}
groups_outcome text mover groups (Err Truncated) found v = absurd v

from_verdict : (text : List ℕ) (x : Result (Side × List Group) Fault) (r : Result Board FenRefusal) → FormRead text x → Verdict (length text) x r → Outcome text r
from_verdict text (Ok x) r read v = groups_outcome text x.0 x.1 r read v
from_verdict text (Err f) r read v = subst (Outcome text) (sym v) (fault_outcome text f read)

-- ---- there is one answer

none_and_twice : (groups : List Group) (n : ℕ) → NoneTwice groups → IsLeastTwice groups n → ⊥
none_and_twice groups n none twice = (let a = none n twice.square in let b = twice.twice in omega (arith, a, b))

one_twice : (groups : List Group) (n m : ℕ) → IsLeastTwice groups n → IsLeastTwice groups m → n ≡ m
one_twice groups n m a b =
    elim (cases_order n m) [
      | inl e ↦ e
      | inr lt ↦ elim lt [
        | inl below ↦ (let x = b.least n a.square below in let y = a.twice in absurd (omega (arith, x, y)))
        | inr above ↦ (let x = a.least m b.square above in let y = b.twice in absurd (omega (arith, x, y)))
      ]
    ]

-- where all are allowed, each is
allowed_at : (n : ℕ) (cells : List Cell) (k : ℕ) → all_allowed n cells ≡ true → k < length cells → is_allowed (n + k) (get_or cells k Empty) ≡ true
allowed_at n [] k all lt = absurd (omega arith)
allowed_at n (c ∷ cells) zero all lt = (let e : n ≡ n + 0 = omega arith in subst (λ m. is_allowed m c ≡ true) e (and_parts _ _ all).0)
allowed_at n (c ∷ cells) (suc k) all lt = (let e : n + 1 + k ≡ n + suc k = omega arith in subst (λ m. is_allowed m (get_or cells k Empty) ≡ true) e (allowed_at (n + 1) cells k (and_parts _ _ all).1 (omega arith)))

lawful_and_misplaced : (p : Board) (cells : List Cell) (n : ℕ) → IsLawful p → p.cells ≡ cells → IsLeastMisplaced cells n → ⊥
lawful_and_misplaced p cells n lawful e least =
    let full = lawful.squares in
    let place : 1 + (n - 1) ≡ n = omega (arith, least.0) in
    let at = allowed_at 1 p.cells (n - 1) lawful.men (omega (arith, least.0, least.1)) in
    let allowed : is_allowed n (get_or cells (n - 1) Empty) ≡ true = subst (λ m. is_allowed m (get_or cells (n - 1) Empty) ≡ true) place (subst (λ cs. is_allowed (1 + (n - 1)) (get_or cs (n - 1) Empty) ≡ true) e at) in
    not_both _ allowed least.2

one_misplaced : (cells : List Cell) (n m : ℕ) → IsLeastMisplaced cells n → IsLeastMisplaced cells m → n ≡ m
one_misplaced cells n m a b =
    elim (cases_order n m) [
      | inl e ↦ e
      | inr lt ↦ elim lt [
        | inl below ↦ absurd (not_both _ (b.3 n a.0 below) a.2)
        | inr above ↦ absurd (not_both _ (a.3 m b.0 above) b.2)
      ]
    ]

lawful_and_over : (p : Board) (cells : List Cell) (side : Side) → IsLawful p → p.cells ≡ cells → IsOver side cells → ⊥
lawful_and_over p cells Black lawful e over = (let a = lawful.black in let b = ap (pieces Black) e in omega (arith, a, b, over))
lawful_and_over p cells White lawful e over = (let a = lawful.white in let b = ap (pieces White) e in omega (arith, a, b, over.1))

one_over : (cells : List Cell) (side other : Side) → IsOver side cells → IsOver other cells → side ≡ other
one_over cells Black Black a b = refl
one_over cells White White a b = refl
one_over cells Black White a b = absurd (omega (arith, a, b.0))
one_over cells White Black a b = absurd (omega (arith, a.0, b))

over_and_counted : (cells : List Cell) (side : Side) → IsOver side cells → pieces Black cells ≤ 12 → pieces White cells ≤ 12 → ⊥
over_and_counted cells Black over black white = omega (arith, over, black)
over_and_counted cells White over black white = omega (arith, over.1, white)

one_board : (p q : Board) → p.cells ≡ q.cells → p.to_move ≡ q.to_move → p ≡ q
one_board p q c m = λ i. record { cells = c i; to_move = m i }

one_of_groups : (mover : Side) (groups : List Group) (r s : Result Board FenRefusal) → GroupsVerdict mover groups r → GroupsVerdict mover groups s → r ≡ s
one_of_groups mover groups (Err (BadLetter at)) s a b = absurd a
one_of_groups mover groups (Err (BadSquare at)) s a b = absurd a
one_of_groups mover groups (Err Truncated) s a b = absurd a
one_of_groups mover groups r (Err (BadLetter at)) a b = absurd b
one_of_groups mover groups r (Err (BadSquare at)) a b = absurd b
one_of_groups mover groups r (Err Truncated) a b = absurd b
one_of_groups mover groups (Ok p) (Ok q) a b = ap (λ x. Ok x) (one_board p q (a.cells ∙ sym b.cells) (a.to_move ∙ sym b.to_move))
one_of_groups mover groups (Ok p) (Err (Twice n)) a b = absurd (none_and_twice groups n a.once b)
one_of_groups mover groups (Ok p) (Err (TooMany side)) a b = absurd (lawful_and_over p (cells_named groups) side a.lawful a.cells b.1)
one_of_groups mover groups (Ok p) (Err (ManOnLastRow n)) a b = absurd (lawful_and_misplaced p (cells_named groups) n a.lawful a.cells b.misplaced)
one_of_groups mover groups (Err (Twice n)) (Ok p) a b = absurd (none_and_twice groups n b.once a)
one_of_groups mover groups (Err (Twice n)) (Err (Twice m)) a b = ap (λ k. Err (Twice k)) (one_twice groups n m a b)
one_of_groups mover groups (Err (Twice n)) (Err (TooMany side)) a b = absurd (none_and_twice groups n b.0 a)
one_of_groups mover groups (Err (Twice n)) (Err (ManOnLastRow m)) a b = absurd (none_and_twice groups n b.once a)
one_of_groups mover groups (Err (TooMany side)) (Ok p) a b = absurd (lawful_and_over p (cells_named groups) side b.lawful b.cells a.1)
one_of_groups mover groups (Err (TooMany side)) (Err (Twice n)) a b = absurd (none_and_twice groups n a.0 b)
one_of_groups mover groups (Err (TooMany side)) (Err (TooMany other)) a b = ap (λ k. Err (TooMany k)) (one_over (cells_named groups) side other a.1 b.1)
one_of_groups mover groups (Err (TooMany side)) (Err (ManOnLastRow n)) a b = absurd (over_and_counted (cells_named groups) side a.1 b.black b.white)
one_of_groups mover groups (Err (ManOnLastRow n)) (Ok p) a b = absurd (lawful_and_misplaced p (cells_named groups) n b.lawful b.cells a.misplaced)
one_of_groups mover groups (Err (ManOnLastRow n)) (Err (Twice m)) a b = absurd (none_and_twice groups m a.once b)
one_of_groups mover groups (Err (ManOnLastRow n)) (Err (TooMany side)) a b = absurd (over_and_counted (cells_named groups) side b.1 a.black a.white)
one_of_groups mover groups (Err (ManOnLastRow n)) (Err (ManOnLastRow m)) a b = ap (λ k. Err (ManOnLastRow k)) (one_misplaced (cells_named groups) n m a.misplaced b.misplaced)

one_answer : (len : ℕ) (x : Result (Side × List Group) Fault) (r s : Result Board FenRefusal) → Verdict len x r → Verdict len x s → r ≡ s
one_answer len (Ok x) r s a b = one_of_groups x.0 x.1 r s a b
one_answer len (Err f) r s a b = a ∙ sym b

-- a text has one outcome
pub one_outcome : (text : List ℕ) (r s : Result Board FenRefusal) → Outcome text r → Outcome text s → r ≡ s
one_outcome text r s a b = one_answer (length text) (form_at text) r s (to_verdict text r a) (to_verdict text s b)

-- what was read decides the answer, both ways
pub decides : (text : List ℕ) (r s : Result Board FenRefusal) → Verdict (length text) (form_at text) r → (r ≡ s) ↔ Outcome text s
decides text r s v = (
  λ e. from_verdict text (form_at text) s (form_read text) (subst (Verdict (length text) (form_at text)) e v),
  λ h. one_answer (length text) (form_at text) r s v (to_verdict text s h),
)

-- ---- what the reader holds

pub fault_within : (text : List ℕ) (f : Fault) → form_at text ≡ Err f → IsFaultWithin (length text) f
fault_within text f e = bound f (subst (FormRead text) e (form_read text))
  where
    bound : (g : Fault) → TextFails text g → IsFaultWithin (length text) g
    bound (Letter left) h = (let l = ap length h.parts ∙ length-append (text_before h.place) h.rest in omega (arith, l, h.fails.0))
    bound (Number left) h = (let l = ap length h.parts ∙ length-append (text_before h.place) h.rest in omega (arith, l, h.fails.0))
    bound End h = tt

-- the cells that are as named square by square
pub cells_are : (cells : List Cell) (groups : List Group) → length cells ≡ 32 → ((n : ℕ) → IsSquare n → get_or cells (n - 1) Empty ≡ cell_named n groups) → cells ≡ cells_named groups
cells_are cells groups full named =
    let size : length (cells_named groups) ≡ 32 = length-map squares (λ n. cell_named n groups) ∙ squares-length in
    ext_get_or Empty cells (cells_named groups) (full ∙ sym size) (λ i lt.
    let within : i < 32 = omega arith in
    let is : get_or squares i 0 ≡ i + 1 = squares_at i within in
    let in_squares : i < length squares = (let l = squares-length in omega arith) in
    let at : get_or (cells_named groups) i Empty ≡ cell_named (i + 1) groups = get_or-map (λ n. cell_named n groups) squares i 0 Empty in_squares ∙ ap (λ n. cell_named n groups) is in
    let back : i + 1 - 1 ≡ i = omega arith in
    let here : get_or cells (i + 1 - 1) Empty ≡ cell_named (i + 1) groups = named (i + 1) (omega arith, omega arith) in
    sym (ap (λ k. get_or cells k Empty) back) ∙ here ∙ sym at)

pub one_position : (text : List ℕ) (p q : Board) → Spells text p → Spells text q → p ≡ q
one_position text p q a b = same p q (one_outcome text (Ok p) (Ok q) a b)
  where
    answered : Board → Result Board FenRefusal
    answered x = Ok x

    same : (x y : Board) → answered x ≡ answered y → x ≡ y
    same x y e = cc
