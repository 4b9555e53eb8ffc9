-- The capture search is sound and complete.
use Rattle.std.proofs.Common.{◌≡◌, ◌≢◌, ℕ, zero, suc, ◌+◌, ◌-◌, ◌<◌, ◌≤◌, Bool, true, false, cond, not, List, [], ◌∷◌, ◌++◌, length, get_or, set, refl, sym, ◌∙◌, ap, subst, arith, ◌⊎◌, inl, inr, ◌==◌, append_assoc, length-append, take}
use Rattle.std.specs.Prelude.{filter, flat_map, Contains, count_by, AllPairs}
use Rattle.std.specs.Cmp.{nat_cmp_is}
use Rattle.std.specs.Cmp.Lexicographic.{slice_cmp}
use Rattle.std.specs.Ordering.{nat_cmp, is_lt, ordering_then}
use Rattle.std.specs.declared.cmp.Ordering.TheVariants.{Less, Equal}
use Rattle.std.specs.Cmp.{first_so, second_so}
use Rattle.std.specs.Cmp.Derive.{both_true}
use Rattle.std.specs.List.{range_with_len}
use Rattle.std.proofs.lemmas.Bool.{cases_Bool, not-true, not_from_false, or_left, or_right, or_from, or_cases, false≢true, true≢false}
use borrow.Author.Tests.{leb-true}
use Rattle.std.proofs.lemmas.List.{append-nil, flat_map_more, take_more}
use Rattle.std.proofs.lemmas.Bool.{cases_lt}
use Rattle.std.proofs.lemmas.List.FromFn.{get_or-range_with_len}
use Rattle.std.proofs.lemmas.List.Elements.{Contains-push, Contains-append_left, All-contains, filter_passes}
use Rattle.draughts_board.proofs.Members.{Contains-nil, Contains-filter, Contains-flat_map, Contains-from_flat_map, only_one}
use Rattle.draughts_board.specs.Geometry.{squares, are_jump_apart, between, is_square}
use Rattle.draughts_board.specs.declared.pieces.Side.{Side}
use Rattle.draughts_board.specs.declared.pieces.Side.TheVariants.{Black, White}
use Rattle.draughts_board.specs.declared.pieces.Cell.{Cell}
use Rattle.draughts_board.specs.declared.pieces.Cell.TheVariants.{Empty}
use Rattle.std.proofs.lemmas.Bool.{eqb-false}
use Rattle.std.proofs.lemmas.List.{get_or-set_other}
use Rattle.std.proofs.lemmas.List.Sums.{sum_by-set}
use Rattle.draughts_board.specs.Board.{Board, cell_at, IsLawful, belongs, other}
use Rattle.draughts_board.specs.Rules.{first_square, last_square, jumped, all_following, are_distinct, contains, is_jump, is_crowned_on, goes_on, further_jumps, IsCapture, IsBefore}
use Rattle.draughts_board.proofs.PathLemmas.{following-push, following-middle, but_last-push, but_last-middle, jumped-middle, distinct-middle, distinct-push, or_first, or_second}
use Rattle.draughts_board.specs.Play.{grown, is_done, is_nil, IsCapturePrefix}

-- ---- squares

nil_not : (xs : List ℕ) (x : ℕ) → Contains xs x → is_nil xs ≡ false
nil_not [] x h = absurd (Contains-nil x h)
nil_not (y ∷ xs) x h = refl

nil_is : (xs : List ℕ) → is_nil xs ≡ true → xs ≡ []
nil_is [] h = refl
nil_is (x ∷ xs) h = absurd (false≢true h)

pub Contains-squares : (z : ℕ) → is_square z ≡ true → Contains squares z
unfolding squares
Contains-squares z h =
    let least : 1 ≤ z = leb-true _ _ (first_so _ _ h) in
    let most : z ≤ 32 = leb-true _ _ (second_so _ _ h) in
    (z - 1, omega arith, get_or-range_with_len 1 32 (z - 1) z (omega arith) ∙ (let e : 1 + (z - 1) ≡ z = omega arith in e))

-- ---- what a jump says

pub jump_square : (p : Board) (s x z : ℕ) → is_jump p s x z ≡ true → is_square z ≡ true
jump_square p s x z h = first_so _ _ (first_so _ _ (first_so _ _ (first_so _ _ h)))

pub jump_apart : (p : Board) (s x z : ℕ) → is_jump p s x z ≡ true → are_jump_apart x z ≡ true
jump_apart p s x z h = second_so _ _ (first_so _ _ (first_so _ _ (first_so _ _ h)))

-- ---- completeness

pub further_has : (p : Board) (x : ℕ) (rest : List ℕ) (z : ℕ) (more : List ℕ) → IsCapture p ((x ∷ rest) ++ z ∷ more) → Contains (further_jumps p (x ∷ rest)) z
further_has p x rest z more c =
    let jump : is_jump p x (last_square (x ∷ rest)) z ≡ true = following-middle (is_jump p x) x rest z more c.jumps in
    let once : are_distinct (jumped (x ∷ rest) ++ between (last_square (x ∷ rest)) z ∷ jumped (z ∷ more)) ≡ true = ap are_distinct (sym (jumped-middle x rest z more (jump_apart p x _ z jump))) ∙ c.once in
    Contains-filter (goes_on p (x ∷ rest)) squares z (Contains-squares z (jump_square p x _ z jump)) (both_true jump (not_from_false _ (distinct-middle (jumped (x ∷ rest)) _ _ once)))

pub not_done : (p : Board) (x : ℕ) (rest : List ℕ) (z : ℕ) (more : List ℕ) → IsCapture p ((x ∷ rest) ++ z ∷ more) → is_done p (x ∷ rest) ≡ false
not_done p x rest z more c =
    or_from (is_crowned_on (cell_at p x) (last_square (x ∷ rest))) _
    (not-true _ (but_last-middle (λ w. not (is_crowned_on (cell_at p x) w)) x rest z more c.crowned_last))
    (nil_not (further_jumps p (x ∷ rest)) z (further_has p x rest z more c))

done : (p : Board) (path : List ℕ) → IsCapture p path → is_done p path ≡ true
done p path c = elim c.complete [ inl h ↦ or_left _ _ h | inr e ↦ or_right (is_crowned_on (cell_at p (first_square path)) (last_square path)) _ (ap is_nil e) ]

-- one turn of the search
grown-done : (p : Board) (n : ℕ) (path : List ℕ) → is_done p path ≡ true → grown (suc n) p path ≡ path ∷ []
unfolding grown
grown-done p n path h = ap (λ b. cond b (path ∷ []) (flat_map (λ z. grown n p (path ++ z ∷ [])) (further_jumps p path))) h

grown-more : (p : Board) (n : ℕ) (path : List ℕ) → is_done p path ≡ false → grown (suc n) p path ≡ flat_map (λ z. grown n p (path ++ z ∷ [])) (further_jumps p path)
unfolding grown
grown-more p n path h = ap (λ b. cond b (path ∷ []) (flat_map (λ z. grown n p (path ++ z ∷ [])) (further_jumps p path))) h

grown-zero : (p : Board) (path : List ℕ) → grown zero p path ≡ path ∷ []
unfolding grown
grown-zero p path = refl

pub grown-complete : (p : Board) (n x : ℕ) (rest more : List ℕ) → IsCapture p ((x ∷ rest) ++ more) → length more ≤ n → Contains (grown n p (x ∷ rest)) ((x ∷ rest) ++ more)
grown-complete p zero x rest [] c h =
    subst (λ l. Contains l ((x ∷ rest) ++ [])) (sym (grown-zero p (x ∷ rest))) (subst (λ q. Contains ((x ∷ rest) ∷ []) q) (sym (append-nil (x ∷ rest))) (Contains-push [] (x ∷ rest)))
grown-complete p zero x rest (z ∷ more) c h = absurd (omega arith)
grown-complete p (suc n) x rest [] c h =
    let e : (x ∷ rest) ++ [] ≡ x ∷ rest = append-nil (x ∷ rest) in
    let d : is_done p (x ∷ rest) ≡ true = subst (λ q. is_done p q ≡ true) e (done p _ c) in
    subst (λ l. Contains l ((x ∷ rest) ++ [])) (sym (grown-done p n (x ∷ rest) d)) (subst (λ q. Contains ((x ∷ rest) ∷ []) q) (sym e) (Contains-push [] (x ∷ rest)))
grown-complete p (suc n) x rest (z ∷ more) c h =
    let e : ((x ∷ rest) ++ z ∷ []) ++ more ≡ (x ∷ rest) ++ z ∷ more = append_assoc (x ∷ rest) (z ∷ []) more in
    let deeper : Contains (grown n p (x ∷ (rest ++ z ∷ []))) ((x ∷ (rest ++ z ∷ [])) ++ more) = grown-complete p n x (rest ++ z ∷ []) more (subst (λ q. IsCapture p q) (sym e) c) (omega arith) in
    let here : Contains (grown n p ((x ∷ rest) ++ z ∷ [])) ((x ∷ rest) ++ z ∷ more) = subst (λ q. Contains (grown n p (x ∷ (rest ++ z ∷ []))) q) e deeper in
    subst (λ l. Contains l ((x ∷ rest) ++ z ∷ more)) (sym (grown-more p n (x ∷ rest) (not_done p x rest z more c)))
    (Contains-flat_map (λ w. grown n p ((x ∷ rest) ++ w ∷ [])) (further_jumps p (x ∷ rest)) z _ (further_has p x rest z more c) here)

-- ---- at most twelve jumps

unfoldable pub Each : {X : Type 0} → (X → Type 0) → List X → Type 0
Each P [] = Unit {0}
Each P (x ∷ xs) = P x × Each P xs

unfoldable pub IsPieceOf : Side → List Cell → ℕ → Type 0
IsPieceOf s cells n = (1 ≤ n) × (belongs s (get_or cells (n - 1) Empty) ≡ true)

pub Each-map : {X : Type 0} (P Q : X → Type 0) (xs : List X) → ((x : X) → P x → Q x) → Each P xs → Each Q xs
unfolding Each
Each-map P Q [] f h = tt
Each-map P Q (x ∷ xs) f h = (f x h.0, Each-map P Q xs f h.1)

-- what is left after the piece on n is taken off
still : (s : Side) (cells : List Cell) (n : ℕ) (ns : List ℕ) → 1 ≤ n → contains ns n ≡ false → Each (IsPieceOf s cells) ns → Each (IsPieceOf s (set cells (n - 1) Empty)) ns
unfolding Each IsPieceOf
still s cells n [] l c h = tt
still s cells n (m ∷ ns) l c h =
    let other : m ≢ n = eqb-false m n (or_first _ _ c) in
    let place : m - 1 ≢ n - 1 = λ e. other (let a : 1 ≤ m = h.0.0 in omega arith) in
    ((h.0.0, ap (belongs s) (get_or-set_other cells (n - 1) (m - 1) Empty Empty place) ∙ h.0.1), still s cells n ns l (or_second (m == n) _ c) h.1)

within : (s : Side) (cells : List Cell) (k : ℕ) → belongs s (get_or cells k Empty) ≡ true → k < length cells
within s [] k h = absurd (false≢true h)
within s (c ∷ cells) zero h = omega arith
within s (c ∷ cells) (suc k) h = omega (arith, within s cells k h)

pub distinct-count : (s : Side) (ns : List ℕ) (cells : List Cell) → Each (IsPieceOf s cells) ns → are_distinct ns ≡ true → length ns ≤ count_by (belongs s) cells
unfolding Each IsPieceOf
distinct-count s [] cells h d = omega arith
distinct-count s (n ∷ ns) cells h d =
    let rest = distinct-count s ns (set cells (n - 1) Empty) (still s cells n ns h.0.0 (not-true _ (first_so _ _ d)) h.1) (second_so _ _ d) in
    let one = sum_by-set (λ c. cond (belongs s c) 1 0) cells (n - 1) Empty Empty (within s cells (n - 1) h.0.1) in
    let here : ◌≡◌ {A = ℕ} (cond (belongs s (get_or cells (n - 1) Empty)) 1 0) 1 = ap (λ b. cond b 1 0) h.0.1 in
    omega (arith, rest, one, here)

pub jumped-pieces : (p : Board) (s x : ℕ) (rest : List ℕ) → all_following (is_jump p s) (x ∷ rest) ≡ true → Each (IsPieceOf (other p.to_move) p.cells) (jumped (x ∷ rest))
unfolding Each IsPieceOf
jumped-pieces p s x [] h = tt
jumped-pieces p s x (z ∷ rest) h =
    let jump : is_jump p s x z ≡ true = first_so _ _ h in
    subst (λ b. Each (IsPieceOf (other p.to_move) p.cells) (cond b (between x z ∷ jumped (z ∷ rest)) (jumped (z ∷ rest)))) (sym (jump_apart p s x z jump))
    ((omega arith, second_so _ _ (first_so _ _ jump)), jumped-pieces p s z rest (second_so _ _ h))

pub length-jumped : (p : Board) (s x : ℕ) (rest : List ℕ) → all_following (is_jump p s) (x ∷ rest) ≡ true → length (jumped (x ∷ rest)) ≡ length rest
length-jumped p s x [] h = refl
length-jumped p s x (z ∷ rest) h =
    ap (λ b. length (cond b (between x z ∷ jumped (z ∷ rest)) (jumped (z ∷ rest)))) (jump_apart p s x z (first_so _ _ h)) ∙ ap suc (length-jumped p s z rest (second_so _ _ h))

pub pieces-most : (p : Board) (s : Side) → IsLawful p → count_by (belongs s) p.cells ≤ 12
pieces-most p Black h = h.black
pieces-most p White h = h.white

-- ---- soundness

jumps-push : (p : Board) (x : ℕ) (rest : List ℕ) (z : ℕ) → IsCapturePrefix p (x ∷ rest) → goes_on p (x ∷ rest) z ≡ true → all_following (is_jump p x) ((x ∷ rest) ++ z ∷ []) ≡ true
jumps-push p x rest z h g = following-push (is_jump p x) x rest z h.jumps (first_so _ _ g)

once-push : (p : Board) (x : ℕ) (rest : List ℕ) (z : ℕ) → IsCapturePrefix p (x ∷ rest) → goes_on p (x ∷ rest) z ≡ true → are_distinct (jumped ((x ∷ rest) ++ z ∷ [])) ≡ true
once-push p x rest z h g =
    ap are_distinct (jumped-middle x rest z [] (jump_apart p x _ z (first_so _ _ g)))
    ∙ distinct-push (jumped (x ∷ rest)) (between (last_square (x ∷ rest)) z) h.once (not-true _ (second_so _ _ g))

pub prefix-push : (p : Board) (x : ℕ) (rest : List ℕ) (z : ℕ) → IsCapturePrefix p (x ∷ rest) → is_crowned_on (cell_at p x) (last_square (x ∷ rest)) ≡ false → goes_on p (x ∷ rest) z ≡ true → IsCapturePrefix p ((x ∷ rest) ++ z ∷ [])
prefix-push p x rest z h c g = record {
  own = h.own;
  jumps = jumps-push p x rest z h g;
  once = once-push p x rest z h g;
  crowned_last = but_last-push (λ w. not (is_crowned_on (cell_at p x) w)) x rest z h.crowned_last (not_from_false _ c);
}

-- a thirteenth piece cannot be jumped
full : (p : Board) (x : ℕ) (rest : List ℕ) (z : ℕ) → IsLawful p → IsCapturePrefix p (x ∷ rest) → length rest ≡ 12 → goes_on p (x ∷ rest) z ≡ true → ⊥
full p x rest z lawful h l g =
    let jumps = jumps-push p x rest z h g in
    let pieces = jumped-pieces p x x (rest ++ z ∷ []) jumps in
    let count = distinct-count (other p.to_move) (jumped (x ∷ (rest ++ z ∷ []))) p.cells pieces (once-push p x rest z h g) in
    let many = length-jumped p x x (rest ++ z ∷ []) jumps in
    omega (arith, count, many, length-append rest (z ∷ []), pieces-most p (other p.to_move) lawful)

filter-none : {X : Type 0} (test : X → Bool) (xs : List X) → ((x : X) → test x ≡ true → ⊥) → filter test xs ≡ []
filter-none test [] h = refl
filter-none test (x ∷ xs) h =
    elim (cases_Bool (test x)) [ inl e ↦ absurd (h x e) | inr e ↦ ap (λ b. cond b (x ∷ filter test xs) (filter test xs)) e ∙ filter-none test xs h ]

as_capture : (p : Board) (path : List ℕ) → IsCapturePrefix p path → 2 ≤ length path → (is_crowned_on (cell_at p (first_square path)) (last_square path) ≡ true) ⊎ (further_jumps p path ≡ []) → IsCapture p path
as_capture p path h l c = record { long = l; own = h.own; jumps = h.jumps; once = h.once; crowned_last = h.crowned_last; complete = c }

pub further_goes_on : (p : Board) (path : List ℕ) (z : ℕ) → Contains (further_jumps p path) z → goes_on p path z ≡ true
further_goes_on p path z h = All-contains (λ w. goes_on p path w ≡ true) (further_jumps p path) z (filter_passes (goes_on p path) squares) h

pub no_further : (p : Board) (path : List ℕ) → ((z : ℕ) → goes_on p path z ≡ true → ⊥) → further_jumps p path ≡ []
no_further p path h = filter-none (goes_on p path) squares h

pub grown-sound : (p : Board) (n x : ℕ) (rest path : List ℕ) → IsLawful p → IsCapturePrefix p (x ∷ rest) → (1 ≤ length rest) ⊎ (is_done p (x ∷ rest) ≡ false) → n + length rest ≡ 12 → Contains (grown n p (x ∷ rest)) path → IsCapture p path
grown-sound p zero x rest path lawful h start depth found =
    let e : x ∷ rest ≡ path = only_one _ _ (subst (λ l. Contains l path) (grown-zero p (x ∷ rest)) found) in
    subst (λ q. IsCapture p q) e (as_capture p (x ∷ rest) h (omega arith) (inr (no_further p (x ∷ rest) (λ z. full p x rest z lawful h (omega arith)))))
grown-sound p (suc n) x rest path lawful h start depth found =
    elim (cases_Bool (is_done p (x ∷ rest))) [
      | inl d ↦
          let e : x ∷ rest ≡ path = only_one _ _ (subst (λ l. Contains l path) (grown-done p n (x ∷ rest) d) found) in
          let long : 2 ≤ length (x ∷ rest) = elim start [ inl l ↦ omega arith | inr open_end ↦ absurd (true≢false (sym d ∙ open_end)) ] in
          subst (λ q. IsCapture p q) e
          (as_capture p (x ∷ rest) h long
          (elim (or_cases (is_crowned_on (cell_at p x) (last_square (x ∷ rest))) _ d) [ inl c ↦ inl c | inr n ↦ inr (nil_is _ n) ]))
      | inr d ↦
          let f : ℕ → List (List ℕ) = λ z. grown n p ((x ∷ rest) ++ z ∷ []) in
          let found' : Contains (flat_map f (further_jumps p (x ∷ rest))) path = subst (λ l. Contains l path) (grown-more p n (x ∷ rest) d) found in
          let r = Contains-from_flat_map f (further_jumps p (x ∷ rest)) path found' in
          let g = further_goes_on p (x ∷ rest) r.0 r.1.0 in
          let pushed = prefix-push p x rest r.0 h (or_first _ _ d) g in
          let one_more = length-append rest (r.0 ∷ []) in
          grown-sound p n x (rest ++ r.0 ∷ []) path lawful pushed (inl (omega (arith, one_more))) (omega (arith, one_more)) r.1.1
    ]

-- ---- rising order

unfoldable pub Rising : List (List ℕ) → Type 0
Rising [] = Unit {0}
Rising (q ∷ qs) = Each (IsBefore q) qs × Rising qs

unfoldable pub Increasing : List ℕ → Type 0
Increasing [] = Unit {0}
Increasing (x ∷ xs) = Each (λ y. x < y) xs × Increasing xs

Each-append : {X : Type 0} (P : X → Type 0) (xs ys : List X) → Each P xs → Each P ys → Each P (xs ++ ys)
unfolding Each
Each-append P [] ys h g = g
Each-append P (x ∷ xs) ys h g = (h.0, Each-append P xs ys h.1 g)

Each-both : {X : Type 0} (P Q : X → Type 0) (xs : List X) → Each P xs → Each Q xs → Each (λ x. P x × Q x) xs
unfolding Each
Each-both P Q [] h g = tt
Each-both P Q (x ∷ xs) h g = ((h.0, g.0), Each-both P Q xs h.1 g.1)

pub Each-all : {X : Type 0} (P : X → Type 0) (xs : List X) → ((x : X) → P x) → Each P xs
unfolding Each
Each-all P [] h = tt
Each-all P (x ∷ xs) h = (h x, Each-all P xs h)

Each-filter : {X : Type 0} (P : X → Type 0) (test : X → Bool) (xs : List X) → Each P xs → Each P (filter test xs)
unfolding Each
Each-filter P test [] h = tt
Each-filter {X} P test (x ∷ xs) h = by (test x) (Each-filter P test xs h.1)
  where
    by : (b : Bool) → Each P (filter test xs) → Each P (cond b (x ∷ filter test xs) (filter test xs))
    by true k = (h.0, k)
    by false k = k

pub Each-flat_map : {X Y : Type 0} (P : Y → Type 0) (f : X → List Y) (xs : List X) → ((x : X) → Each P (f x)) → Each P (flat_map f xs)
unfolding Each
Each-flat_map P f [] h = tt
Each-flat_map P f (x ∷ xs) h = Each-append P (f x) (flat_map f xs) (h x) (Each-flat_map P f xs h)

pub Increasing-filter : (test : ℕ → Bool) (xs : List ℕ) → Increasing xs → Increasing (filter test xs)
unfolding Increasing Each
Increasing-filter test [] h = tt
Increasing-filter test (x ∷ xs) h = by (test x) (Increasing-filter test xs h.1)
  where
    by : (b : Bool) → Increasing (filter test xs) → Increasing (cond b (x ∷ filter test xs) (filter test xs))
    by true k = (Each-filter (λ y. x < y) test xs h.0, k)
    by false k = k

Each-range : (b a n : ℕ) → b < a → Each (λ y. b < y) (range_with_len a n)
unfolding Each
Each-range b a zero h = tt
Each-range b a (suc n) h = (h, Each-range b (a + 1) n (omega arith))

pub Increasing-range : (a n : ℕ) → Increasing (range_with_len a n)
unfolding Increasing
Increasing-range a zero = tt
Increasing-range a (suc n) = (Each-range a (a + 1) n (omega arith), Increasing-range (a + 1) n)

pub Increasing-squares : Increasing squares
unfolding squares
Increasing-squares = Increasing-range 1 32

Increasing-further : (p : Board) (path : List ℕ) → Increasing (further_jumps p path)
Increasing-further p path = Increasing-filter (goes_on p path) squares Increasing-squares

less : (z w : ℕ) → z < w → nat_cmp z w ≡ Less
less z w h = sym (nat_cmp_is z w Less h)

pub level : (z : ℕ) → nat_cmp z z ≡ Equal
level z = sym (nat_cmp_is z z Equal refl)

pub before-branch : (path : List ℕ) (z w : ℕ) (a b : List ℕ) → z < w → slice_cmp nat_cmp ((path ++ z ∷ []) ++ a) ((path ++ w ∷ []) ++ b) ≡ Less
before-branch [] z w a b h = ap (λ o. ordering_then o (slice_cmp nat_cmp a b)) (less z w h)
before-branch (y ∷ path) z w a b h = ap (λ o. ordering_then o (slice_cmp nat_cmp ((path ++ z ∷ []) ++ a) ((path ++ w ∷ []) ++ b))) (level y) ∙ before-branch path z w a b h

-- the path begins with these squares
Starts : List ℕ → List ℕ → Type 0
Starts path q = (more : List ℕ) × (q ≡ path ++ more)

Starts-less : (path : List ℕ) (z : ℕ) (q : List ℕ) → Starts (path ++ z ∷ []) q → Starts path q
unfolding Starts
Starts-less path z q h = (z ∷ h.0, h.1 ∙ append_assoc path (z ∷ []) h.0)

grown-starts : (p : Board) (n : ℕ) (path : List ℕ) → Each (Starts path) (grown n p path)
unfolding grown Each Starts
grown-starts p zero path = (([], sym (append-nil path)), tt)
grown-starts p (suc n) path = by (is_done p path) (Each-flat_map (Starts path) (λ z. grown n p (path ++ z ∷ [])) (further_jumps p path) (λ z. Each-map (Starts (path ++ z ∷ [])) (Starts path) _ (Starts-less path z) (grown-starts p n (path ++ z ∷ []))))
  where
    by : (b : Bool) → Each (Starts path) (flat_map (λ z. grown n p (path ++ z ∷ [])) (further_jumps p path)) → Each (Starts path) (cond b (path ∷ []) (flat_map (λ z. grown n p (path ++ z ∷ [])) (further_jumps p path)))
    by true k = (([], sym (append-nil path)), tt)
    by false k = k

before-starts : (path : List ℕ) (z w : ℕ) (q r : List ℕ) → z < w → Starts (path ++ z ∷ []) q → Starts (path ++ w ∷ []) r → IsBefore q r
unfolding Starts
before-starts path z w q r h a b =
    subst (λ s. IsBefore s r) (sym a.1) (subst (λ s. IsBefore ((path ++ z ∷ []) ++ a.0) s) (sym b.1) (ap is_lt (before-branch path z w a.0 b.0 h)))

Rising-append : (xs ys : List (List ℕ)) → Rising xs → Rising ys → Each (λ q. Each (IsBefore q) ys) xs → Rising (xs ++ ys)
unfolding Rising Each
Rising-append [] ys h g c = g
Rising-append (x ∷ xs) ys h g c = (Each-append (IsBefore x) xs ys h.0 c.0, Rising-append xs ys h.1 g c.1)

-- the lists of an increasing family, one after another
module _ (f : ℕ → List (List ℕ)) (one : (x : ℕ) → Rising (f x)) (across : (x y : ℕ) → x < y → Each (λ q. Each (IsBefore q) (f y)) (f x)) where
  behind : (x : ℕ) (ys : List ℕ) → Each (λ y. x < y) ys → Each (λ q. Each (IsBefore q) (flat_map f ys)) (f x)
  unfolding Each
  behind x [] h = Each-all (λ q. Unit {0}) (f x) (λ q. tt)
  behind x (y ∷ ys) h =
      Each-map (λ q. Each (IsBefore q) (f y) × Each (IsBefore q) (flat_map f ys)) (λ q. Each (IsBefore q) (f y ++ flat_map f ys)) (f x)
      (λ q k. Each-append (IsBefore q) (f y) (flat_map f ys) k.0 k.1)
      (Each-both (λ q. Each (IsBefore q) (f y)) (λ q. Each (IsBefore q) (flat_map f ys)) (f x) (across x y h.0) (behind x ys h.1))

  pub Rising-flat_map : (xs : List ℕ) → Increasing xs → Rising (flat_map f xs)
  unfolding Rising Increasing
  Rising-flat_map [] h = tt
  Rising-flat_map (x ∷ xs) h = Rising-append (f x) (flat_map f xs) (one x) (Rising-flat_map xs h.1) (behind x xs h.0)

pub grown-across : (p : Board) (n : ℕ) (path : List ℕ) (z w : ℕ) → z < w → Each (λ q. Each (IsBefore q) (grown n p (path ++ w ∷ []))) (grown n p (path ++ z ∷ []))
grown-across p n path z w h =
    Each-map (Starts (path ++ z ∷ [])) (λ q. Each (IsBefore q) (grown n p (path ++ w ∷ []))) (grown n p (path ++ z ∷ []))
    (λ q a. Each-map (Starts (path ++ w ∷ [])) (IsBefore q) (grown n p (path ++ w ∷ [])) (λ r b. before-starts path z w q r h a b) (grown-starts p n (path ++ w ∷ [])))
    (grown-starts p n (path ++ z ∷ []))

pub grown-Rising : (p : Board) (n : ℕ) (path : List ℕ) → Rising (grown n p path)
unfolding grown Rising Each
grown-Rising p zero path = (tt, tt)
grown-Rising p (suc n) path = by (is_done p path) (Rising-flat_map (λ z. grown n p (path ++ z ∷ [])) (λ z. grown-Rising p n (path ++ z ∷ [])) (grown-across p n path) (further_jumps p path) (Increasing-further p path))
  where
    by : (b : Bool) → Rising (flat_map (λ z. grown n p (path ++ z ∷ [])) (further_jumps p path)) → Rising (cond b (path ∷ []) (flat_map (λ z. grown n p (path ++ z ∷ [])) (further_jumps p path)))
    by true k = (tt, tt)
    by false k = k

Each-at : {X : Type 0} (P : X → Type 0) (xs : List X) (j : ℕ) (d : X) → Each P xs → j < length xs → P (get_or xs j d)
unfolding Each
Each-at P [] j d h l = absurd (omega arith)
Each-at P (x ∷ xs) zero d h l = h.0
Each-at P (x ∷ xs) (suc j) d h l = Each-at P xs j d h.1 (omega arith)

pub Rising-pairs : (qs : List (List ℕ)) → Rising qs → AllPairs IsBefore qs
unfolding Rising
Rising-pairs [] h i j d k l = absurd (omega arith)
Rising-pairs (q ∷ qs) h i zero d k l = absurd (omega arith)
Rising-pairs (q ∷ qs) h zero (suc j) d k l = Each-at (IsBefore q) qs j d h.0 (omega arith)
Rising-pairs (q ∷ qs) h (suc i) (suc j) d k l = Rising-pairs qs h.1 i j d (omega arith) (omega arith)

-- ---- what the code needs, of any path

nil_has : (xs : List ℕ) → is_nil xs ≡ false → (x : ℕ) × Contains xs x
nil_has [] h = absurd (true≢false h)
nil_has (x ∷ xs) h = (x, Contains-append_left (x ∷ []) xs x (Contains-push [] x))

pub room-left : (p : Board) (path : List ℕ) → 1 ≤ length path → length path ≤ 13 → IsLawful p → IsCapturePrefix p path → is_done p path ≡ false → length path < 13
room-left p [] least most lawful h d = absurd (omega arith)
room-left p (x ∷ rest) least most lawful h d =
    let z = nil_has (further_jumps p (x ∷ rest)) (or_second (is_crowned_on (cell_at p x) (last_square (x ∷ rest))) _ d) in
    let g = further_goes_on p (x ∷ rest) z.0 z.1 in
    elim (cases_lt (length rest) 12) [ inl l ↦ omega arith | inr l ↦ absurd (full p x rest z.0 lawful h (omega arith) g) ]

pub longer-prefix : (p : Board) (path : List ℕ) (z : ℕ) → 1 ≤ length path → IsCapturePrefix p path → is_done p path ≡ false → Contains (further_jumps p path) z → IsCapturePrefix p (path ++ z ∷ [])
longer-prefix p [] z least h d k = absurd (omega arith)
longer-prefix p (x ∷ rest) z least h d k = prefix-push p x rest z h (or_first _ _ d) (further_goes_on p (x ∷ rest) z k)

pub grown-when_done : (p : Board) (n : ℕ) (path : List ℕ) → is_done p path ≡ true → grown n p path ≡ path ∷ []
grown-when_done p zero path d = grown-zero p path
grown-when_done p (suc n) path d = grown-done p n path d

pub grown-step : (p : Board) (path : List ℕ) → is_done p path ≡ false → length path < 13 → grown (13 - length path) p path ≡ flat_map (λ z. grown (12 - length path) p (path ++ z ∷ [])) (further_jumps p path)
grown-step p path d l =
    let e : 13 - length path ≡ suc (12 - length path) = omega arith in
    ap (λ n. grown n p path) e ∙ grown-more p (12 - length path) path d

pub flat_map-turn : (p : Board) (path : List ℕ) (before now : List (List ℕ)) (zs : List ℕ) (i z : ℕ) → i < length zs → z ≡ get_or zs i z → now ≡ before ++ flat_map (λ w. grown (12 - length path) p (path ++ w ∷ [])) (take i zs) → now ++ grown (13 - length (path ++ z ∷ [])) p (path ++ z ∷ []) ≡ before ++ flat_map (λ w. grown (12 - length path) p (path ++ w ∷ [])) (take (i + 1) zs)
flat_map-turn p path before now zs i z l g h =
    let f : ℕ → List (List ℕ) = λ w. grown (12 - length path) p (path ++ w ∷ []) in
    let e : 13 - length (path ++ z ∷ []) ≡ 12 - length path = omega (arith, length-append path (z ∷ [])) in
    ap (λ n. now ++ grown n p (path ++ z ∷ [])) e
    ∙ ap (λ l. l ++ f z) h
    ∙ flat_map_more f before (take i zs) z
    ∙ ap (λ l. before ++ flat_map f l) (ap (λ w. take i zs ++ w ∷ []) g ∙ sym (take_more zs i z l))
