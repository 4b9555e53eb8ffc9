-- There is a capture exactly where some piece of the mover has a jump.
use Rattle.std.proofs.Common.{◌≡◌, ◌≢◌, ℕ, zero, suc, ◌+◌, ◌-◌, ◌≤◌, Bool, true, false, cond, not, ◌&&◌, ◌||◌, List, [], ◌∷◌, ◌++◌, length, refl, sym, ◌∙◌, ap, subst, arith}
use Rattle.std.specs.Prelude.{filter, flat_map}
use Rattle.std.specs.List.{list_any}
use Rattle.std.specs.Cmp.{first_so, second_so}
use Rattle.std.proofs.Math.Bool.{not-not}
use Rattle.std.proofs.lemmas.Bool.{leb-true, not-true}
use Rattle.draughts_board.specs.declared.pieces.Cell.{Cell}
use Rattle.draughts_board.specs.declared.pieces.Cell.TheVariants.{Empty, Man, King}
use Rattle.draughts_board.specs.Geometry.{squares}
use Rattle.draughts_board.specs.Board.{Board, cell_at, IsLawful, is_allowed}
use Rattle.draughts_board.specs.Rules.{is_own, is_jump, is_crowned_on, goes_on, further_jumps, has_jump, last_square, first_square}
use Rattle.draughts_board.specs.Play.{is_nil, is_done, grown, starts, captures, steps, legal_paths}
use Rattle.draughts_board.proofs.Allowed.{allowed_at}
use Rattle.draughts_board.proofs.PathLemmas.{or_second}
use Rattle.draughts_board.proofs.Filters.{any-same, filter-filter, filter-same}

-- ---- whether a list is empty

nil-filter : {X : Type 0} (test : X → Bool) (xs : List X) → is_nil (filter test xs) ≡ not (list_any test xs)
nil-filter test [] = refl
nil-filter {X} test (x ∷ xs) = by (test x) (nil-filter test xs)
  where
    by : (b : Bool) → is_nil (filter test xs) ≡ not (list_any test xs) → is_nil (cond b (x ∷ filter test xs) (filter test xs)) ≡ not (b || list_any test xs)
    by true e = refl
    by false e = e

nil-append : {X : Type 0} (xs ys : List X) → is_nil xs ≡ false → is_nil (xs ++ ys) ≡ false
nil-append [] ys h = absurd (let e : true ≡ false = h in cc)
nil-append (x ∷ xs) ys h = refl

nil-flat_map : {X Y : Type 0} (f : X → List Y) (xs : List X) → ((x : X) → is_nil (f x) ≡ false) → is_nil (flat_map f xs) ≡ is_nil xs
nil-flat_map f [] some = refl
nil-flat_map f (x ∷ xs) some = nil-append (f x) (flat_map f xs) (some x)

pub nil_is : {X : Type 0} (xs : List X) → is_nil xs ≡ true → xs ≡ []
nil_is [] h = refl
nil_is (x ∷ xs) h = absurd (let e : false ≡ true = h in cc)

pub nil-by_length : {X : Type 0} (xs : List X) → length xs ≡ 0 → is_nil xs ≡ true
nil-by_length [] h = refl
nil-by_length (x ∷ xs) h = absurd (omega arith)

pub some-by_length : {X : Type 0} (xs : List X) → length xs ≢ 0 → is_nil xs ≡ false
some-by_length [] h = absurd (h refl)
some-by_length (x ∷ xs) h = refl

-- ---- growth gives something

grown-some : (n : ℕ) (p : Board) (path : List ℕ) → is_nil (grown n p path) ≡ false
unfolding grown
grown-some zero p path = refl
grown-some (suc n) p path = by (is_done p path) refl (λ z. grown-some n p (path ++ z ∷ []))
  where
    by : (b : Bool) → is_done p path ≡ b → ((z : ℕ) → is_nil (grown n p (path ++ z ∷ [])) ≡ false) → is_nil (cond b (path ∷ []) (flat_map (λ z. grown n p (path ++ z ∷ [])) (further_jumps p path))) ≡ false
    by true e deeper = refl
    by false e deeper =
        nil-flat_map (λ z. grown n p (path ++ z ∷ [])) (further_jumps p path) deeper
        ∙ or_second (is_crowned_on (cell_at p (first_square path)) (last_square path)) _ e

-- ---- where a capture starts

uncrowned : (c : Cell) (n : ℕ) → is_allowed n c ≡ true → is_crowned_on c n ≡ false
uncrowned Empty n h = refl
uncrowned (Man s) n h = not-true _ h
uncrowned (King s) n h = refl

-- a piece does not stand where it would be crowned
own-uncrowned : (p : Board) (x : ℕ) → IsLawful p → is_own p x ≡ true → is_crowned_on (cell_at p x) x ≡ false
own-uncrowned p x lawful own =
    let least : 1 ≤ x = leb-true 1 x (first_so _ _ (first_so _ _ own)) in
    let most : x ≤ 32 = leb-true x 32 (second_so _ _ (first_so _ _ own)) in
    let size = lawful.squares in
    let back : 1 + (x - 1) ≡ x = omega arith in
    uncrowned (cell_at p x) x (subst (λ n. is_allowed n (cell_at p x) ≡ true) back (allowed_at 1 p.cells (x - 1) lawful.men (omega arith)))

and_true : (b : Bool) → (b && true) ≡ b
and_true true = refl
and_true false = refl

-- a capture does not end before its first jump exactly where the piece has a jump
pub done-at_start : (p : Board) (x : ℕ) → IsLawful p → is_own p x ≡ true → is_done p (x ∷ []) ≡ not (list_any (is_jump p x x) squares)
done-at_start p x lawful own =
    ap (λ b. b || is_nil (further_jumps p (x ∷ []))) (own-uncrowned p x lawful own)
    ∙ nil-filter (goes_on p (x ∷ [])) squares
    ∙ ap not (any-same (goes_on p (x ∷ [])) (is_jump p x x) squares (λ z. and_true (is_jump p x x z)))

pub starts-by_jump : (p : Board) (x : ℕ) → IsLawful p → starts p x ≡ (is_own p x && list_any (is_jump p x x) squares)
starts-by_jump p x lawful = by (is_own p x) refl
  where
    by : (b : Bool) → is_own p x ≡ b → (b && not (is_done p (x ∷ []))) ≡ (b && list_any (is_jump p x x) squares)
    by true e = ap not (done-at_start p x lawful e) ∙ not-not _
    by false e = refl

-- ---- the captures

pub nil-captures : (p : Board) → IsLawful p → is_nil (captures p) ≡ not (has_jump p)
unfolding captures
nil-captures p lawful =
    nil-flat_map (λ x. grown 12 p (x ∷ [])) (filter (starts p) squares) (λ x. grown-some 12 p (x ∷ []))
    ∙ nil-filter (starts p) squares
    ∙ ap not (any-same (starts p) (λ x. is_own p x && list_any (is_jump p x x) squares) squares (λ x. starts-by_jump p x lawful))

-- without a capture the legal paths are the steps, and else they are the captures
pub legal-without_capture : (p : Board) → IsLawful p → is_nil (captures p) ≡ true → legal_paths p ≡ steps p
unfolding legal_paths
legal-without_capture p lawful none =
    let jump : has_jump p ≡ false = sym (not-not (has_jump p)) ∙ ap not (sym (nil-captures p lawful) ∙ none) in
    ap (λ b. cond b (captures p) (steps p)) jump

pub legal-with_capture : (p : Board) → IsLawful p → is_nil (captures p) ≡ false → legal_paths p ≡ captures p
unfolding legal_paths
legal-with_capture p lawful some =
    let jump : has_jump p ≡ true = sym (not-not (has_jump p)) ∙ ap not (sym (nil-captures p lawful) ∙ some) in
    ap (λ b. cond b (captures p) (steps p)) jump

and_twice : (a b : Bool) → (a && (a && b)) ≡ (a && b)
and_twice true b = refl
and_twice false b = refl

-- captures start from the mover's squares
pub filter-starts : (p : Board) → filter (starts p) (filter (is_own p) squares) ≡ filter (starts p) squares
filter-starts p =
    filter-filter (starts p) (is_own p) squares
    ∙ filter-same (λ x. is_own p x && starts p x) (starts p) squares (λ x. and_twice (is_own p x) (not (is_done p (x ∷ []))))
