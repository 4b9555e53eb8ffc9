-- Where a game has finitely many positions, each of them has a value; and draughts has.
use Rattle.std.proofs.Common.{◌≡◌, ℕ, zero, suc, ◌+◌, ◌≤◌, ◌⊎◌, inl, inr, Bool, true, false, cond, ◌&&◌, ◌||◌, List, [], ◌∷◌, ◌++◌, length, map, refl, sym, ◌∙◌, ap, subst, arith}
use Rattle.std.specs.Prelude.{Contains, flat_map}
use Rattle.std.specs.List.{list_any, list_all}
use Rattle.std.specs.Cmp.{first_so, second_so}
use Rattle.std.specs.Cmp.Derive.{both_true}
use Rattle.std.proofs.lemmas.Bool.{cases_Bool, cases_lt, or_cases, or_left, or_right, true≢false, false≢true}
use Rattle.std.proofs.lemmas.List.Elements.{Contains-append_left, Contains-append_right}
use Rattle.draughts_board.specs.declared.pieces.Side.{Side}
use Rattle.draughts_board.specs.declared.pieces.Side.TheVariants.{Black, White}
use Rattle.draughts_board.specs.declared.pieces.Cell.{Cell}
use Rattle.draughts_board.specs.declared.pieces.Cell.TheVariants.{Empty, Man, King}
use Rattle.draughts_board.specs.declared.pieces.Value.{Value}
use Rattle.draughts_board.specs.declared.pieces.Value.TheVariants.{BlackWins, WhiteWins, Draw}
use Rattle.draughts_board.specs.Board.{Board, other, same_side}
use Rattle.draughts_board.specs.Same.{same_side-Decides}
use Rattle.draughts_board.specs.Play.{is_nil}
use Rattle.draughts_board.specs.Game.{Game, CanForce, by_move, by_every_reply, WinsIn, Wins, HasValue}
use Rattle.draughts_board.specs.Draughts.{draughts}
use Rattle.draughts_board.specs.Laws.{PositionsHaveOneValue}
use Rattle.draughts_board.proofs.Members.{Contains-nil, Contains-cons_cases, Contains-head, Contains-tail, Contains-map, Contains-flat_map, any_true, true_any}
use Rattle.draughts_board.proofs.Truth.{one_side, not_both_sides, WinsIn-more, values_agree}
use Rattle.draughts_board.proofs.Successors.{draughts_takes_turns, is_lawful-true, lawful-from_test}

-- ---- tests of every element

all_true : {X : Type 0} (test : X → Bool) (xs : List X) → ((x : X) → Contains xs x → test x ≡ true) → list_all test xs ≡ true
all_true test [] h = refl
all_true test (x ∷ xs) h = both_true (h x (Contains-head x xs)) (all_true test xs (λ y k. h y (Contains-tail x y xs k)))

true_all : {X : Type 0} (test : X → Bool) (xs : List X) (x : X) → list_all test xs ≡ true → Contains xs x → test x ≡ true
true_all test [] x h k = absurd (Contains-nil x k)
true_all test (y ∷ xs) x h k =
    elim (Contains-cons_cases y xs x k) [ inl e ↦ subst (λ z. test z ≡ true) e (first_so _ _ h) | inr t ↦ true_all test xs x (second_so _ _ h) t ]

-- ---- how many elements pass a test

abbrev one : Bool → ℕ
one true = 1
one false = 0

abbrev tally : {X : Type 0} → (X → Bool) → List X → ℕ
tally test [] = 0
tally test (x ∷ xs) = one (test x) + tally test xs

one-most : (b : Bool) → one b ≤ 1
one-most true = omega arith
one-most false = omega arith

one-more : (a b : Bool) → (a ≡ true → b ≡ true) → one a ≤ one b
one-more true b h = subst (λ c. 1 ≤ one c) (sym (h refl)) (omega arith)
one-more false b h = omega arith

-- where no more pass, nothing new passes
one-same : (a b : Bool) → one a ≡ one b → b ≡ true → a ≡ true
one-same true b e h = refl
one-same false true e h = absurd (omega arith)
one-same false false e h = h

tally-most : {X : Type 0} (test : X → Bool) (xs : List X) → tally test xs ≤ length xs
tally-most test [] = omega arith
tally-most test (x ∷ xs) = let a = one-most (test x) in let b = tally-most test xs in omega arith

tally-more : {X : Type 0} (test test' : X → Bool) → ((x : X) → test x ≡ true → test' x ≡ true) → (xs : List X) → tally test xs ≤ tally test' xs
tally-more test test' more [] = omega arith
tally-more test test' more (x ∷ xs) = let a = one-more (test x) (test' x) (more x) in let b = tally-more test test' more xs in omega arith

tally-same : {X : Type 0} (test test' : X → Bool) → ((x : X) → test x ≡ true → test' x ≡ true) → (xs : List X) → tally test xs ≡ tally test' xs → (x : X) → Contains xs x → test' x ≡ true → test x ≡ true
tally-same test test' more [] e x k h = absurd (Contains-nil x k)
tally-same test test' more (y ∷ xs) e x k h =
    let a = one-more (test y) (test' y) (more y) in
    let b = tally-more test test' more xs in
    elim (Contains-cons_cases y xs x k) [
      | inl i ↦ subst (λ z. test z ≡ true) i (one-same (test y) (test' y) (omega arith) (subst (λ z. test' z ≡ true) (sym i) h))
      | inr t ↦ tally-same test test' more xs (omega arith) x t h
    ]

-- ---- wins in at most n plies, as a test

nil-from_test : {X : Type 0} (xs : List X) → is_nil xs ≡ true → xs ≡ []
nil-from_test [] h = refl
nil-from_test (x ∷ xs) h = absurd (false≢true h)

not_same : (s x : Side) → x ≡ other s → same_side x s ≡ true → ⊥
not_same s x theirs same = not_both_sides s x ((same_side-Decides x s).0 same) theirs

module _ {P : Type 0} (game : Game P) where
  abbrev forces : Side → (P → Bool) → P → Bool
  forces s test p = cond (same_side (game.mover p) s) (list_any test (game.next p)) (list_all test (game.next p))

  forces-sound : (s : Side) (test : P → Bool) (F : P → Type 0) (p : P) → ((q : P) → Contains (game.next p) q → test q ≡ true → F q) → forces s test p ≡ true → CanForce game s F p
  forces-sound s test F p f h =
      elim (cases_Bool (same_side (game.mover p) s)) [
        | inl e ↦
            let any : list_any test (game.next p) ≡ true = ap (λ b. cond b (list_any test (game.next p)) (list_all test (game.next p))) (sym e) ∙ h in
            let r = true_any test (game.next p) any in
            by_move r.0 ((same_side-Decides (game.mover p) s).0 e) r.1.0 (f r.0 r.1.0 r.1.1)
        | inr e ↦
            let each : list_all test (game.next p) ≡ true = ap (λ b. cond b (list_any test (game.next p)) (list_all test (game.next p))) (sym e) ∙ h in
            elim (one_side s (game.mover p)) [
              | inl mine ↦ absurd (true≢false (sym ((same_side-Decides (game.mover p) s).1 mine) ∙ e))
              | inr theirs ↦ by_every_reply theirs (λ q next. f q next (true_all test (game.next p) q each next))
            ]
      ]

  forces-complete : (s : Side) (test : P → Bool) (F : P → Type 0) (p : P) → ((q : P) → Contains (game.next p) q → F q → test q ≡ true) → CanForce game s F p → forces s test p ≡ true
  forces-complete s test F p f (by_move q mine next here) =
      ap (λ b. cond b (list_any test (game.next p)) (list_all test (game.next p))) ((same_side-Decides (game.mover p) s).1 mine)
      ∙ any_true test (game.next p) q next (f q next here)
  forces-complete s test F p f (by_every_reply theirs all) =
      elim (cases_Bool (same_side (game.mover p) s)) [
        | inl e ↦ absurd (not_same s (game.mover p) theirs e)
        | inr e ↦
            ap (λ b. cond b (list_any test (game.next p)) (list_all test (game.next p))) e
            ∙ all_true test (game.next p) (λ q next. f q next (all q next))
      ]

  abbrev within : Side → ℕ → P → Bool
  within s zero p = same_side (game.mover p) (other s) && is_nil (game.next p)
  within s (suc n) p = within s n p || forces s (within s n) p

  within-sound : (s : Side) (n : ℕ) (p : P) → within s n p ≡ true → WinsIn game s n p
  within-sound s zero p h = ((same_side-Decides (game.mover p) (other s)).0 (first_so _ _ h), nil-from_test (game.next p) (second_so _ _ h))
  within-sound s (suc n) p h =
      elim (or_cases (within s n p) (forces s (within s n) p) h) [
        | inl w ↦ inl (within-sound s n p w)
        | inr f ↦ inr (forces-sound s (within s n) (WinsIn game s n) p (λ q next w. within-sound s n q w) f)
      ]

  within-complete : (s : Side) (n : ℕ) (p : P) → WinsIn game s n p → within s n p ≡ true
  within-complete s zero p w = both_true ((same_side-Decides (game.mover p) (other s)).1 w.0) (ap is_nil w.1)
  within-complete s (suc n) p (inl w) = or_left (within s n p) _ (within-complete s n p w)
  within-complete s (suc n) p (inr f) = or_right (within s n p) _ (forces-complete s (within s n) (WinsIn game s n) p (λ q next w. within-complete s n q w) f)

  -- ---- finitely many positions

  module _ (all : List P) (listed : (p : P) → game.is_position p ≡ true → Contains all p) (stays : (p q : P) → game.is_position p ≡ true → Contains (game.next p) q → game.is_position q ≡ true) where
    -- the wins in n plies are all that there are from some n on, since their number cannot rise for ever
    no_more : (s : Side) (k n : ℕ) → length all ≤ tally (within s n) all + k → (m : ℕ) × (tally (within s m) all ≡ tally (within s (suc m)) all)
    no_more s zero n h =
        let a = tally-more (within s n) (within s (suc n)) (λ p w. or_left (within s n p) _ w) all in
        let b = tally-most (within s (suc n)) all in
        (n, omega arith)
    no_more s (suc k) n h =
        let a = tally-more (within s n) (within s (suc n)) (λ p w. or_left (within s n p) _ w) all in
        elim (cases_lt (tally (within s n) all) (tally (within s (suc n)) all)) [
          | inl l ↦ no_more s k (suc n) (omega arith)
          | inr e ↦ (n, omega arith)
        ]

    settled : (s : Side) (m : ℕ) → tally (within s m) all ≡ tally (within s (suc m)) all → (k : ℕ) (p : P) → game.is_position p ≡ true → within s (k + m) p ≡ true → within s m p ≡ true
    settled s m e zero p here w = let i : 0 + m ≡ m = omega arith in subst (λ n. within s n p ≡ true) i w
    settled s m e (suc k) p here w =
        let i : suc k + m ≡ suc (k + m) = omega arith in
        let w' : within s (suc (k + m)) p ≡ true = subst (λ n. within s n p ≡ true) i w in
        elim (or_cases (within s (k + m) p) (forces s (within s (k + m)) p) w') [
          | inl a ↦ settled s m e k p here a
          | inr f ↦
              let next_won : forces s (within s m) p ≡ true =
              forces-complete s (within s m) (λ q. within s m q ≡ true) p (λ q next a. a)
              (forces-sound s (within s (k + m)) (λ q. within s m q ≡ true) p (λ q next a. settled s m e k q (stays p q here next) a) f) in
              tally-same (within s m) (within s (suc m)) (λ q a. or_left (within s m q) _ a) all e p (listed p here) (or_right (within s m p) _ next_won)
        ]

    -- a side wins a position or does not
    decided : (s : Side) (p : P) → game.is_position p ≡ true → Wins game s p ⊎ (Wins game s p → ⊥)
    decided s p here =
        let r = no_more s (length all) 0 (omega arith) in
        elim (cases_Bool (within s r.0 p)) [
          | inl w ↦ inl (r.0, within-sound s r.0 p w)
          | inr f ↦ inr (λ w. true≢false (sym (settled s r.0 r.1 w.0 p here (within-complete s (w.0 + r.0) p (WinsIn-more game s (w.0 + r.0) w.0 p (omega arith) w.1))) ∙ f))
        ]

    has_value : (p : P) → game.is_position p ≡ true → (v : Value) × HasValue game p v
    has_value p here =
        elim (decided Black p here) [
          | inl b ↦ (BlackWins, b)
          | inr not_black ↦ elim (decided White p here) [ inl w ↦ (WhiteWins, w) | inr not_white ↦ (Draw, (not_white, not_black)) ]
        ]

-- ---- the boards of draughts

pieces_there_are : List Cell
pieces_there_are = Empty ∷ Man Black ∷ Man White ∷ King Black ∷ King White ∷ []

each_piece : (c : Cell) → Contains pieces_there_are c
unfolding pieces_there_are
each_piece Empty = (0, omega arith, refl)
each_piece (Man Black) = (1, omega arith, refl)
each_piece (Man White) = (2, omega arith, refl)
each_piece (King Black) = (3, omega arith, refl)
each_piece (King White) = (4, omega arith, refl)

rows_of : ℕ → List (List Cell)
rows_of zero = [] ∷ []
rows_of (suc n) = flat_map (λ c. map (λ cells. c ∷ cells) (rows_of n)) pieces_there_are

each_row : (cells : List Cell) → Contains (rows_of (length cells)) cells
unfolding rows_of
each_row [] = Contains-head [] []
each_row (c ∷ cells) =
    Contains-flat_map (λ d. map (λ ds. d ∷ ds) (rows_of (length cells))) pieces_there_are c (c ∷ cells) (each_piece c)
    (Contains-map (λ ds. c ∷ ds) (rows_of (length cells)) cells (each_row cells))

with_mover : Side → List (List Cell) → List Board
with_mover s rows = map (λ cells. record { cells = cells; to_move = s }) rows

every_board : List Board
every_board = with_mover Black (rows_of 32) ++ with_mover White (rows_of 32)

each_with : (s : Side) (cells : List Cell) → length cells ≡ 32 → Contains (with_mover s (rows_of 32)) (record { cells = cells; to_move = s })
unfolding with_mover
each_with s cells size =
    Contains-map (λ (cs : List Cell). record { cells = cs; to_move = s }) (rows_of 32) cells (subst (λ n. Contains (rows_of n) cells) size (each_row cells))

each_board : (s : Side) (cells : List Cell) → length cells ≡ 32 → Contains every_board (record { cells = cells; to_move = s })
unfolding every_board
each_board Black cells size = Contains-append_left (with_mover Black (rows_of 32)) (with_mover White (rows_of 32)) _ (each_with Black cells size)
each_board White cells size = Contains-append_right (with_mover Black (rows_of 32)) (with_mover White (rows_of 32)) _ (each_with White cells size)

pub positions_have_one_value : PositionsHaveOneValue
positions_have_one_value p lawful =
    let v = has_value draughts every_board (λ q h. each_board q.to_move q.cells (lawful-from_test q h).squares) draughts_takes_turns.stays_position p (is_lawful-true p lawful) in
    (v.0, (v.1, λ w h. values_agree draughts p w v.0 h v.1))
