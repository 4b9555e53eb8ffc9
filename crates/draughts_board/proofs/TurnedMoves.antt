-- Legal paths on the turned board, and what they leave.
use Rattle.std.proofs.Common.{◌≡◌, ℕ, ◌-◌, ◌<◌, Bool, true, false, cond, not, ◌&&◌, ◌||◌, List, [], ◌∷◌, length, get_or, map, reverse, refl, sym, ◌∙◌, ap, subst, arith, ◌==◌, inl, inr}
use Rattle.std.specs.Prelude.{fold, Contains}
use Rattle.std.specs.List.{list_any, list_all}
use Rattle.std.specs.Cmp.{first_so, second_so}
use Rattle.std.specs.Cmp.Derive.{both_true}
use Rattle.std.proofs.lemmas.Bool.{cases_Bool, cases_eq, true≢false}
use Rattle.std.proofs.lemmas.List.{length-reverse, length-map, length-set, get_or-set_same, get_or-set_other, ext_get_or}
use Rattle.draughts_board.specs.declared.pieces.Side.{Side}
use Rattle.draughts_board.specs.declared.pieces.Cell.{Cell}
use Rattle.draughts_board.specs.declared.pieces.Cell.TheVariants.{Empty, Man, King}
use Rattle.draughts_board.specs.Geometry.{squares, is_square, are_jump_apart, are_near, between}
use Rattle.draughts_board.specs.Board.{Board, IsLawful, cell_at, belongs, is_empty, other, turned, turned_cell}
use Rattle.draughts_board.specs.Rules.{last_square, all_following, all_but_last, jumped, contains, are_distinct, is_own, is_jump, is_step, has_jump, goes_on, further_jumps, may_go, is_crowned_on, IsCapture, IsStep, IsLegal, put, at_rest, crowned, after}
use Rattle.draughts_board.specs.Laws.{turned_square, turned_path}
use Rattle.draughts_board.proofs.Truth.{other-other}
use Rattle.draughts_board.proofs.Members.{Contains-nil, Contains-filter, any_true, true_any}
use Rattle.draughts_board.proofs.Legal.{legal-squares}
use Rattle.draughts_board.proofs.Growth.{Contains-squares, jump_square, jump_apart, no_further}
use Rattle.draughts_board.proofs.Turned.{belongs-turned, get_or-turned, turned_is_lawful}
use Rattle.draughts_board.proofs.TurnedGeometry.{guarded, square-least, square-most, is_square-turned, turned-square, square-twice, same-turned, near-turned, apart-turned, between-turned, between-square, may_go-turned, crowned-turned, is_empty-turned}

-- ---- what stands on a square

pub cell_at-turned : (p : Board) → IsLawful p → (x : ℕ) → is_square x ≡ true → cell_at (turned p) (33 - x) ≡ turned_cell (cell_at p x)
cell_at-turned p lawful x h =
    let least = square-least x h in
    let most = square-most x h in
    let place : 31 - (33 - x - 1) ≡ x - 1 = omega arith in
    get_or-turned p.cells (33 - x - 1) lawful.squares (omega arith) ∙ ap (λ k. turned_cell (get_or p.cells k Empty)) place

belongs-other : (s : Side) (c : Cell) → belongs (other s) (turned_cell c) ≡ belongs s c
belongs-other s c = belongs-turned (other s) c ∙ ap (λ t. belongs t c) (other-other s)

pub is_own-turned : (p : Board) → IsLawful p → (x : ℕ) → is_own (turned p) (33 - x) ≡ is_own p x
is_own-turned p lawful x =
    guarded (is_square (33 - x)) (is_square x) (belongs (other p.to_move) (cell_at (turned p) (33 - x))) (belongs p.to_move (cell_at p x)) (is_square-turned x)
    (λ h. ap (belongs (other p.to_move)) (cell_at-turned p lawful x h) ∙ belongs-other p.to_move (cell_at p x))

-- ---- jumps and steps

or-both : (a' a b' b : Bool) → a' ≡ a → b' ≡ b → (a' || b') ≡ (a || b)
or-both a' a b' b e f = ap (λ t. t || b') e ∙ ap (λ t. a || t) f

module _ (p : Board) (lawful : IsLawful p) where
  pub is_jump-turned : (start x z : ℕ) → is_square start ≡ true → is_square x ≡ true → is_jump (turned p) (33 - start) (33 - x) (33 - z) ≡ is_jump p start x z
  is_jump-turned start x z hs hx =
      guarded _ (is_square z && are_jump_apart x z && may_go (cell_at p start) x z && belongs (other p.to_move) (cell_at p (between x z))) _ (is_empty (cell_at p z) || z == start)
      (guarded _ (is_square z && are_jump_apart x z && may_go (cell_at p start) x z) _ (belongs (other p.to_move) (cell_at p (between x z)))
      (guarded _ (is_square z && are_jump_apart x z) _ (may_go (cell_at p start) x z)
      (guarded _ (is_square z) _ (are_jump_apart x z) (is_square-turned z) (λ hz. apart-turned x z hx hz))
      (λ h. let hz = first_so _ _ h in ap (λ c. may_go c (33 - x) (33 - z)) (cell_at-turned p lawful start hs) ∙ may_go-turned (cell_at p start) x z hx hz))
      (λ h.
      let hz : is_square z ≡ true = first_so _ _ (first_so _ _ h) in
      let apart : are_jump_apart x z ≡ true = second_so _ _ (first_so _ _ h) in
      ap (λ n. belongs (other (other p.to_move)) (cell_at (turned p) n)) (between-turned x z hx hz apart)
      ∙ ap (belongs (other (other p.to_move))) (cell_at-turned p lawful (between x z) (between-square x z hx hz))
      ∙ belongs-other (other p.to_move) (cell_at p (between x z))))
      (λ h.
      let hz : is_square z ≡ true = first_so _ _ (first_so _ _ (first_so _ _ h)) in
      or-both (is_empty (cell_at (turned p) (33 - z))) (is_empty (cell_at p z)) (33 - z == 33 - start) (z == start)
      (ap is_empty (cell_at-turned p lawful z hz) ∙ is_empty-turned (cell_at p z)) (same-turned z start hz hs))

  pub is_step-turned : (x z : ℕ) → is_square x ≡ true → is_step (turned p) (33 - x) (33 - z) ≡ is_step p x z
  is_step-turned x z hx =
      guarded _ (is_square z && are_near x z && may_go (cell_at p x) x z) _ (is_empty (cell_at p z))
      (guarded _ (is_square z && are_near x z) _ (may_go (cell_at p x) x z)
      (guarded _ (is_square z) _ (are_near x z) (is_square-turned z) (λ hz. near-turned x z hx hz))
      (λ h. let hz = first_so _ _ h in ap (λ c. may_go c (33 - x) (33 - z)) (cell_at-turned p lawful x hx) ∙ may_go-turned (cell_at p x) x z hx hz))
      (λ h. let hz = first_so _ _ (first_so _ _ h) in ap is_empty (cell_at-turned p lawful z hz) ∙ is_empty-turned (cell_at p z))

-- ---- paths

pub last-turned : (x : ℕ) (rest : List ℕ) → last_square (turned_path (x ∷ rest)) ≡ 33 - last_square (x ∷ rest)
last-turned x [] = refl
last-turned x (z ∷ rest) = last-turned z rest

pub last-is_square : (x : ℕ) (rest : List ℕ) → list_all is_square (x ∷ rest) ≡ true → is_square (last_square (x ∷ rest)) ≡ true
last-is_square x [] h = first_so _ _ h
last-is_square x (z ∷ rest) h = last-is_square z rest (second_so _ _ h)

pub path-twice : (path : List ℕ) → list_all is_square path ≡ true → turned_path (turned_path path) ≡ path
path-twice [] h = refl
path-twice (x ∷ rest) h = ap (λ y. y ∷ turned_path (turned_path rest)) (square-twice x (first_so _ _ h)) ∙ ap (λ r. x ∷ r) (path-twice rest (second_so _ _ h))

pub squares-turned : (path : List ℕ) → list_all is_square (turned_path path) ≡ list_all is_square path
squares-turned [] = refl
squares-turned (x ∷ rest) = ap (λ b. b && list_all is_square (turned_path rest)) (is_square-turned x) ∙ ap (λ b. is_square x && b) (squares-turned rest)

following-turned : (test' test : ℕ → ℕ → Bool) → ((x z : ℕ) → is_square x ≡ true → test' (33 - x) (33 - z) ≡ test x z) → (path : List ℕ) → list_all is_square path ≡ true → all_following test' (turned_path path) ≡ all_following test path
following-turned test' test e [] h = refl
following-turned test' test e (x ∷ []) h = refl
following-turned test' test e (x ∷ z ∷ rest) h =
    ap (λ b. b && all_following test' (turned_path (z ∷ rest))) (e x z (first_so _ _ h)) ∙ ap (λ b. test x z && b) (following-turned test' test e (z ∷ rest) (second_so _ _ h))

but_last-turned : (test' test : ℕ → Bool) → ((x : ℕ) → is_square x ≡ true → test' (33 - x) ≡ test x) → (path : List ℕ) → list_all is_square path ≡ true → all_but_last test' (turned_path path) ≡ all_but_last test path
but_last-turned test' test e [] h = refl
but_last-turned test' test e (x ∷ []) h = refl
but_last-turned test' test e (x ∷ z ∷ rest) h =
    ap (λ b. b && all_but_last test' (turned_path (z ∷ rest))) (e x (first_so _ _ h)) ∙ ap (λ b. test x && b) (but_last-turned test' test e (z ∷ rest) (second_so _ _ h))

pub jumped-turned : (path : List ℕ) → list_all is_square path ≡ true → jumped (turned_path path) ≡ turned_path (jumped path)
jumped-turned [] h = refl
jumped-turned (x ∷ []) h = refl
jumped-turned (x ∷ z ∷ rest) h =
    let hx = first_so _ _ h in
    let hz = first_so _ _ (second_so _ _ h) in
    let more = jumped-turned (z ∷ rest) (second_so _ _ h) in
    elim (cases_Bool (are_jump_apart x z)) [
      | inl a ↦
          ap (λ b. cond b (between (33 - x) (33 - z) ∷ jumped (turned_path (z ∷ rest))) (jumped (turned_path (z ∷ rest)))) (apart-turned x z hx hz ∙ a)
          ∙ ap (λ y. y ∷ jumped (turned_path (z ∷ rest))) (between-turned x z hx hz a)
          ∙ ap (λ r. (33 - between x z) ∷ r) more
          ∙ ap (λ b. turned_path (cond b (between x z ∷ jumped (z ∷ rest)) (jumped (z ∷ rest)))) (sym a)
      | inr a ↦
          ap (λ b. cond b (between (33 - x) (33 - z) ∷ jumped (turned_path (z ∷ rest))) (jumped (turned_path (z ∷ rest)))) (apart-turned x z hx hz ∙ a)
          ∙ more
          ∙ ap (λ b. turned_path (cond b (between x z ∷ jumped (z ∷ rest)) (jumped (z ∷ rest)))) (sym a)
    ]

pub jumped-squares : (path : List ℕ) → list_all is_square path ≡ true → list_all is_square (jumped path) ≡ true
jumped-squares [] h = refl
jumped-squares (x ∷ []) h = refl
jumped-squares (x ∷ z ∷ rest) h = by (are_jump_apart x z) (jumped-squares (z ∷ rest) (second_so _ _ h))
  where
    by : (b : Bool) → list_all is_square (jumped (z ∷ rest)) ≡ true → list_all is_square (cond b (between x z ∷ jumped (z ∷ rest)) (jumped (z ∷ rest))) ≡ true
    by true k = both_true (between-square x z (first_so _ _ h) (first_so _ _ (second_so _ _ h))) k
    by false k = k

contains-turned : (xs : List ℕ) (y : ℕ) → list_all is_square xs ≡ true → is_square y ≡ true → contains (turned_path xs) (33 - y) ≡ contains xs y
contains-turned [] y h hy = refl
contains-turned (x ∷ xs) y h hy = or-both (33 - x == 33 - y) (x == y) (contains (turned_path xs) (33 - y)) (contains xs y) (same-turned x y (first_so _ _ h) hy) (contains-turned xs y (second_so _ _ h) hy)

distinct-turned : (xs : List ℕ) → list_all is_square xs ≡ true → are_distinct (turned_path xs) ≡ are_distinct xs
distinct-turned [] h = refl
distinct-turned (x ∷ xs) h =
    ap (λ b. not b && are_distinct (turned_path xs)) (contains-turned xs x (second_so _ _ h) (first_so _ _ h)) ∙ ap (λ b. not (contains xs x) && b) (distinct-turned xs (second_so _ _ h))

-- ---- legal paths

module _ (p : Board) (lawful : IsLawful p) where
  goes_on-turned : (x : ℕ) (rest : List ℕ) (z : ℕ) → list_all is_square (x ∷ rest) ≡ true → goes_on (turned p) (turned_path (x ∷ rest)) (33 - z) ≡ goes_on p (x ∷ rest) z
  goes_on-turned x rest z h =
      let last : ℕ = last_square (x ∷ rest) in
      let hl : is_square last ≡ true = last-is_square x rest h in
      ap (λ n. is_jump (turned p) (33 - x) n (33 - z) && not (contains (jumped (turned_path (x ∷ rest))) (between n (33 - z)))) (last-turned x rest)
      ∙ ap (λ js. is_jump (turned p) (33 - x) (33 - last) (33 - z) && not (contains js (between (33 - last) (33 - z)))) (jumped-turned (x ∷ rest) h)
      ∙ guarded _ (is_jump p x last z) _ (not (contains (jumped (x ∷ rest)) (between last z))) (is_jump-turned p lawful x last z (first_so _ _ h) hl)
      (λ j.
      let hz : is_square z ≡ true = jump_square p x last z j in
      ap (λ n. not (contains (turned_path (jumped (x ∷ rest))) n)) (between-turned last z hl hz (jump_apart p x last z j))
      ∙ ap not (contains-turned (jumped (x ∷ rest)) (between last z) (jumped-squares (x ∷ rest) h) (between-square last z hl hz)))

  further-turned : (x : ℕ) (rest : List ℕ) → list_all is_square (x ∷ rest) ≡ true → further_jumps p (x ∷ rest) ≡ [] → further_jumps (turned p) (turned_path (x ∷ rest)) ≡ []
  further-turned x rest h none =
      no_further (turned p) (turned_path (x ∷ rest)) (λ z g.
      let hz : is_square z ≡ true = jump_square (turned p) (33 - x) (last_square (turned_path (x ∷ rest))) z (first_so _ _ g) in
      let back : goes_on p (x ∷ rest) (33 - z) ≡ true = sym (goes_on-turned x rest (33 - z) h) ∙ ap (goes_on (turned p) (turned_path (x ∷ rest))) (square-twice z hz) ∙ g in
      Contains-nil (33 - z) (subst (λ zs. Contains zs (33 - z)) none (Contains-filter (goes_on p (x ∷ rest)) squares (33 - z) (Contains-squares (33 - z) (turned-square z hz)) back)))

  capture-turned : (path : List ℕ) → IsCapture p path → IsCapture (turned p) (turned_path path)
  capture-turned [] c = let l = c.long in absurd (omega arith)
  capture-turned (x ∷ rest) c =
      let h : list_all is_square (x ∷ rest) ≡ true = legal-squares p (x ∷ rest) (inl c) in
      let hx : is_square x ≡ true = first_so _ _ h in
      let piece = cell_at-turned p lawful x hx in
      let crowned-same : (z : ℕ) → is_square z ≡ true → is_crowned_on (cell_at (turned p) (33 - x)) (33 - z) ≡ is_crowned_on (cell_at p x) z = λ z hz. ap (λ c. is_crowned_on c (33 - z)) piece ∙ crowned-turned (cell_at p x) z hz in
      let l = c.long in
      record {
        long = omega (arith, length-map (x ∷ rest) turned_square);
        own = is_own-turned p lawful x ∙ c.own;
        jumps = following-turned (is_jump (turned p) (33 - x)) (is_jump p x) (λ a b ha. is_jump-turned p lawful x a b hx ha) (x ∷ rest) h ∙ c.jumps;
        once = ap are_distinct (jumped-turned (x ∷ rest) h) ∙ distinct-turned (jumped (x ∷ rest)) (jumped-squares (x ∷ rest) h) ∙ c.once;
        crowned_last = but_last-turned (λ z. not (is_crowned_on (cell_at (turned p) (33 - x)) z)) (λ z. not (is_crowned_on (cell_at p x) z)) (λ z hz. ap not (crowned-same z hz)) (x ∷ rest) h ∙ c.crowned_last;
        complete = elim c.complete [
          | inl e ↦ inl (ap (is_crowned_on (cell_at (turned p) (33 - x))) (last-turned x rest) ∙ crowned-same (last_square (x ∷ rest)) (last-is_square x rest h) ∙ e)
          | inr e ↦ inr (further-turned x rest h e)
        ];
      }

  -- where the turned board has a jump, so has the board
  has_jump-back : has_jump (turned p) ≡ true → has_jump p ≡ true
  has_jump-back h =
      let r = true_any (λ x. is_own (turned p) x && list_any (is_jump (turned p) x x) squares) squares h in
      let x : ℕ = r.0 in
      let own : is_own (turned p) x ≡ true = first_so _ _ r.1.1 in
      let hx : is_square x ≡ true = first_so _ _ own in
      let q = true_any (is_jump (turned p) x x) squares (second_so _ _ r.1.1) in
      let z : ℕ = q.0 in
      let hz : is_square z ≡ true = jump_square (turned p) x x z q.1.1 in
      let back : 33 - (33 - x) ≡ x = square-twice x hx in
      let hx' : is_square (33 - x) ≡ true = turned-square x hx in
      let own' : is_own p (33 - x) ≡ true = sym (is_own-turned p lawful (33 - x)) ∙ ap (is_own (turned p)) back ∙ own in
      let jump' : is_jump p (33 - x) (33 - x) (33 - z) ≡ true =
      sym (is_jump-turned p lawful (33 - x) (33 - x) (33 - z) hx' hx') ∙ ap (λ n. is_jump (turned p) n n (33 - (33 - z))) back ∙ ap (is_jump (turned p) x x) (square-twice z hz) ∙ q.1.1 in
      any_true (λ w. is_own p w && list_any (is_jump p w w) squares) squares (33 - x) (Contains-squares (33 - x) hx')
      (both_true own' (any_true (is_jump p (33 - x) (33 - x)) squares (33 - z) (Contains-squares (33 - z) (turned-square z hz)) jump'))

  no_jump-turned : has_jump p ≡ false → has_jump (turned p) ≡ false
  no_jump-turned h = elim (cases_Bool (has_jump (turned p))) [ inl t ↦ absurd (true≢false (sym (has_jump-back t) ∙ h)) | inr f ↦ f ]

  step-turned : (path : List ℕ) → IsStep p path → IsStep (turned p) (turned_path path)
  step-turned [] s = let l = s.two in absurd (omega arith)
  step-turned (x ∷ []) s = let l = s.two in absurd (omega arith)
  step-turned (x ∷ z ∷ y ∷ rest) s = let l = s.two in absurd (omega arith)
  step-turned (x ∷ z ∷ []) s = record {
    two = refl;
    own = is_own-turned p lawful x ∙ s.own;
    step = is_step-turned p lawful x z (first_so _ _ s.own) ∙ s.step;
    no_jump = no_jump-turned s.no_jump;
  }

  pub legal-turned : (path : List ℕ) → IsLegal p path → IsLegal (turned p) (turned_path path)
  legal-turned path (inl c) = inl (capture-turned path c)
  legal-turned path (inr s) = inr (step-turned path s)

-- ---- turned twice

cell-twice : (c : Cell) → turned_cell (turned_cell c) ≡ c
cell-twice Empty = refl
cell-twice (Man s) = ap Man (other-other s)
cell-twice (King s) = ap King (other-other s)

length-turned : (cells : List Cell) → length (reverse (map turned_cell cells)) ≡ length cells
length-turned cells = length-reverse (map turned_cell cells) ∙ length-map cells turned_cell

cells-twice : (cells : List Cell) → length cells ≡ 32 → reverse (map turned_cell (reverse (map turned_cell cells))) ≡ cells
cells-twice cells size =
    let once = length-turned cells in
    let twice = length-turned (reverse (map turned_cell cells)) in
    ext_get_or Empty (reverse (map turned_cell (reverse (map turned_cell cells)))) cells (twice ∙ once) (λ k l.
    let small : k < 32 = omega (arith, once, twice, size) in
    let place : 31 - (31 - k) ≡ k = omega arith in
    get_or-turned (reverse (map turned_cell cells)) k (once ∙ size) small
    ∙ ap turned_cell (get_or-turned cells (31 - k) size (omega arith))
    ∙ cell-twice (get_or cells (31 - (31 - k)) Empty)
    ∙ ap (λ i. get_or cells i Empty) place)

pub turned-twice : (p : Board) → IsLawful p → turned (turned p) ≡ p
turned-twice p lawful = λ i. record { cells = cells-twice p.cells lawful.squares i; to_move = other-other p.to_move i }

pub legal-back : (p : Board) → IsLawful p → (path : List ℕ) → IsLegal (turned p) (turned_path path) → IsLegal p path
legal-back p lawful path l =
    let h : list_all is_square path ≡ true = sym (squares-turned path) ∙ legal-squares (turned p) (turned_path path) l in
    subst (λ q. IsLegal q path) (turned-twice p lawful) (subst (IsLegal (turned (turned p))) (path-twice path h) (legal-turned (turned p) (turned_is_lawful p lawful) (turned_path path) l))

-- ---- what a path leaves

put-turned : (cells : List Cell) (n : ℕ) (c : Cell) → length cells ≡ 32 → is_square n ≡ true → reverse (map turned_cell (put cells n c)) ≡ put (reverse (map turned_cell cells)) (33 - n) (turned_cell c)
put-turned cells n c size h =
    let least = square-least n h in
    let most = square-most n h in
    let new_size : length (put cells n c) ≡ 32 = length-set cells (n - 1) c ∙ size in
    let left = length-turned (put cells n c) in
    let here = length-turned cells in
    let right = length-set (reverse (map turned_cell cells)) (33 - n - 1) (turned_cell c) in
    ext_get_or Empty (reverse (map turned_cell (put cells n c))) (put (reverse (map turned_cell cells)) (33 - n) (turned_cell c)) (left ∙ new_size ∙ sym (right ∙ here ∙ size)) (λ k l.
    let small : k < 32 = omega (arith, left, new_size) in
    get_or-turned (put cells n c) k new_size small
    ∙ elim (cases_eq k (33 - n - 1)) [
      | inl e ↦
          let place : 31 - k ≡ n - 1 = omega arith in
          ap (λ i. turned_cell (get_or (put cells n c) i Empty)) place
          ∙ ap turned_cell (get_or-set_same cells (n - 1) c Empty (omega (arith, size)))
          ∙ sym (get_or-set_same (reverse (map turned_cell cells)) (33 - n - 1) (turned_cell c) Empty (omega (arith, here, size)))
          ∙ ap (λ i. get_or (put (reverse (map turned_cell cells)) (33 - n) (turned_cell c)) i Empty) (sym e)
      | inr d ↦
          ap turned_cell (get_or-set_other cells (n - 1) (31 - k) c Empty (λ f. d (omega arith)))
          ∙ sym (get_or-turned cells k size small)
          ∙ sym (get_or-set_other (reverse (map turned_cell cells)) (33 - n - 1) k (turned_cell c) Empty d)
    ])

clear-turned : (ns : List ℕ) (cells : List Cell) → length cells ≡ 32 → list_all is_square ns ≡ true → reverse (map turned_cell (fold (λ cs n. put cs n Empty) cells ns)) ≡ fold (λ cs n. put cs n Empty) (reverse (map turned_cell cells)) (turned_path ns)
clear-turned [] cells size h = refl
clear-turned (n ∷ ns) cells size h =
    clear-turned ns (put cells n Empty) (length-set cells (n - 1) Empty ∙ size) (second_so _ _ h)
    ∙ ap (λ cs. fold (λ cs n. put cs n Empty) cs (turned_path ns)) (put-turned cells n Empty size (first_so _ _ h))

clear-length : (ns : List ℕ) (cells : List Cell) → length (fold (λ cs n. put cs n Empty) cells ns) ≡ length cells
clear-length [] cells = refl
clear-length (n ∷ ns) cells = clear-length ns (put cells n Empty) ∙ length-set cells (n - 1) Empty

crowned-cell : (c : Cell) → turned_cell (crowned c) ≡ crowned (turned_cell c)
crowned-cell Empty = refl
crowned-cell (Man s) = refl
crowned-cell (King s) = refl

at_rest-turned : (c : Cell) (z : ℕ) → is_square z ≡ true → turned_cell (at_rest c z) ≡ at_rest (turned_cell c) (33 - z)
at_rest-turned c z h =
    by (is_crowned_on c z) ∙ ap (λ b. cond b (crowned (turned_cell c)) (turned_cell c)) (sym (crowned-turned c z h))
  where
    by : (b : Bool) → turned_cell (cond b (crowned c) c) ≡ cond b (crowned (turned_cell c)) (turned_cell c)
    by true = crowned-cell c
    by false = refl

pub after-turned : (p : Board) (path : List ℕ) → IsLawful p → IsLegal p path → after (turned p) (turned_path path) ≡ turned (after p path)
after-turned p [] lawful (inl c) = let l = c.long in absurd (omega arith)
after-turned p [] lawful (inr s) = let l = s.two in absurd (omega arith)
after-turned p (x ∷ rest) lawful legal =
    let h : list_all is_square (x ∷ rest) ≡ true = legal-squares p (x ∷ rest) legal in
    let hx : is_square x ≡ true = first_so _ _ h in
    let z : ℕ = last_square (x ∷ rest) in
    let hz : is_square z ≡ true = last-is_square x rest h in
    let size : length p.cells ≡ 32 = lawful.squares in
    let lifted : List Cell = put p.cells x Empty in
    let lifted_size : length lifted ≡ 32 = length-set p.cells (x - 1) Empty ∙ size in
    let cleared : List Cell = fold (λ cs n. put cs n Empty) lifted (jumped (x ∷ rest)) in
    let cleared_size : length cleared ≡ 32 = clear-length (jumped (x ∷ rest)) lifted ∙ lifted_size in
    let piece : Cell = at_rest (cell_at p x) z in
    let flipped : List Cell → List Cell = λ cs. reverse (map turned_cell cs) in
    let same_lifted : flipped lifted ≡ put (flipped p.cells) (33 - x) Empty = put-turned p.cells x Empty size hx in
    let same_cleared : flipped cleared ≡ fold (λ cs n. put cs n Empty) (put (flipped p.cells) (33 - x) Empty) (jumped (turned_path (x ∷ rest))) =
    clear-turned (jumped (x ∷ rest)) lifted lifted_size (jumped-squares (x ∷ rest) h)
    ∙ ap (λ cs. fold (λ cs n. put cs n Empty) cs (turned_path (jumped (x ∷ rest)))) same_lifted
    ∙ ap (λ ns. fold (λ cs n. put cs n Empty) (put (flipped p.cells) (33 - x) Empty) ns) (sym (jumped-turned (x ∷ rest) h)) in
    let same_piece : turned_cell piece ≡ at_rest (cell_at (turned p) (33 - x)) (33 - z) =
    at_rest-turned (cell_at p x) z hz ∙ ap (λ c. at_rest c (33 - z)) (sym (cell_at-turned p lawful x hx)) in
    let last : last_square (turned_path (x ∷ rest)) ≡ 33 - z = last-turned x rest in
    let cells : flipped (put cleared z piece) ≡ (after (turned p) (turned_path (x ∷ rest))).cells =
    put-turned cleared z piece cleared_size hz
    ∙ ap (λ cs. put cs (33 - z) (turned_cell piece)) same_cleared
    ∙ ap (λ c. put (fold (λ cs n. put cs n Empty) (put (flipped p.cells) (33 - x) Empty) (jumped (turned_path (x ∷ rest)))) (33 - z) c) same_piece
    ∙ ap (λ n. put (fold (λ cs n. put cs n Empty) (put (flipped p.cells) (33 - x) Empty) (jumped (turned_path (x ∷ rest)))) n (at_rest (cell_at (turned p) (33 - x)) n)) (sym last) in
    λ i. record { cells = sym cells i; to_move = other (other p.to_move) }
