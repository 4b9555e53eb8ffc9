-- The laws of the order, for the crates above.
use Rattle.std.proofs.Common.{◌≡◌, ℕ, zero, suc, ◌+◌, ◌-◌, ◌*◌, ◌/◌, ◌%◌, ◌^◌, ◌<◌, ◌≤◌, Bool, true, false, cond, not, filter, fold, List, [], length, slice_get, replicate, Some, None, option_and_then, refl, sym, ap, ap₂, subst, ◌∙◌, ⊎_elim, arith, le-ltb, lt-ltb}
use Rattle.std.proofs.Math.Nat.{one-le-pow}
use Rattle.std.proofs.lemmas.Bool.{cases_lt}
use Rattle.std.proofs.lemmas.Nat.{mul-add-lt, div-mul-add, mod-mul-add, div_below, mod_below, div-add-mod'}
use Rattle.draughts_board.specs.declared.pieces.Side.{Side}
use Rattle.draughts_board.specs.declared.pieces.Side.TheVariants.{Black, White}
use Rattle.draughts_board.specs.declared.pieces.Cell.TheVariants.{Empty}
use Rattle.draughts_board.specs.Geometry.{squares}
use Rattle.draughts_board.specs.Board.{Board, cell_at, is_empty, IsLawful, is_lawful, piece_count}
use Rattle.draughts_board.proofs.Successors.{is_lawful-true, lawful-from_test}
use Rattle.table_index.specs.Counting.{choose}
use Rattle.table_index.specs.Order.{choices, first_index, entry_count, occupied, place_of_choice, kind, kinds_of, side_number, side_numbered, index_of, with_pieces_on, board_of, if_lawful, position_in_block, block_of, position_at}
use Rattle.table_index.specs.Laws.{BlockSizes, PositionsHaveIndices, PositionsStandAtTheirIndices, NoIndexIsShared, IndicesHoldPositions, IsPositionOf}
use Rattle.table_index.proofs.Choosing.{length-choices, place_in}
use Rattle.table_index.proofs.CellsFrom.{from, held, stood, later, digits, digits-lt, length-stood, placed, IsPlaced, pieces-held, filter-stood, fold-digits, with-stood}
use Rattle.table_index.proofs.CellsOfChoice.{AreCellsOf, made, get-some}

-- ---- the blocks

pub squares-from : squares ≡ from 1 32
unfolding squares
squares-from = refl

pub block-step : (n : ℕ) → first_index (suc n) ≡ first_index n + choose n 32 * 4 ^ n * 2
unfolding first_index
block-step n = ap (λ m. first_index n + m * 4 ^ n * 2) (length-choices n squares ∙ ap (λ all. choose n (length all)) squares-from)

no-index-before : first_index 0 ≡ 0
unfolding first_index
no-index-before = refl

chosen : (choose 0 32 ≡ 1) × (choose 1 32 ≡ 32) × (choose 2 32 ≡ 496) × (choose 3 32 ≡ 4960)
unfolding choose
chosen = (refl, refl, refl, refl)

pub block_sizes : BlockSizes
block_sizes =
    let one : first_index 1 ≡ 2 = block-step 0 ∙ ap₂ (λ a b. a + b * 4 ^ 0 * 2) no-index-before chosen.0 in
    let two : first_index 2 ≡ 258 = block-step 1 ∙ ap₂ (λ a b. a + b * 4 ^ 1 * 2) one chosen.1 in
    let three : first_index 3 ≡ 16130 = block-step 2 ∙ ap₂ (λ a b. a + b * 4 ^ 2 * 2) two chosen.2 in
    let four : first_index 4 ≡ 651010 = block-step 3 ∙ ap₂ (λ a b. a + b * 4 ^ 3 * 2) three chosen.3 in
    record { first_of_none = no-index-before; first_of_one = one; first_of_two = two; first_of_three = three; count_of_two = three; count_of_three = four }

pub blocks-rise : (n j : ℕ) → first_index n ≤ first_index (j + n)
blocks-rise n zero = subst (λ m. first_index n ≤ first_index m) (let e : n ≡ 0 + n = omega arith in e) (omega arith)
blocks-rise n (suc j) =
    let below = blocks-rise n j in
    let e : suc (j + n) ≡ suc j + n = omega arith in
    let step = block-step (j + n) in
    subst (λ m. first_index n ≤ first_index m) e (omega arith)

-- each index lies in a block
pub record IsInBlock (k i n : ℕ) : Type 0 where
  pub few : n ≤ k
  pub least : first_index n ≤ i
  pub most : i < first_index (suc n)

pub find-block : (k i : ℕ) → i < first_index (suc k) → (n : ℕ) × IsInBlock k i n
find-block zero i h = (0, record { few = omega arith; least = let e = no-index-before in omega arith; most = h })
find-block (suc k) i h =
    ⊎_elim (λ (l : i < first_index (suc k)). let found = find-block k i l in let few = found.1.few in (found.0, record { few = omega arith; least = found.1.least; most = found.1.most }))
    (λ (l : first_index (suc k) ≤ i). (suc k, record { few = omega arith; least = l; most = h }))
    (cases_lt i (first_index (suc k)))

pub block-is : (n i : ℕ) → n ≤ 3 → first_index n ≤ i → i < first_index (suc n) → block_of i ≡ n
block-is zero i h l m = let a = lt-ltb i (first_index 1) m in rw a refl
block-is (suc zero) i h l m = let a = le-ltb i (first_index 1) l in let b = lt-ltb i (first_index 2) m in rw (a, b) refl
block-is (suc (suc zero)) i h l m =
    let rise = blocks-rise 1 1 in
    let a = le-ltb i (first_index 1) (omega arith) in
    let b = le-ltb i (first_index 2) l in
    let c = lt-ltb i (first_index 3) m in
    rw (a, b, c) refl
block-is (suc (suc (suc zero))) i h l m =
    let rise = blocks-rise 1 1 in
    let rise_2 = blocks-rise 2 1 in
    let a = le-ltb i (first_index 1) (omega arith) in
    let b = le-ltb i (first_index 2) (omega arith) in
    let c = le-ltb i (first_index 3) l in
    rw (a, b, c) refl
block-is (suc (suc (suc (suc n)))) i h l m = absurd (omega arith)

-- ---- the index of a board

-- the index of a board by what its cells hold
pub record HasIndex (p : Board) : Type 0 where
  pub place : ℕ
  pub whole : place + later p.cells + 1 ≡ choose (held p.cells) 32
  pub there : slice_get (choices (held p.cells) squares) place ≡ Some (stood 1 p.cells)
  pub index : index_of p ≡ first_index (held p.cells) + (place * 4 ^ held p.cells + digits p.cells) * 2 + side_number p.to_move

pub count-held : (p : Board) → piece_count p ≡ held p.cells
count-held p = pieces-held p.cells

squares-of : (p : Board) → length p.cells ≡ 32 → squares ≡ from 1 (length p.cells)
squares-of p long = squares-from ∙ ap (from 1) (sym long)

pub occupied-stood : (p : Board) → length p.cells ≡ 32 → occupied p ≡ stood 1 p.cells
occupied-stood p long = ap (filter (λ n. not (is_empty (cell_at p n)))) (squares-of p long) ∙ filter-stood [] p.cells 1 refl

pub kinds-digits : (p : Board) → length p.cells ≡ 32 → kinds_of p ≡ digits p.cells
kinds-digits p long = ap (fold (λ number n. number * 4 + kind (cell_at p n)) 0) (occupied-stood p long) ∙ fold-digits [] p.cells 1 0 refl ∙ omega arith

pub has_index : (p : Board) → length p.cells ≡ 32 → HasIndex p
unfolding index_of
has_index p long =
    let those = stood 1 p.cells in
    let is : IsPlaced squares those (later p.cells) = subst (λ all. IsPlaced all those (later p.cells)) (sym (squares-of p long)) (placed 1 p.cells) in
    let many : length those ≡ held p.cells = length-stood 1 p.cells in
    let all : length squares ≡ 32 = ap length squares-from in
    record {
      place = place_in squares those;
      whole = is.whole ∙ ap₂ choose many all;
      there = subst (λ n. slice_get (choices n squares) (place_in squares those) ≡ Some those) many is.there;
      index = ap₂ (λ n x. first_index n + (place_of_choice (occupied p) * 4 ^ n + x) * 2 + side_number p.to_move) (count-held p) (kinds-digits p long)
          ∙ ap (λ choice. first_index (held p.cells) + (place_of_choice choice * 4 ^ held p.cells + digits p.cells) * 2 + side_number p.to_move) (occupied-stood p long);
    }

side-lt : (s : Side) → side_number s < 2
side-lt Black = omega arith
side-lt White = omega arith

side-of_number : (s : Side) → side_numbered (side_number s) ≡ s
side-of_number Black = refl
side-of_number White = refl

number-of_side : (s : ℕ) → s < 2 → side_number (side_numbered s) ≡ s
number-of_side zero h = refl
number-of_side (suc zero) h = refl
number-of_side (suc (suc s)) h = absurd (omega arith)

-- the index of a board lies in the block of its pieces
pub index-in_block : (p : Board) (long : length p.cells ≡ 32) → (first_index (held p.cells) ≤ index_of p) × (index_of p < first_index (suc (held p.cells)))
index-in_block p long =
    let h = has_index p long in
    let is = h.index in
    let whole = h.whole in
    let side = side-lt p.to_move in
    let small = mul-add-lt h.place (4 ^ held p.cells) (digits p.cells) (choose (held p.cells) 32) (omega arith) (digits-lt p.cells) in
    let step = block-step (held p.cells) in
    (omega arith, omega arith)

-- how far the places of a block go
pub index-fits : (n place kinds : ℕ) → n ≤ 3 → place < choose n 32 → kinds < 4 ^ n
    → (first_index n + (place * 4 ^ n + kinds) * 2 + 1 < first_index (n + 1)) × (first_index (n + 1) ≤ 651010)
index-fits n place kinds few below digit =
    let small = mul-add-lt place (4 ^ n) kinds (choose n 32) below digit in
    let step = block-step n in
    let next : first_index (n + 1) ≡ first_index (suc n) = ap first_index (omega arith) in
    let rise = blocks-rise (suc n) (3 - n) in
    let last : first_index (3 - n + suc n) ≡ 651010 = ap first_index (omega arith) ∙ block_sizes.count_of_three in
    (omega arith, omega arith)

pub index-below : (p : Board) (k : ℕ) → length p.cells ≡ 32 → piece_count p ≤ k → index_of p < entry_count k
index-below p k long few =
    let count = count-held p in
    let most = (index-in_block p long).1 in
    let more : ℕ = k - held p.cells in
    let rise = blocks-rise (suc (held p.cells)) more in
    let same : first_index (more + suc (held p.cells)) ≡ first_index (suc k) = ap first_index (omega arith) in
    omega arith

pub positions_have_indices : PositionsHaveIndices
positions_have_indices p k lawful few most = index-below p k lawful.squares few

-- ---- what stands at an index

-- what stands at a place of a block, by the parts of the place
in-block : (n place kinds s : ℕ) (choice : List ℕ) → slice_get (choices n squares) place ≡ Some choice → kinds < 4 ^ n → s < 2
    → position_in_block n ((place * 4 ^ n + kinds) * 2 + s) ≡ if_lawful (board_of choice kinds (side_numbered s))
in-block n place kinds s choice there small bit =
    let half = div-mul-add (place * 4 ^ n + kinds) 2 s bit in
    let side = mod-mul-add (place * 4 ^ n + kinds) 2 s bit in
    let first : ((place * 4 ^ n + kinds) * 2 + s) / 2 / 4 ^ n ≡ place = ap (λ h. h / 4 ^ n) half ∙ div-mul-add place (4 ^ n) kinds small in
    let rest : ((place * 4 ^ n + kinds) * 2 + s) / 2 % 4 ^ n ≡ kinds = ap (λ h. h % 4 ^ n) half ∙ mod-mul-add place (4 ^ n) kinds small in
    ap₂ (λ k t. option_and_then (λ c. if_lawful (board_of c k (side_numbered t))) (slice_get (choices n squares) (((place * 4 ^ n + kinds) * 2 + s) / 2 / 4 ^ n))) rest side
    ∙ ap (λ c. option_and_then (λ c. if_lawful (board_of c kinds (side_numbered s))) (slice_get (choices n squares) c)) first
    ∙ ap (option_and_then (λ c. if_lawful (board_of c kinds (side_numbered s)))) there

-- what stands at an index of a block
pub at-index : (n i : ℕ) → n ≤ 3 → first_index n ≤ i → i < first_index (suc n) → position_at i ≡ position_in_block n (i - first_index n)
unfolding position_at
at-index n i h least most = ap (λ m. position_in_block m (i - first_index m)) (block-is n i h least most)

pub if-lawful : (p : Board) → IsLawful p → if_lawful p ≡ Some p
if-lawful p h = ap (λ b. cond b (Some p) None) (is_lawful-true p h)

-- the board that is made of what a board holds is that board
pub board-again : (p : Board) → length p.cells ≡ 32 → board_of (stood 1 p.cells) (digits p.cells) (side_numbered (side_number p.to_move)) ≡ p
board-again p long =
    let cells : with_pieces_on (replicate 32 Empty) (stood 1 p.cells) (digits p.cells) ≡ p.cells =
    ap (λ m. with_pieces_on (replicate m Empty) (stood 1 p.cells) (digits p.cells)) (sym long) ∙ with-stood [] p.cells 1 refl in
    let side = side-of_number p.to_move in
    λ i. record { cells = cells i; to_move = side i }

pub positions_stand_at_their_indices : PositionsStandAtTheirIndices
positions_stand_at_their_indices p lawful few =
    let long = lawful.squares in
    let count = count-held p in
    let h = has_index p long in
    let is = h.index in
    let among = index-in_block p long in
    let n : ℕ = held p.cells in
    let place : index_of p - first_index n ≡ (h.place * 4 ^ n + digits p.cells) * 2 + side_number p.to_move = omega arith in
    at-index n (index_of p) (omega arith) among.0 among.1
    ∙ ap (position_in_block n) place
    ∙ in-block n h.place (digits p.cells) (side_number p.to_move) (stood 1 p.cells) h.there (digits-lt p.cells) (side-lt p.to_move)
    ∙ ap if_lawful (board-again p long) ∙ if-lawful p lawful

pub no_index_is_shared : NoIndexIsShared
no_index_is_shared p q lawful_p lawful_q few_p few_q same =
    let a = positions_stand_at_their_indices p lawful_p few_p in
    let b = positions_stand_at_their_indices q lawful_q few_q in
    let c = ap position_at same in
    let d : Some p ≡ Some q = sym a ∙ c ∙ b in
    cc

-- the cells with pieces on the squares of a choice are the cells of that choice
pub cells-of_choice : (n place kinds : ℕ) (choice : List ℕ) → slice_get (choices n squares) place ≡ Some choice → kinds < 4 ^ n
    → AreCellsOf n 32 1 place choice kinds (with_pieces_on (replicate 32 Empty) choice kinds)
cells-of_choice n place kinds choice there small =
    let those = made 32 n 1 place choice kinds (subst (λ all. slice_get (choices n all) place ≡ Some choice) squares-from there) small in
    let same : with_pieces_on (replicate 32 Empty) choice kinds ≡ those.0 =
    ap (λ m. with_pieces_on (replicate m Empty) choice kinds) (sym those.1.long)
    ∙ ap₂ (with_pieces_on (replicate (length those.0) Empty)) (sym those.1.squares) (sym those.1.numbers)
    ∙ with-stood [] those.0 1 refl in
    subst (AreCellsOf n 32 1 place choice kinds) (sym same) those.1

-- the index of the board with pieces on the squares of a choice
pub index-of_board : (n place kinds s : ℕ) (choice : List ℕ) → slice_get (choices n squares) place ≡ Some choice → kinds < 4 ^ n → s < 2
    → index_of (board_of choice kinds (side_numbered s)) ≡ first_index n + (place * 4 ^ n + kinds) * 2 + s
index-of_board n place kinds s choice there small bit =
    let board : Board = board_of choice kinds (side_numbered s) in
    let are = cells-of_choice n place kinds choice there small in
    let h = has_index board are.long in
    let whole = h.whole in
    let behind = are.behind in
    let many = ap (λ m. choose m 32) are.count in
    let same : h.place ≡ place = omega arith in
    h.index
    ∙ ap (λ m. first_index m + (h.place * 4 ^ m + digits board.cells) * 2 + side_number (side_numbered s)) are.count
    ∙ ap₂ (λ x y. first_index n + (x * 4 ^ n + y) * 2 + side_number (side_numbered s)) same are.numbers
    ∙ ap (λ t. first_index n + (place * 4 ^ n + kinds) * 2 + t) (number-of_side s bit)

-- an index below the end of its block has a choice of squares
pub place-below : (n j : ℕ) → j < choose n 32 * 4 ^ n * 2 → j / 2 / 4 ^ n < choose n 32
place-below n j h = div_below (j / 2) (4 ^ n) (choose n 32) (one-le-pow n 4 (omega arith)) (div_below j 2 (choose n 32 * 4 ^ n) (omega arith) h)

pub kinds-below : (n j : ℕ) → j / 2 % 4 ^ n < 4 ^ n
kinds-below n j = mod_below (j / 2) (4 ^ n) (one-le-pow n 4 (omega arith))

pub choice-at : (n place : ℕ) → place < choose n 32 → (choice : List ℕ) × (slice_get (choices n squares) place ≡ Some choice)
choice-at n place h =
    let long = length-choices n squares ∙ ap (λ all. choose n (length all)) squares-from in
    get-some (choices n squares) place (omega arith)

pub some-lawful : (b p : Board) → if_lawful b ≡ Some p → (b ≡ p) × (is_lawful b ≡ true)
some-lawful b p = cases (is_lawful b)
  where
    cases : (t : Bool) → cond t (Some b) None ≡ Some p → (b ≡ p) × (t ≡ true)
    cases true e = (cc, refl)
    cases false e = absurd (cc)

pub board-holds : (k i n : ℕ) (choice : List ℕ) → IsInBlock k i n → let j = i - first_index n in slice_get (choices n squares) (j / 2 / 4 ^ n) ≡ Some choice
    → let b = board_of choice (j / 2 % 4 ^ n) (side_numbered (j % 2)) in (piece_count b ≤ k) × (index_of b ≡ i)
board-holds k i n choice among there =
    let j : ℕ = i - first_index n in
    let small = kinds-below n j in
    let bit : j % 2 < 2 = omega arith in
    let are = cells-of_choice n (j / 2 / 4 ^ n) (j / 2 % 4 ^ n) choice there small in
    let board : Board = board_of choice (j / 2 % 4 ^ n) (side_numbered (j % 2)) in
    let count = count-held board in
    let held_there = are.count in
    let few = among.few in
    let least = among.least in
    let outer = div-add-mod' j 2 in
    let inner = div-add-mod' (j / 2) (4 ^ n) in
    (omega arith, index-of_board n (j / 2 / 4 ^ n) (j / 2 % 4 ^ n) (j % 2) choice there small bit ∙ omega arith)

pub indices_hold_positions : IndicesHoldPositions
indices_hold_positions k i p most below e =
    let found = find-block k i below in
    let n : ℕ = found.0 in
    let among = found.1 in
    let few = among.few in
    let least = among.least in
    let greatest = among.most in
    let j : ℕ = i - first_index n in
    let step = block-step n in
    let got = choice-at n (j / 2 / 4 ^ n) (place-below n j (omega arith)) in
    let there : position_at i ≡ if_lawful (board_of got.0 (j / 2 % 4 ^ n) (side_numbered (j % 2))) =
    at-index n i (omega arith) least greatest
    ∙ ap (option_and_then (λ choice. if_lawful (board_of choice (j / 2 % 4 ^ n) (side_numbered (j % 2))))) got.1 in
    let is = some-lawful (board_of got.0 (j / 2 % 4 ^ n) (side_numbered (j % 2))) p (sym there ∙ e) in
    let holds = board-holds k i n got.0 among got.1 in
    subst (IsPositionOf k i) is.0 (record { lawful = lawful-from_test _ is.1; few = holds.0; index = holds.1 })
