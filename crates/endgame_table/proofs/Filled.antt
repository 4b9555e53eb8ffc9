-- From the listed moves to a start of the rounds, and from filled numbers to a table.
use Rattle.std.proofs.Common.{◌≡◌, ◌⊎◌, ℕ, suc, ◌+◌, ◌*◌, ◌^◌, ◌<◌, ◌≤◌, Option, Some, None, List, [], length, map, refl, sym, ◌∙◌, ap, subst, inl, inr, arith}
use Rattle.std.specs.Prelude.{All, Contains, IsSomeAnd, MatchOption, slice_index, slice_index_or}
use Rattle.std.proofs.lemmas.List.Elements.{All-nil, All-map, All-weaker, All-contains_itself}
use Rattle.draughts_board.specs.Board.{Board, IsLawful, piece_count}
use Rattle.draughts_board.specs.Play.{successors_of}
use Rattle.draughts_board.specs.Draughts.{draughts}
use Rattle.draughts_board.proofs.Successors.{is_lawful-true, lawful-from_test, draughts_takes_turns}
use Rattle.draughts_board.proofs.Members.{Contains-nil, Contains-map, Contains-from_map}
use Rattle.strategy_certificate.specs.declared.oracle.Answer.{Answer}
use Rattle.strategy_certificate.specs.declared.oracle.Answer.TheVariants.{Win, Loss, Draw}
use Rattle.strategy_certificate.specs.Tables.{IsRight, IsTableSize}
use Rattle.table_index.specs.Order.{entry_count, index_of, position_at}
use Rattle.table_index.specs.Laws.{IsPositionOf}
use Rattle.endgame_table.specs.Numbers.{no_position, answer_of}
use Rattle.endgame_table.specs.Entries.{answers, IsTable}
use Rattle.endgame_table.specs.Rows.{indices_after, first_number, ListsMoves}
use Rattle.endgame_table.specs.Rounds.{SomeTarget, EachTarget, win, loss, IsStart, FitsTargets, is_win, is_loss, is_draw, IsFilled}
use Rattle.table_index.proofs.OrderLemmas.{block_sizes, positions_have_indices, positions_stand_at_their_indices, indices_hold_positions}
use Rattle.endgame_table.proofs.NumberLemmas.{answer_of-draw, answer_of-loss, answer_of-win, number_of-loss}
use Rattle.endgame_table.proofs.Sound.{size-most, answers-at, table-from_fits}

-- ---- how many

pub count-most : (k : ℕ) → IsTableSize k → entry_count k ≤ entry_count 3
count-most k (inl two) = let small = block_sizes.count_of_two in let large = block_sizes.count_of_three in let e = ap entry_count two in omega arith
count-most k (inr three) = let e = ap entry_count three in omega arith

pub count-small : (k : ℕ) → IsTableSize k → 4 * entry_count k + 4 < no_position
count-small k size = let large = block_sizes.count_of_three in let most = count-most k size in omega arith

pub count-below : (k : ℕ) → IsTableSize k → 4 * entry_count k + 4 < 2 ^ 24
count-below k size = let large = block_sizes.count_of_three in let most = count-most k size in omega arith

-- ---- the positions that the moves lead to

pub lawful-after : (p q : Board) → IsLawful p → Contains (successors_of p) q → IsLawful q
lawful-after p q lawful next = lawful-from_test q (draughts_takes_turns.stays_position p q (is_lawful-true p lawful) next)

pub fewer-after : (p q : Board) → IsLawful p → Contains (successors_of p) q → piece_count q ≤ piece_count p
fewer-after p q lawful next = draughts_takes_turns.pieces_fall p q (is_lawful-true p lawful) next

pub few-after : (p : Board) → IsLawful p → piece_count p ≤ 3 → All (λ q. piece_count q ≤ 3) (successors_of p)
few-after p lawful few =
    All-weaker (Contains (successors_of p)) (λ q. piece_count q ≤ 3)
    (λ q next. let fewer = fewer-after p q lawful next in omega arith) (successors_of p) (All-contains_itself (successors_of p))

-- in a table of k pieces they stand at its indices
pub indices-few : (k : ℕ) → k ≤ 3 → (p : Board) → IsLawful p → piece_count p ≤ k → All (λ q. index_of q < entry_count k) (successors_of p)
indices-few k most p lawful few =
    All-weaker (Contains (successors_of p)) (λ q. index_of q < entry_count k)
    (λ q next. let fewer = fewer-after p q lawful next in positions_have_indices q k (lawful-after p q lawful next) (omega arith) most)
    (successors_of p) (All-contains_itself (successors_of p))

-- ---- the start of the rounds

module _ (k : ℕ) (rows : List (List ℕ)) (numbers : List ℕ) (size : IsTableSize k) (listed : ListsMoves (entry_count k) rows numbers) where
  indices-below : (i : ℕ) → i < entry_count k → (o : Option Board) → position_at i ≡ o → All (λ t. t < length rows) (indices_after o)
  indices-below i below None is = All-nil (λ t. t < length rows)
  indices-below i below (Some p) is =
      let most = size-most k size in
      let there : IsPositionOf k i p = indices_hold_positions k i p most below is in
      let few = there.few in
      let count = listed.rows_count in
      All-map (λ t. t < length rows) index_of (successors_of p)
      (All-weaker (Contains (successors_of p)) (λ q. index_of q < length rows)
      (λ q next.
      let fewer = fewer-after p q there.lawful next in
      let inside = positions_have_indices q k (lawful-after p q there.lawful next) (omega arith) most in
      omega arith)
      (successors_of p) (All-contains_itself (successors_of p)))

  begins-by : (i : ℕ) (o : Option Board) → slice_index numbers i ≡ first_number o → (slice_index numbers i ≡ 0) ⊎ (slice_index numbers i ≡ no_position)
  begins-by i None is = inr is
  begins-by i (Some p) is = inl is

  leads-by : (i : ℕ) → i < entry_count k → (o : Option Board) → position_at i ≡ o → EachTarget numbers (indices_after o) (λ n. n ≡ 0)
  leads-by i below None is t here = absurd (Contains-nil t here)
  leads-by i below (Some p) is t here =
      let most = size-most k size in
      let there : IsPositionOf k i p = indices_hold_positions k i p most below is in
      let few = there.few in
      let found = Contains-from_map index_of (successors_of p) t here in
      let q = found.0 in
      let lawful = lawful-after p q there.lawful found.1.0 in
      let fewer = fewer-after p q there.lawful found.1.0 in
      let inside : index_of q < entry_count k = positions_have_indices q k lawful (omega arith) most in
      ap (slice_index numbers) (sym found.1.1)
      ∙ (listed.numbers_at (index_of q) inside ∙ ap first_number (positions_stand_at_their_indices q lawful (omega arith)))

  below-count : (i : ℕ) → i < length rows → i < entry_count k
  below-count i below = let count = listed.rows_count in omega arith

  pub start-from_listed : IsStart rows numbers
  start-from_listed =
      record {
        are_rows = record {
          each = listed.numbers_count ∙ sym listed.rows_count;
          targets = λ i below. subst (All (λ t. t < length rows)) (sym (listed.rows_at i (below-count i below))) (indices-below i (below-count i below) (position_at i) refl);
        };
        begins = λ i below. begins-by i (position_at i) (listed.numbers_at i (below-count i below));
        leads = λ i below. subst (λ row. EachTarget numbers row (λ n. n ≡ 0)) (sym (listed.rows_at i (below-count i below))) (leads-by i (below-count i below) (position_at i) refl);
      }

-- ---- a number that fits those of its targets has an answer that fits those at the next positions

module _ (k : ℕ) (numbers : List ℕ) (p : Board) (lawful : IsLawful p) (few : piece_count p ≤ k) where
  answer-after : (q : Board) → Contains (successors_of p) q → answers k numbers q ≡ answer_of (slice_index numbers (index_of q))
  answer-after q next =
      let fewer = fewer-after p q lawful next in
      answers-at k numbers q (lawful-after p q lawful next) (omega arith)

  index-after : (q : Board) → Contains (successors_of p) q → Contains (map index_of (successors_of p)) (index_of q)
  index-after q next = Contains-map index_of (successors_of p) q next

  -- where some target's number is that of an answer, some move leads to that answer
  next_with : (P : ℕ → Type 0) (a : Answer) → ((n : ℕ) → P n → answer_of n ≡ Some a) → SomeTarget numbers (map index_of (successors_of p)) P
      → (q : Board) × (Contains (successors_of p) q × (answers k numbers q ≡ Some a))
  next_with P a means some =
      let found = Contains-from_map index_of (successors_of p) some.0 some.1.0 in
      (found.0, (found.1.0, answer-after found.0 found.1.0 ∙ means (slice_index numbers (index_of found.0)) (subst (λ t. P (slice_index numbers t)) (sym found.1.1) some.1.1)))

  loss-after : (q : Board) (m : ℕ) → Contains (successors_of p) q → answers k numbers q ≡ Some (Loss m) → slice_index numbers (index_of q) ≡ loss m
  loss-after q m next is = number_of-loss (slice_index numbers (index_of q)) m (sym (answer-after q next) ∙ is)

  won-after : (r : ℕ) → win r < no_position → EachTarget numbers (map index_of (successors_of p)) (λ n. (m : ℕ) × ((n ≡ win m) × (m < r)))
      → (q : Board) → Contains (successors_of p) q → (m : ℕ) × ((answers k numbers q ≡ Some (Win m)) × (m < r))
  won-after r small all q next =
      let w = all (index_of q) (index-after q next) in
      let m = w.0 in
      let below : m < r = w.1.1 in
      (m, (answer-after q next ∙ answer_of-win (slice_index numbers (index_of q)) m w.1.0 (omega arith), below))

  right-from_fits : (number : ℕ) → FitsTargets numbers (map index_of (successors_of p)) number → IsSomeAnd (answer_of number) (IsRight draughts (answers k numbers) p)
  right-from_fits number (is_win l small is some each) =
      let right : IsRight draughts (answers k numbers) p (Win (suc l)) = (
        l,
        (
          refl,
          (
            next_with (λ n. n ≡ loss l) (Loss l) (λ n e. answer_of-loss n l e (omega arith)) some,
            λ q next m e. each (index_of q) (index-after q next) m (loss-after q m next e),
          ),
        ),
      ) in
      subst (λ o. IsSomeAnd o (IsRight draughts (answers k numbers) p)) (sym (answer_of-win number (suc l) is small)) right
  right-from_fits number (is_loss r small is all (inl none)) =
      let right : IsRight draughts (answers k numbers) p (Loss r) = (won-after r small all, inl none) in
      subst (λ o. IsSomeAnd o (IsRight draughts (answers k numbers) p)) (sym (answer_of-loss number r is small)) right
  right-from_fits number (is_loss r small is all (inr some)) =
      let m = some.1.1.0 in
      let e : r ≡ suc m = some.1.1.1.1 in
      let found = next_with (λ n. n ≡ win m) (Win m) (λ n w. answer_of-win n m w (omega arith)) (some.0, (some.1.0, some.1.1.1.0)) in
      let right : IsRight draughts (answers k numbers) p (Loss r) = (won-after r small all, inr (found.0, (found.1.0, (m, (found.1.1, e))))) in
      subst (λ o. IsSomeAnd o (IsRight draughts (answers k numbers) p)) (sym (answer_of-loss number r is small)) right
  right-from_fits number (is_draw is some none) =
      let right : IsRight draughts (answers k numbers) p Draw = (
        next_with (λ n. n ≡ 0) Draw (λ n e. ap answer_of e ∙ answer_of-draw) some,
        λ q next m e. none (index_of q) (index-after q next) m (loss-after q m next e),
      ) in
      subst (λ o. IsSomeAnd o (IsRight draughts (answers k numbers) p)) (sym (ap answer_of is ∙ answer_of-draw)) right

-- ---- a table

module _ (k : ℕ) (rows : List (List ℕ)) (first numbers : List ℕ) (size : IsTableSize k) (listed : ListsMoves (entry_count k) rows first)
    (filled : IsFilled rows first numbers) where
  fits-by : (i : ℕ) → i < entry_count k → (o : Option Board) → position_at i ≡ o
      → MatchOption o (slice_index numbers i ≡ no_position) (λ p. IsSomeAnd (answer_of (slice_index numbers i)) (IsRight draughts (answers k numbers) p))
  fits-by i below None is =
      let count = listed.rows_count in
      let begin : slice_index first i ≡ no_position = listed.numbers_at i below ∙ ap first_number is in
      elim (filled i (omega arith)) [ inl outside ↦ outside.1 | inr inside ↦ absurd (let e = inside.0 in omega arith) ]
  fits-by i below (Some p) is =
      let count = listed.rows_count in
      let begin : slice_index first i ≡ 0 = listed.numbers_at i below ∙ ap first_number is in
      let there : IsPositionOf k i p = indices_hold_positions k i p (size-most k size) below is in
      let row : slice_index_or rows i [] ≡ map index_of (successors_of p) = listed.rows_at i below ∙ ap indices_after is in
      elim (filled i (omega arith)) [
        | inl outside ↦ absurd (let e = outside.0 in omega arith)
        | inr inside ↦ right-from_fits k numbers p there.lawful there.few (slice_index numbers i) (subst (λ targets. FitsTargets numbers targets (slice_index numbers i)) row inside.1)
      ]

  pub table-from_filled : length numbers ≡ length first → IsTable k numbers
  table-from_filled same = table-from_fits k numbers size (same ∙ listed.numbers_count) (λ i below. fits-by i below (position_at i) refl)
