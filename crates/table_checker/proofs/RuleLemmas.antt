-- The rule at an index, as the answers that are kept for the next positions tell it.
use Rattle.std.proofs.Common.{◌≡◌, inl, inr, ◌↔◌, ℕ, ◌≤◌, ◌<◌, true, List, length, get_or, map, refl, sym, ◌∙◌, subst, arith, Option, Some}
use Rattle.std.specs.Prelude.{Contains, All, slice_index, MatchOption, IsSomeAnd, nat_le}
use Rattle.std.proofs.lemmas.Bool.{cond-true, and_from, le-leb}
use Rattle.std.proofs.lemmas.List.Elements.{All-contains_itself}
use Rattle.draughts_board.specs.Board.{Board, IsLawful, is_lawful, piece_count}
use Rattle.draughts_board.specs.Play.{successors_of}
use Rattle.draughts_board.specs.Game.{Game}
use Rattle.draughts_board.specs.Draughts.{draughts}
use Rattle.draughts_board.proofs.Members.{Contains-map, Contains-from_map}
use Rattle.draughts_board.proofs.Successors.{is_lawful-true, lawful-from_test, draughts_takes_turns}
use Rattle.table_index.specs.Order.{entry_count, index_of, position_at}
use Rattle.strategy_certificate.specs.declared.oracle.Answer.{Answer}
use Rattle.strategy_certificate.specs.declared.oracle.Answer.TheVariants.{Win, Loss, Draw}
use Rattle.strategy_certificate.specs.Tables.{IsRight, IsTableSize}
use Rattle.endgame_table.specs.Numbers.{answer_of, no_position}
use Rattle.endgame_table.specs.Entries.{answers, FitsAt}
use Rattle.table_checker.specs.Fitting.{FitsNext}
use Rattle.table_checker.specs.Kept.{IsKept, kept_answer}
use Rattle.table_index.proofs.OrderLemmas.{block_sizes, positions_have_indices}

-- ---- tables of 2 and of 3 pieces

pub size-at_most : (k : ℕ) → IsTableSize k → k ≤ 3
size-at_most k (inl two) = omega arith
size-at_most k (inr three) = omega arith

pub index-below_all : (k i : ℕ) → IsTableSize k → i < entry_count k → i < entry_count 3
index-below_all k i (inl two) below =
    let here : i < entry_count 2 = subst (λ n. i < entry_count n) two below in
    let few = block_sizes.count_of_two in
    let many = block_sizes.count_of_three in
    omega arith
index-below_all k i (inr three) below = subst (λ n. i < entry_count n) three below

-- ---- the rule on the list of next answers, in any game

module _ {P : Type 0} (game : Game P) (answer kept : P → Option Answer) (p : P) (same : (q : P) → Contains (game.next p) q → answer q ≡ kept q) where
  listed : (q : P) (o : Option Answer) → Contains (game.next p) q → answer q ≡ o → Contains (map kept (game.next p)) o
  listed q o next is = subst (Contains (map kept (game.next p))) (sym (same q next) ∙ is) (Contains-map kept (game.next p) q next)

  unlisted : (o : Option Answer) → Contains (map kept (game.next p)) o → (q : P) × (Contains (game.next p) q × (answer q ≡ o))
  unlisted o has = let found = Contains-from_map kept (game.next p) o has in (found.0, (found.1.0, same found.0 found.1.0 ∙ found.1.1))

  pub fits-from_right : (a : Answer) → IsRight game answer p a → FitsNext (map kept (game.next p)) a
  fits-from_right (Win r) right =
      let some = right.1.1.0 in (
        right.0,
        (
          right.1.0,
          (
            listed some.0 (Some (Loss right.0)) some.1.0 some.1.1,
            (λ m has. let q = unlisted (Some (Loss m)) has in right.1.1.1 q.0 q.1.0 m q.1.1),
          ),
        ),
      )
  fits-from_right (Loss r) right = (
    (λ a has. let q = unlisted a has in let won = right.0 q.0 q.1.0 in (won.0, (sym q.1.1 ∙ won.1.0, won.1.1))),
    elim right.1 [ inl none ↦ inl none | inr some ↦ inr (some.1.1.0, (listed some.0 (Some (Win some.1.1.0)) some.1.0 some.1.1.1.0, some.1.1.1.1)) ],
  )
  fits-from_right Draw right =
      let some = right.0 in (
        listed some.0 (Some Draw) some.1.0 some.1.1,
        (λ m has. let q = unlisted (Some (Loss m)) has in right.1 q.0 q.1.0 m q.1.1),
      )

  pub right-from_fits : (a : Answer) → FitsNext (map kept (game.next p)) a → IsRight game answer p a
  right-from_fits (Win r) fits = (
    fits.0,
    (
      fits.1.0,
      (
        unlisted (Some (Loss fits.0)) fits.1.1.0,
        (λ q next m is. fits.1.1.1 m (listed q (Some (Loss m)) next is)),
      ),
    ),
  )
  right-from_fits (Loss r) fits = (
    (λ q next. fits.0 (answer q) (listed q (answer q) next refl)),
    elim fits.1 [ inl none ↦ inl none | inr some ↦ inr (let q = unlisted (Some (Win some.0)) some.1.0 in (q.0, (q.1.0, (some.0, (q.1.1, some.1.1))))) ],
  )
  right-from_fits Draw fits = (
    unlisted (Some Draw) fits.0,
    (λ q next m is. fits.1 m (listed q (Some (Loss m)) next is)),
  )

-- ---- at draughts

pub answers-kept : (k : ℕ) (numbers : List ℕ) (q : Board) → is_lawful q ≡ true → piece_count q ≤ k → answers k numbers q ≡ kept_answer numbers q
unfolding answers
answers-kept k numbers q lawful few = cond-true _ _ _ (and_from (is_lawful q) (nat_le (piece_count q) k) lawful (le-leb (piece_count q) k few))

module _ (k : ℕ) (numbers : List ℕ) (p : Board) (lawful : IsLawful p) (few : piece_count p ≤ k) where
  next-lawful : (q : Board) → Contains (successors_of p) q → is_lawful q ≡ true
  next-lawful q next = draughts_takes_turns.stays_position p q (is_lawful-true p lawful) next

  next-few : (q : Board) → Contains (successors_of p) q → piece_count q ≤ k
  next-few q next = let fall : piece_count q ≤ piece_count p = draughts_takes_turns.pieces_fall p q (is_lawful-true p lawful) next in omega arith

  -- each successor has an index in the table
  pub successors-kept : k ≤ 3 → length numbers ≡ entry_count k → All (IsKept numbers) (successors_of p)
  successors-kept most entries j d below =
      let q : Board = get_or (successors_of p) j d in
      let next : Contains (successors_of p) q = All-contains_itself (successors_of p) j d below in
      let fewer : piece_count q ≤ k = next-few q next in
      record {
        few = omega arith;
        index = subst (λ n. index_of q < n) (sym entries) (positions_have_indices q k (lawful-from_test q (next-lawful q next)) fewer most);
      }

  -- the answer is right exactly where it fits those that are kept for the successors
  pub right-fits : (a : Answer) → FitsNext (map (kept_answer numbers) (successors_of p)) a ↔ IsRight draughts (answers k numbers) p a
  right-fits a =
      let same : (q : Board) → Contains (successors_of p) q → answers k numbers q ≡ kept_answer numbers q =
      λ q next. answers-kept k numbers q (next-lawful q next) (next-few q next) in (
        right-from_fits draughts (answers k numbers) (kept_answer numbers) p same a,
        fits-from_right draughts (answers k numbers) (kept_answer numbers) p same a,
      )

  -- the rule at the position's index, for an index with an answer
  pub fits-at_position : (i : ℕ) (a : Answer) → position_at i ≡ Some p → answer_of (slice_index numbers i) ≡ Some a
      → FitsNext (map (kept_answer numbers) (successors_of p)) a ↔ FitsAt k numbers i
  fits-at_position i a there number =
      subst (λ o. FitsNext (map (kept_answer numbers) (successors_of p)) a ↔ MatchOption o (slice_index numbers i ≡ no_position) (λ p. IsSomeAnd (answer_of (slice_index numbers i)) (IsRight draughts (answers k numbers) p)))
      (sym there)
      (subst (λ o. FitsNext (map (kept_answer numbers) (successors_of p)) a ↔ IsSomeAnd o (IsRight draughts (answers k numbers) p)) (sym number) (right-fits a))
