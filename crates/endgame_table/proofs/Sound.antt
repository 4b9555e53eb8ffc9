-- A list of numbers is a table exactly where the rule holds at every index.
use Rattle.std.proofs.Common.{◌≡◌, ℕ, ◌<◌, ◌≤◌, Bool, true, false, ◌&&◌, cond, leb, Option, Some, None, List, length, refl, sym, ◌∙◌, ap, subst, inl, inr, arith}
use Rattle.std.specs.Prelude.{IsSome, IsNone, IsSomeAnd, MatchOption, slice_index}
use Rattle.std.proofs.lemmas.Bool.{false≢true, and_parts, and_from, le-leb, cond-true}
use borrow.Author.Tests.{leb-true}
use Rattle.draughts_board.specs.Board.{Board, IsLawful, piece_count, is_lawful}
use Rattle.draughts_board.specs.Draughts.{draughts}
use Rattle.draughts_board.proofs.Successors.{is_lawful-true, lawful-from_test}
use Rattle.strategy_certificate.specs.Tables.{IsRight, IsTableSize}
use Rattle.table_index.specs.Order.{entry_count, index_of, position_at}
use Rattle.table_index.specs.Laws.{IsPositionOf}
use Rattle.endgame_table.specs.Numbers.{no_position, answer_of}
use Rattle.endgame_table.specs.Entries.{answers, FitsAt, IsTable}
use Rattle.endgame_table.specs.Laws.{TablesFitEverywhere, OneTable}
use Rattle.endgame_table.proofs.NumberLemmas.{same_number}
use Rattle.strategy_certificate.proofs.Tables.{sound_tables_agree}
use Rattle.std.proofs.lemmas.List.{ext_get_or}
use Rattle.table_index.proofs.OrderLemmas.{positions_have_indices, positions_stand_at_their_indices, indices_hold_positions}

pub size-most : (k : ℕ) → IsTableSize k → k ≤ 3
size-most k (inl two) = omega arith
size-most k (inr three) = omega arith

some_and : {A : Type 0} (P : A → Type 0) (o : Option A) → IsSomeAnd o P → (a : A) × ((o ≡ Some a) × P a)
some_and P None h = absurd h
some_and P (Some a) h = (a, (refl, h))

some_of : {A : Type 0} (o : Option A) → IsSome o → (a : A) × (o ≡ Some a)
some_of None h = absurd (false≢true h)
some_of (Some a) h = (a, refl)

-- the answer at a position with few pieces is that of its number
pub answers-at : (k : ℕ) (numbers : List ℕ) (p : Board) → IsLawful p → piece_count p ≤ k → answers k numbers p ≡ answer_of (slice_index numbers (index_of p))
unfolding answers
answers-at k numbers p lawful few =
    cond-true (is_lawful p && leb (piece_count p) k) _ _ (and_from (is_lawful p) (leb (piece_count p) k) (is_lawful-true p lawful) (le-leb (piece_count p) k few))

-- no other board has an answer
pub answered-few : (k : ℕ) (numbers : List ℕ) (p : Board) → IsSome (answers k numbers p) → (is_lawful p ≡ true) × (piece_count p ≤ k)
unfolding answers
answered-few k numbers p some = by (is_lawful p && leb (piece_count p) k) refl some
  where
    by : (b : Bool) → (is_lawful p && leb (piece_count p) k) ≡ b → IsSome (cond b (answer_of (slice_index numbers (index_of p))) None) → (is_lawful p ≡ true) × (piece_count p ≤ k)
    by true is some = (let both = and_parts (is_lawful p) (leb (piece_count p) k) is in (both.0, leb-true (piece_count p) k both.1))
    by false is some = absurd (false≢true some)

module _ (k : ℕ) (numbers : List ℕ) (size : IsTableSize k) where
  fits-position : (p : Board) → IsLawful p → piece_count p ≤ k → ((i : ℕ) → i < entry_count k → FitsAt k numbers i)
      → IsSomeAnd (answer_of (slice_index numbers (index_of p))) (IsRight draughts (answers k numbers) p)
  fits-position p lawful few fits =
      let most = size-most k size in
      subst (λ o. MatchOption o (slice_index numbers (index_of p) ≡ no_position) (λ p'. IsSomeAnd (answer_of (slice_index numbers (index_of p))) (IsRight draughts (answers k numbers) p')))
      (positions_stand_at_their_indices p lawful (omega arith)) (fits (index_of p) (positions_have_indices p k lawful few most))

  pub table-from_fits : length numbers ≡ entry_count k → ((i : ℕ) → i < entry_count k → FitsAt k numbers i) → IsTable k numbers
  table-from_fits long fits =
      record {
        size = size;
        entries = long;
        no_position = λ i below none. subst (λ o. MatchOption o (slice_index numbers i ≡ no_position) (λ p. IsSomeAnd (answer_of (slice_index numbers i)) (IsRight draughts (answers k numbers) p))) none (fits i below);
        sound = record {
          answered = λ p. (
            answered-few k numbers p,
            λ h.
                let lawful = lawful-from_test p h.0 in
                let found = some_and (IsRight draughts (answers k numbers) p) (answer_of (slice_index numbers (index_of p))) (fits-position p lawful h.1 fits) in
                subst IsSome (sym (answers-at k numbers p lawful h.1 ∙ found.1.0)) refl,
          );
          right = λ p a is.
              let covered = answered-few k numbers p (subst IsSome (sym is) refl) in
              let lawful = lawful-from_test p covered.0 in
              let found = some_and (IsRight draughts (answers k numbers) p) (answer_of (slice_index numbers (index_of p))) (fits-position p lawful covered.1 fits) in
              let same : found.0 ≡ a = (let e : Some found.0 ≡ Some a = sym found.1.0 ∙ (sym (answers-at k numbers p lawful covered.1) ∙ is) in cc) in
              subst (IsRight draughts (answers k numbers) p) same found.1.1;
        };
      }

  pub fits-from_table : IsTable k numbers → (i : ℕ) → i < entry_count k → FitsAt k numbers i
  fits-from_table table i below = by (position_at i) refl
    where
      by : (o : Option Board) → position_at i ≡ o
          → MatchOption o (slice_index numbers i ≡ no_position) (λ p. IsSomeAnd (answer_of (slice_index numbers i)) (IsRight draughts (answers k numbers) p))
      by None is = table.no_position i below is
      by (Some p) is =
          let most = size-most k size in
          let there : IsPositionOf k i p = indices_hold_positions k i p most below is in
          let found = some_of (answers k numbers p) ((table.sound.answered p).1 (is_lawful-true p there.lawful, there.few)) in
          let e : answer_of (slice_index numbers i) ≡ Some found.0 =
          ap (λ j. answer_of (slice_index numbers j)) (sym there.index) ∙ (sym (answers-at k numbers p there.lawful there.few) ∙ found.1) in
          subst (λ o. IsSomeAnd o (IsRight draughts (answers k numbers) p)) (sym e) (table.sound.right p found.0 found.1)

pub tables_fit_everywhere : TablesFitEverywhere
tables_fit_everywhere k numbers size long = (fits-from_table k numbers size, table-from_fits k numbers size long)

-- ---- looking up

pub index-inside : (k : ℕ) (numbers : List ℕ) → IsTable k numbers → (p : Board) → IsLawful p → piece_count p ≤ k → index_of p < length numbers
index-inside k numbers table p lawful few =
    let inside = positions_have_indices p k lawful few (size-most k table.size) in
    let count = table.entries in
    omega arith

-- a table answers each position with at most k pieces
pub answers-few : (k : ℕ) (numbers : List ℕ) → IsTable k numbers → (p : Board) → IsLawful p → piece_count p ≤ k → IsSome (answers k numbers p)
answers-few k numbers table p lawful few = (table.sound.answered p).1 (is_lawful-true p lawful, few)

pub not_both : {A : Type 0} (o : Option A) → IsSome o → IsNone o → ⊥
not_both None some none = false≢true some
not_both (Some a) some none = cc

-- ---- there is one table

module _ (k : ℕ) (a b : List ℕ) (table_a : IsTable k a) (table_b : IsTable k b) where
  same-at : (i : ℕ) → i < entry_count k → (o : Option Board) → position_at i ≡ o → slice_index a i ≡ slice_index b i
  same-at i below None is = table_a.no_position i below is ∙ sym (table_b.no_position i below is)
  same-at i below (Some p) is =
      let there : IsPositionOf k i p = indices_hold_positions k i p (size-most k table_a.size) below is in
      let agree = sound_tables_agree draughts k (answers k a) (answers k b) table_a.sound table_b.sound p in
      let same = sym (answers-at k a p there.lawful there.few) ∙ (agree ∙ answers-at k b p there.lawful there.few) in
      ap (slice_index a) (sym there.index) ∙ (same_number (slice_index a (index_of p)) (slice_index b (index_of p)) same ∙ ap (slice_index b) there.index)

  pub same_tables : a ≡ b
  same_tables =
      let long_a = table_a.entries in
      let long_b = table_b.entries in
      ext_get_or 0 a b (long_a ∙ sym long_b) (λ i below. same-at i (omega arith) (position_at i) refl)

pub one_table : OneTable
one_table k a b table_a table_b = same_tables k a b table_a table_b
