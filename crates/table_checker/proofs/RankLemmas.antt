-- The numbers of a table are small: each rank below that of an answer is that of another, and there are no more ranks
-- than indices.
use Rattle.std.proofs.Common.{◌≡◌, ◌≢◌, ◌⊎◌, inl, inr, ℕ, zero, suc, ◌+◌, ◌-◌, ◌*◌, ◌/◌, ◌%◌, ◌==◌, ◌^◌, ◌<◌, ◌≤◌, List, [], ◌∷◌, length, map, refl, sym, ◌∙◌, ap, subst, arith, Option, Some, None}
use Rattle.std.specs.Prelude.{Contains, All, slice_index, IsSome}
use Rattle.std.proofs.lemmas.Bool.{cond-true, cond-false, cases_Bool, cases_eq, eqb-true, eqb-false}
use Rattle.std.proofs.lemmas.List.{get_or_default, length-map}
use Rattle.draughts_board.specs.Board.{Board}
use Rattle.draughts_board.proofs.Members.{Contains-nil, Contains-cons_cases, Contains-head, Contains-tail, Contains-map}
use Rattle.draughts_board.proofs.Successors.{is_lawful-true, lawful-from_test}
use Rattle.table_index.specs.Order.{entry_count, index_of, position_at}
use Rattle.strategy_certificate.specs.declared.oracle.Answer.{Answer}
use Rattle.strategy_certificate.specs.declared.oracle.Answer.TheVariants.{Win, Loss, Draw}
use Rattle.endgame_table.specs.Numbers.{answer_of, no_position}
use Rattle.endgame_table.specs.Entries.{answers, IsTable}
use Rattle.table_checker.proofs.RuleLemmas.{size-at_most, answers-kept}
use Rattle.table_index.proofs.OrderLemmas.{block_sizes, positions_have_indices, indices_hold_positions}

-- ---- a list with each number below n has n elements

without_one : (xs : List ℕ) (x : ℕ) → Contains xs x
    → (ys : List ℕ) × ((length xs ≡ suc (length ys)) × ((y : ℕ) → y ≢ x → Contains xs y → Contains ys y))
without_one [] x has = absurd (Contains-nil x has)
without_one (z ∷ xs) x has =
    elim (Contains-cons_cases z xs x has) [
      | inl here ↦ (xs, (refl, λ y other among. elim (Contains-cons_cases z xs y among) [ inl e ↦ absurd (other (sym e ∙ here)) | inr t ↦ t ]))
      | inr behind ↦
          let rest = without_one xs x behind in (
            z ∷ rest.0,
            (
              ap suc rest.1.0,
              λ y other among. elim (Contains-cons_cases z xs y among) [
                | inl e ↦ subst (Contains (z ∷ rest.0)) e (Contains-head z rest.0)
                | inr t ↦ Contains-tail z y rest.0 (rest.1.1 y other t)
              ],
            ),
          )
    ]

no_more : (n : ℕ) (xs : List ℕ) → ((m : ℕ) → m < n → Contains xs m) → n ≤ length xs
no_more zero xs each = omega arith
no_more (suc n) xs each =
    let rest = without_one xs n (each n (omega arith)) in
    let fewer : n ≤ length rest.0 = no_more n rest.0 (λ m below. rest.1.1 m (λ same. absurd (omega arith)) (each m (omega arith))) in
    let one : length xs ≡ suc (length rest.0) = rest.1.0 in
    omega arith

-- ---- what a number stands for

data Stands (n : ℕ) : Type 0 where
  for_none : n ≡ no_position → answer_of n ≡ None → Stands n
  for_draw : n ≡ 0 → answer_of n ≡ Some Draw → Stands n
  for_loss : (r : ℕ) → n ≡ 2 * r + 1 → answer_of n ≡ Some (Loss r) → Stands n
  for_win : (r : ℕ) → n ≡ 2 * r + 2 → answer_of n ≡ Some (Win r) → Stands n

stands : (n : ℕ) → Stands n
unfolding answer_of
stands n =
    elim (cases_Bool (n == no_position)) [
      | inl a ↦ for_none (eqb-true n no_position a) (cond-true _ _ _ a)
      | inr a ↦ elim (cases_Bool (n == 0)) [
        | inl b ↦ for_draw (eqb-true n 0 b) (cond-false _ _ _ a ∙ cond-true _ _ _ b)
        | inr b ↦ elim (cases_Bool (n % 2 == 1)) [
          | inl d ↦
              let odd : n % 2 ≡ 1 = eqb-true (n % 2) 1 d in
              for_loss ((n - 1) / 2) (omega arith) (cond-false _ _ _ a ∙ cond-false _ _ _ b ∙ cond-true _ _ _ d)
          | inr d ↦
              let even : n % 2 ≡ 1 → ⊥ = eqb-false (n % 2) 1 d in
              let some : n ≡ 0 → ⊥ = eqb-false n 0 b in
              for_win ((n - 2) / 2) (omega (arith, even, some)) (cond-false _ _ _ a ∙ cond-false _ _ _ b ∙ cond-false _ _ _ d)
        ]
      ]
    ]

-- the rank of the answer that a number stands for, where it has one
abbrev rank : ℕ → ℕ
rank n = (n - 1) / 2

rank-win : (n r : ℕ) → Stands n → answer_of n ≡ Some (Win r) → rank n ≡ r
rank-win n r (for_none is none) won = absurd cc
rank-win n r (for_draw is drawn) won = absurd cc
rank-win n r (for_loss m is lost) won = absurd cc
rank-win n r (for_win m is won') won = let same : m ≡ r = cc in omega arith

rank-loss : (n r : ℕ) → Stands n → answer_of n ≡ Some (Loss r) → rank n ≡ r
rank-loss n r (for_none is none) lost = absurd cc
rank-loss n r (for_draw is drawn) lost = absurd cc
rank-loss n r (for_win m is won) lost = absurd cc
rank-loss n r (for_loss m is lost') lost = let same : m ≡ r = cc in omega arith

-- ---- each lower rank is kept

module _ (k : ℕ) (numbers : List ℕ) (table : IsTable k numbers) where
  -- some position has an answer of this rank
  IsRank : ℕ → Type 0
  IsRank r = (p : Board) × ((answers k numbers p ≡ Some (Win r)) ⊎ (answers k numbers p ≡ Some (Loss r)))

  rank-before : (r : ℕ) → IsRank (suc r) → IsRank r
  unfolding IsRank
  rank-before r (p, inl won) =
      let right = table.sound.right p (Win (suc r)) won in
      let q = right.1.1.0 in
      let same : right.0 ≡ r = omega (arith, right.1.0) in
      (q.0, inr (q.1.1 ∙ ap (λ (m : ℕ). Some (Loss m)) same))
  rank-before r (p, inr lost) =
      elim (table.sound.right p (Loss (suc r)) lost).1 [
        | inl none ↦ absurd (omega arith)
        | inr q ↦
            let same : q.1.1.0 ≡ r = omega (arith, q.1.1.1.1) in
            (q.0, inl (q.1.1.1.0 ∙ ap (λ (m : ℕ). Some (Win m)) same))
      ]

  rank-below : (r m : ℕ) → m ≤ r → IsRank r → IsRank m
  rank-below zero m le h = subst IsRank (let e : zero ≡ m = omega arith in e) h
  rank-below (suc r) m le h =
      elim (cases_eq (suc r) m) [ inl e ↦ subst IsRank e h | inr other ↦ rank-below r m (omega (arith, other)) (rank-before r h) ]

  -- an answered position has its number in the list
  kept-number : (p : Board) (a : Answer) → answers k numbers p ≡ Some a
      → (n : ℕ) × (Contains numbers n × (answer_of n ≡ Some a))
  kept-number p a is =
      let covered = (table.sound.answered p).0 (subst IsSome (sym is) refl) in
      let below : index_of p < length numbers =
      subst (λ n. index_of p < n) (sym table.entries) (positions_have_indices p k (lawful-from_test p covered.0) covered.1 (size-at_most k table.size)) in (
        slice_index numbers (index_of p),
        (
          (index_of p, below, get_or_default numbers (index_of p) _ 0 below),
          sym (answers-kept k numbers p covered.0 covered.1) ∙ is,
        ),
      )

  rank-kept : (m : ℕ) → IsRank m → Contains (map rank numbers) m
  unfolding IsRank
  rank-kept m (p, inl won) =
      let n = kept-number p (Win m) won in
      subst (Contains (map rank numbers)) (rank-win n.0 m (stands n.0) n.1.1) (Contains-map rank numbers n.0 n.1.0)
  rank-kept m (p, inr lost) =
      let n = kept-number p (Loss m) lost in
      subst (Contains (map rank numbers)) (rank-loss n.0 m (stands n.0) n.1.1) (Contains-map rank numbers n.0 n.1.0)

  rank-small : (r : ℕ) → IsRank r → r < entry_count k
  rank-small r h =
      let all : suc r ≤ length (map rank numbers) = no_more (suc r) (map rank numbers) (λ m below. rank-kept m (rank-below r m (omega arith) h)) in
      let same = length-map numbers rank in
      let entries = table.entries in
      omega arith

  few_entries : entry_count k ≤ 651010
  few_entries =
      elim table.size [
        | inl two ↦ (let same : entry_count k ≡ entry_count 2 = ap entry_count two in let count = block_sizes.count_of_two in omega arith)
        | inr three ↦ (let same : entry_count k ≡ entry_count 3 = ap entry_count three in let count = block_sizes.count_of_three in omega arith)
      ]

  number-small : (n : ℕ) (p : Board) → answers k numbers p ≡ answer_of n → Stands n → n < 2 ^ 32
  unfolding IsRank
  number-small n p is (for_none none e) = omega arith
  number-small n p is (for_draw drawn e) = omega arith
  number-small n p is (for_loss r lost e) = let low : r < entry_count k = rank-small r (p, inr (is ∙ e)) in let few = few_entries in omega arith
  number-small n p is (for_win r won e) = let low : r < entry_count k = rank-small r (p, inl (is ∙ e)) in let few = few_entries in omega arith

  number-at : (i : ℕ) → i < entry_count k → (o : Option Board) → position_at i ≡ o → slice_index numbers i < 2 ^ 32
  number-at i below None is = let none = table.no_position i below is in omega arith
  number-at i below (Some p) is =
      let at = indices_hold_positions k i p (size-at_most k table.size) below is in
      number-small (slice_index numbers i) p
      (answers-kept k numbers p (is_lawful-true p at.lawful) at.few ∙ ap (λ j. answer_of (slice_index numbers j)) at.index)
      (stands (slice_index numbers i))

  -- so they are numbers of 4 bytes
  pub table-words : All (λ n. n < 2 ^ 32) numbers
  table-words j d below =
      subst (λ n. n < 2 ^ 32) (get_or_default numbers j 0 d below) (number-at j (subst (λ n. j < n) table.entries below) (position_at j) refl)
