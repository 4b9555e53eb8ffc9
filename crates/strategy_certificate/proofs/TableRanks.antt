-- The ranks of a sound table of at most three pieces are low: below a position of rank r stand positions of all lower ranks,
-- each with an index of its own.
use Rattle.std.proofs.Common.{◌≡◌, ℕ, zero, suc, ◌≤◌, ◌<◌, ◌⊎◌, inl, inr, List, [], ◌∷◌, refl, sym, ◌∙◌, ap, subst, true, false, length, Option, Some, arith}
use Rattle.std.specs.Prelude.{Contains, IsSome}
use Rattle.std.specs.List.{IsDistinct, list_any}
use Rattle.std.proofs.Math.Dec.{eqb}
use Rattle.std.proofs.lemmas.Bool.{eqb-true}
use Rattle.std.proofs.lemmas.List.Elements.{recursion_from_All, All-weaker, All-nil, All-contains_itself}
use Rattle.std.proofs.lemmas.Map.Keys.{IsDistinct-cons}
use Rattle.std.proofs.lemmas.Map.Steps.{length-le_from_distinct_below}
use Rattle.draughts_board.specs.Board.{Board, IsLawful, piece_count}
use Rattle.draughts_board.specs.Draughts.{draughts}
use Rattle.draughts_board.specs.declared.pieces.Side.{Side}
use Rattle.draughts_board.proofs.Members.{bool_cases, true_any, Contains-nil, Contains-cons_cases}
use Rattle.draughts_board.proofs.Successors.{lawful-from_test}
use Rattle.strategy_certificate.specs.declared.oracle.Answer.{Answer}
use Rattle.strategy_certificate.specs.declared.oracle.Answer.TheVariants.{Win, Loss}
use Rattle.strategy_certificate.specs.Tables.{IsSoundTable, TableWins}
use Rattle.table_index.specs.Order.{index_of}
use Rattle.table_index.proofs.OrderLemmas.{positions_have_indices, no_index_is_shared, block_sizes}
use Rattle.strategy_certificate.specs.Laws.{TableRanksAreLow}

none_distinct : IsDistinct eqb []
unfolding IsDistinct
none_distinct = tt

module _ (k : ℕ) (few : k ≤ 3) (answer : Board → Option Answer) (sound : IsSoundTable draughts k answer) where
  -- the position is won or lost with this rank
  abbrev Ranked : ℕ → Board → Type 0
  Ranked m p = (answer p ≡ Some (Win m)) ⊎ (answer p ≡ Some (Loss m))

  same_rank : (m n : ℕ) (p : Board) → Ranked m p → Ranked n p → m ≡ n
  same_rank m n p (inl a) (inl b) = cc
  same_rank m n p (inl a) (inr b) = absurd (cc)
  same_rank m n p (inr a) (inl b) = absurd (cc)
  same_rank m n p (inr a) (inr b) = cc

  -- a position of rank r + 1 leads to one of rank r
  next_rank : (r : ℕ) (p : Board) → Ranked (suc r) p → (q : Board) × Ranked r q
  next_rank r p (inl won) =
      let right = sound.right p (Win (suc r)) won in
      let next = right.1.1.0 in
      let same : right.0 ≡ r = (let e : suc r ≡ suc right.0 = right.1.0 in omega arith) in
      (next.0, inr (subst (λ l. answer next.0 ≡ Some (Loss l)) same next.1.1))
  next_rank r p (inr lost) =
      elim (sound.right p (Loss (suc r)) lost).1 [
        | inl none ↦ absurd (omega arith)
        | inr next ↦ (let same : next.1.1.0 ≡ r = (let e : suc r ≡ suc next.1.1.0 = next.1.1.1.1 in omega arith) in (next.0, inl (subst (λ m. answer next.0 ≡ Some (Win m)) same next.1.1.1.0)))
      ]

  some_from : (p : Board) (a : Answer) → answer p ≡ Some a → IsSome (answer p)
  some_from p a is = subst IsSome (sym is) refl

  ranked_some : (m : ℕ) (p : Board) → Ranked m p → IsSome (answer p)
  ranked_some m p (inl is) = some_from p (Win m) is
  ranked_some m p (inr is) = some_from p (Loss m) is

  lawful : (m : ℕ) (p : Board) → Ranked m p → IsLawful p
  lawful m p ranked = lawful-from_test p ((sound.answered p).0 (ranked_some m p ranked)).0

  few_pieces : (m : ℕ) (p : Board) → Ranked m p → piece_count p ≤ 3
  few_pieces m p ranked = let le = ((sound.answered p).0 (ranked_some m p ranked)).1 in omega arith

  -- the index of a position with a rank of at most r
  abbrev IsIndex : ℕ → ℕ → Type 0
  IsIndex r i = (p : Board) × ((index_of p ≡ i) × ((m : ℕ) × ((m ≤ r) × Ranked m p)))

  -- r + 1 different indices, each of a position with a rank of at most r
  record Indices (r : ℕ) : Type 0 where
    indices : List ℕ
    many : length indices ≡ suc r
    distinct : IsDistinct eqb indices
    each : (i : ℕ) → Contains indices i → IsIndex r i

  index_apart : (r : ℕ) (p : Board) → Ranked (suc r) p → (i : ℕ) → IsIndex r i → eqb (index_of p) i ≡ false
  index_apart r p ranked i (q, (is, (m, (le, below)))) =
      elim (bool_cases (eqb (index_of p) i)) [
        | inl same ↦ absurd (
            let at : index_of p ≡ index_of q = eqb-true (index_of p) i same ∙ sym is in
            let e = no_index_is_shared p q (lawful (suc r) p ranked) (lawful m q below) (few_pieces (suc r) p ranked) (few_pieces m q below) at in
            let both : m ≡ suc r = same_rank m (suc r) q below (subst (Ranked (suc r)) e ranked) in
            omega arith)
        | inr apart ↦ apart
      ]

  indices_from : (r : ℕ) (p : Board) → Ranked r p → Indices r
  indices_from zero p ranked = record {
    indices = index_of p ∷ [];
    many = refl;
    distinct = IsDistinct-cons eqb (index_of p) [] (recursion_from_All (λ y. eqb (index_of p) y ≡ false) [] (All-nil (λ y. eqb (index_of p) y ≡ false))) none_distinct;
    each = λ i there. elim (Contains-cons_cases (index_of p) [] i there) [ inl is ↦ (p, (is, (0, (omega arith, ranked)))) | inr none ↦ absurd (Contains-nil i none) ];
  }
  indices_from (suc r) p ranked =
      let next = next_rank r p ranked in
      let rest = indices_from r next.0 next.1 in
      record {
        indices = index_of p ∷ rest.indices;
        many = ap suc rest.many;
        distinct = IsDistinct-cons eqb (index_of p) rest.indices
            (recursion_from_All (λ y. eqb (index_of p) y ≡ false) rest.indices (All-weaker (Contains rest.indices) (λ y. eqb (index_of p) y ≡ false) (λ i there. index_apart r p ranked i (rest.each i there)) rest.indices (All-contains_itself rest.indices)))
            rest.distinct;
        each = λ i there. elim (Contains-cons_cases (index_of p) rest.indices i there) [
          | inl is ↦ (p, (is, (suc r, (omega arith, ranked))))
          | inr behind ↦ (let old = rest.each i behind in let le = old.1.1.1.0 in (old.0, (old.1.0, (old.1.1.0, (omega arith, old.1.1.1.1)))))
        ];
      }

  below_count : (r : ℕ) (all : Indices r) (i : ℕ) → list_any (eqb i) all.indices ≡ true → i < 651010
  below_count r all i any =
      let found = true_any (eqb i) all.indices any in
      let index = all.each found.0 found.1.0 in
      let low = positions_have_indices index.0 3 (lawful index.1.1.0 index.0 index.1.1.1.1) (few_pieces index.1.1.0 index.0 index.1.1.1.1) (omega arith) in
      let same : i ≡ index_of index.0 = eqb-true i found.0 found.1.1 ∙ sym index.1.0 in
      let count = block_sizes.count_of_three in
      omega arith

  rank_low : (r : ℕ) (p : Board) → Ranked r p → r < 651010
  rank_low r p ranked =
      let all = indices_from r p ranked in
      let le = length-le_from_distinct_below all.indices 651010 all.distinct (below_count r all) in
      let many = all.many in
      omega arith

  pub table_rank_low : (s : Side) (r : ℕ) (p : Board) → TableWins draughts answer s r p → r < 651010
  table_rank_low s r p (inl won) = rank_low r p (inl won.1)
  table_rank_low s r p (inr lost) = rank_low r p (inr lost.1)

pub table_ranks_are_low : TableRanksAreLow
table_ranks_are_low k answer few sound s r p shown = table_rank_low k few answer sound s r p shown
