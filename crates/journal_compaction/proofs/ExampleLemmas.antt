-- Where nodes stand in the forests of the worked examples.
use Rattle.std.proofs.Common.{◌≡◌, ℕ, zero, suc, ◌<◌, ◌≤◌, ◌⊎◌, inl, inr, ⊎_elim, List, [], ◌∷◌, Option, Some, None, IsSome, sym, ◌∙◌, subst, arith}
use Rattle.std.proofs.lemmas.Bool.{false≢true}
use Rattle.draughts_board.specs.declared.pieces.Value.{Value}
use Rattle.draughts_board.specs.declared.pieces.Value.TheVariants.{WhiteWins}
use Rattle.bench_records.specs.declared.records.BenchRecord.TheVariants.{Expand}
use Rattle.journal_compaction.specs.Compactions.{end_in}
use Rattle.journal_compaction.specs.Places.{number_at}
use Rattle.journal_compaction.specs.Examples.{below_first, below_second, old_forest, new_forest, Stands}

nothing : (n : ℕ) → ◌≡◌ {A = Option ℕ} None (Some n) → ⊥
nothing n e = cc

in_second : (a b i : ℕ) (down : List ℕ) (n : ℕ) → number_at i down (below_second a b) ≡ Some n → (n ≡ a) ⊎ (n ≡ b)
in_second a b zero [] n e = inl (let z : a ≡ n = cc in sym z)
in_second a b zero (j ∷ down) n e = absurd (nothing n e)
in_second a b (suc zero) [] n e = inr (let z : b ≡ n = cc in sym z)
in_second a b (suc zero) (j ∷ down) n e = absurd (nothing n e)
in_second a b (suc (suc i)) down n e = absurd (nothing n e)

in_first : (i : ℕ) (down : List ℕ) (n : ℕ) → number_at i down below_first ≡ Some n → n < 4
in_first zero [] n e = let z : 1 ≡ n = cc in omega (arith, z)
in_first zero (j ∷ down) n e = absurd (nothing n e)
in_first (suc zero) [] n e = let z : 2 ≡ n = cc in omega (arith, z)
in_first (suc zero) (j ∷ down) n e = absurd (nothing n e)
in_first (suc (suc zero)) [] n e = let z : 3 ≡ n = cc in omega (arith, z)
in_first (suc (suc zero)) (j ∷ down) n e = absurd (nothing n e)
in_first (suc (suc (suc i))) down n e = absurd (nothing n e)

-- the nodes of the first root
below_four : (down : List ℕ) (n : ℕ) → number_at zero down old_forest ≡ Some n → n < 4
below_four [] n e = let z : 0 ≡ n = cc in omega (arith, z)
below_four (j ∷ down) n e = in_first j down n e

-- those of the second
past_three : (down : List ℕ) (n : ℕ) → number_at (suc zero) down old_forest ≡ Some n → 4 ≤ n
past_three [] n e = let z : 4 ≡ n = cc in omega (arith, z)
past_three (j ∷ down) n e =
    ⊎_elim (λ z. omega (arith, z)) (λ z. omega (arith, z)) (in_second 5 6 j down n e)

-- those of the new forest
few_new : (i : ℕ) (down : List ℕ) (n : ℕ) → number_at i down new_forest ≡ Some n → n < 4
few_new zero [] n e = let z : 0 ≡ n = cc in omega (arith, z)
few_new zero (j ∷ down) n e = absurd (nothing n e)
few_new (suc zero) [] n e = let z : 1 ≡ n = cc in omega (arith, z)
few_new (suc zero) (j ∷ down) n e =
    ⊎_elim (λ z. omega (arith, z)) (λ z. omega (arith, z)) (in_second 2 3 j down n e)
few_new (suc (suc i)) down n e = absurd (nothing n e)

-- ---- what stands for no record

module _ (first : end_in old_forest 0 ≡ Some WhiteWins) (second : end_in old_forest 1 ≡ None) where
  -- no node below four is of an unsettled root
  unsettled : (i : ℕ) (down : List ℕ) (n : ℕ) → end_in old_forest i ≡ None → number_at i down old_forest ≡ Some n → 4 ≤ n
  unsettled zero down n end e = absurd (let z : ◌≡◌ {A = Option Value} None (Some WhiteWins) = sym end ∙ first in cc)
  unsettled (suc zero) down n end e = past_three down n e
  unsettled (suc (suc i)) down n end e = absurd (nothing n e)

  settled : (i : ℕ) (down : List ℕ) (n : ℕ) → IsSome (end_in old_forest i) → number_at i down old_forest ≡ Some n → n < 4
  settled zero down n some e = below_four down n e
  settled (suc zero) down n some e = absurd (false≢true (subst (λ (o : Option Value). IsSome o) second some))
  settled (suc (suc i)) down n some e = absurd (nothing n e)

  pub copied_by : Stands (Expand 2) (Expand 2 ∷ []) → ⊥
  copied_by (inl (i, (some, (place, is)))) = cc
  copied_by (inr (i, (m, (end, (place, is))))) =
      let l = unsettled i place.down 2 end place.in_old in omega (arith, l)

  pub left_out_by : Stands (Expand 6) [] → ⊥
  left_out_by (inl (i, (some, (place, is)))) = let l = settled i place.down 6 some place.is in omega (arith, l)
  left_out_by (inr (i, (m, (end, (place, is))))) = cc

  pub same_number_by : Stands (Expand 6) (Expand 6 ∷ []) → ⊥
  same_number_by (inl (i, (some, (place, is)))) = cc
  same_number_by (inr (i, (m, (end, (place, is))))) =
      let l = few_new i place.down m place.in_new in
      let z : 6 ≡ m = cc in omega (arith, l, z)
